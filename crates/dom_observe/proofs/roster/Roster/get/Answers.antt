-- It is there, and so is the item of its number.
use Rattle.std.proofs.Common.{Option, Some, None, IsSome, Bor, ap, refl}
use Rattle.std.specs.Option.{option_copied}
use Rattle.std.proofs.lemmas.Bool.{false≢true}
use Rattle.dom_observe.proofs.roster.Roster.get.Goals as goal

there : {X : Type 0} (r : Option (Bor X)) → IsSome (option_copied r) → IsSome r
there None h = absurd (false≢true h)
there (Some x) h = refl

pub unwrap-requires : goal.unwrap-requires
unwrap-requires c = there c.get.result (rw (c.get.ensures, c.number.ensures, c.self.view_is) c.requires)

pub returns : goal.returns
returns c = rw (← c.self.view_is, ← c.number.ensures, ← c.get.ensures) (ap option_copied c.unwrap.ensures)
