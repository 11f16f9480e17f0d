-- The clause of a borrowed observer.
use Rattle.std.specs.Prelude.{ℕ, List, Option, Some, slice_set}
use Rattle.std.specs.Borrow.{Lends, MutBor, Fml}
use Rattle.dom_observe.specs.declared.roster.Observer.{Observer}
use Rattle.dom_observe.specs.contracts.roster.Roster as roster
use Rattle.dom_observe.specs.contracts.roster.Observer as observer

-- the roster ends with the last value behind r under number n
abbrev pub lends_observer : MutBor (List (Option Observer)) → ℕ → MutBor Observer → Fml
lends_observer s n r = Lends roster.the_row observer.the_row s r (λ w. slice_set s.now n (Some w))
