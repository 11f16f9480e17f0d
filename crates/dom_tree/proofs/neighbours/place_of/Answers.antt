-- What the table has for a number is placed.
use Rattle.std.proofs.Common.{IsSome, sym, ap, ◌∙◌, subst, Some}
use Rattle.dom_pages.specs.Numbered.{item_at}
use Rattle.dom_tree.proofs.PlaceTableLemmas.{leads-listed}
use Rattle.dom_tree.proofs.neighbours.place_of.Goals as goal

pub unwrap-requires : goal.unwrap-requires
unwrap-requires g c = subst IsSome (sym (c.get.ensures ∙ ap (item_at c.args.table.now.items) c.number.ensures)) c.requires.there

pub returns : goal.returns
returns g c =
    leads-listed c.args.table.now.items c.args.id (Some c.unwrap.result) (sym c.unwrap.ensures ∙ c.get.ensures ∙ ap (item_at c.args.table.now.items) c.number.ensures) c.requires.placed
