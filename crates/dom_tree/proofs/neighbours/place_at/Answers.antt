-- What the table has for a number is placed.
use Rattle.std.proofs.Common.{ap, ◌∙◌}
use Rattle.dom_pages.specs.Numbered.{item_at}
use Rattle.dom_tree.proofs.PlaceTableLemmas.{leads-listed}
use Rattle.dom_tree.proofs.neighbours.place_at.Goals as goal

pub returns : goal.returns
returns g c =
    leads-listed c.args.table.now.items c.args.id c.get.result (c.get.ensures ∙ ap (item_at c.args.table.now.items) c.number.ensures) (c.requires c.args.id)
