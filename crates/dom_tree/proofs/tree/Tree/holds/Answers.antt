-- A number has a node where the table has a place for it.
use Rattle.std.proofs.Common.{is_some, ap, sym, ◌∙◌}
use Rattle.dom_pages.specs.Numbered.{item_at}
use Rattle.dom_tree.proofs.{SlotStepLemmas.holds-read, PlaceTableLemmas.known-placed}
use Rattle.dom_tree.proofs.tree.Tree.holds.Goals as goal

pub returns : goal.returns
returns g c =
    c.is_some.ensures ∙ ap is_some c.get.ensures ∙ ap (λ n. is_some (item_at c.self.inside.table.items n)) c.number.ensures
    ∙ sym (known-placed c.self.inside.links c.self.inside.table.items c.args.id)
    ∙ holds-read c.self.invariant.tree c.self.view_is c.args.id
