use Rattle.std.proofs.Common.{Some, length, ap, sym, ◌∙◌}
use Rattle.dom_traverse.specs.PositionsByNode.{bucket_of, item_nodes}
use Rattle.dom_traverse.proofs.AreSpreadLemmas.{none-stands}
use Rattle.dom_traverse.proofs.positions_by_node.PositionsByNode.first.Goals as goal

pub returns-clause-none : goal.returns-clause-none
returns-clause-none c =
    rw (sym c.self.view_is)
    (none-stands (item_nodes c.self.inside.chains.items) c.self.inside.chains c.self.invariant c.args.node c.place_of-place.result c.first.result (c.place_of-place.ensures.place ∙ ap (λ k. bucket_of k (Some c.number.result)) c.key_count.ensures ∙ ap (λ m. bucket_of (length c.self.inside.chains.covered) (Some m)) c.number.ensures) c.first.ensures.none)
