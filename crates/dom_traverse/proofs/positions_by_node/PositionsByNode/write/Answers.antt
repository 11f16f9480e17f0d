-- The item comes to the place of its node.
use Rattle.std.proofs.Common.{set, ap, ◌∙◌}
use Rattle.dom_traverse.specs.PositionsByNode.{bucket_of, item_nodes, AreSpread}
use Rattle.dom_traverse.proofs.{AreSpreadLemmas.spread-view, AreSpreadLemmas.spread-own, AreSpreadLemmas.spread-written, positions_by_node.PositionsByNode.write.Goals.After-place}
use Rattle.dom_traverse.proofs.positions_by_node.PositionsByNode.write.Goals as goal

written : (c : After-place) → AreSpread (set (item_nodes c.self.inside.chains.items) c.args.id c.args.node) c.place.new.self
written c = spread-written (item_nodes c.self.inside.chains.items) c.self.inside.chains c.self.invariant c.args.id c.args.node c.place_of-place.result c.place.new.self (c.place_of-place.ensures.place ∙ ap (λ k. bucket_of k c.args.node) c.key_count.ensures) c.place.ensures

pub invariant_of-self : goal.invariant_of-self
invariant_of-self c = spread-own _ c.place.new.self (written c)

pub returns : goal.returns
returns c = spread-view _ c.place.new.self (written c) ∙ ap (λ ns. set ns c.args.id c.args.node) c.self.view_is
