-- The last item comes to the number.
use Rattle.std.proofs.Common.{None, length, swap_remove, ap, ◌∙◌, arith}
use Rattle.dom_traverse.specs.PositionsByNode.{item_nodes, AreSpread}
use Rattle.dom_traverse.proofs.{AreSpreadLemmas.spread-view, AreSpreadLemmas.spread-own, AreSpreadLemmas.spread-fewer, positions_by_node.PositionsByNode.swap_remove.Goals.After-swap_remove}
use Rattle.dom_traverse.proofs.positions_by_node.PositionsByNode.swap_remove.Goals as goal

fewer : (c : After-swap_remove) → AreSpread (swap_remove (item_nodes c.self.inside.chains.items) c.args.id None) c.swap_remove.new.self
fewer c = spread-fewer (item_nodes c.self.inside.chains.items) c.self.inside.chains c.self.invariant c.args.id c.swap_remove.new.self (omega (arith, c.requires, ap length c.self.view_is)) c.swap_remove.ensures.items c.swap_remove.ensures.covered

pub invariant_of-self : goal.invariant_of-self
invariant_of-self c = spread-own _ c.swap_remove.new.self (fewer c)

pub returns : goal.returns
returns c = spread-view _ c.swap_remove.new.self (fewer c) ∙ ap (λ ns. swap_remove ns c.args.id None) c.self.view_is
