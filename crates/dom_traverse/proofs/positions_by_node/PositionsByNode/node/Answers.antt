-- The node is read of the item.
use Rattle.std.proofs.Common.{ap, sym, ◌∙◌}
use Rattle.dom_traverse.proofs.AreSpreadLemmas.{node-read, node_of}
use Rattle.dom_traverse.proofs.positions_by_node.PositionsByNode.node.Goals as goal

pub returns-in_err-node : goal.returns-in_err-node
returns-in_err-node c = c.from_residual.ensures ∙ sym (node-read c.self.inside.chains.items c.args.self.now c.self.view_is c.args.id c.get.result c.get.ensures ∙ ap node_of c.in_err-node.was)

pub returns : goal.returns
returns c = sym (node-read c.self.inside.chains.items c.args.self.now c.self.view_is c.args.id c.get.result c.get.ensures ∙ ap node_of c.in_ok-node.was)
