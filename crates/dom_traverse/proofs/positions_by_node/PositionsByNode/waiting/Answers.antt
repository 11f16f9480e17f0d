use Rattle.std.proofs.Common.{sym}
use Rattle.dom_traverse.specs.PositionsByNode.{item_nodes}
use Rattle.dom_traverse.proofs.AreSpreadLemmas.{none-waits}
use Rattle.dom_traverse.proofs.positions_by_node.PositionsByNode.waiting.Goals as goal

pub returns-clause-none : goal.returns-clause-none
returns-clause-none c = rw (sym c.self.view_is) (none-waits (item_nodes c.self.inside.chains.items) c.self.inside.chains c.self.invariant c.first.result c.first.ensures.none)
