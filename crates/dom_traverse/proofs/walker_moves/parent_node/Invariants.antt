-- The walk goes on from a node whose inside is left behind.
use Rattle.std.proofs.Common.{◌≡◌, ◌*◌}
use Rattle.dom_model.specs.Definitions.{size, leaving, parent_step, parent_by_steps, moves_left}
use Rattle.dom_model.proofs.Traversal.WalksEnd.{Walks}
use Rattle.dom_traverse.proofs.walker_moves.parent_node.Given as goal

abbrev pub invariant-loop-here : goal.invariant-loop-here
invariant-loop-here g l = record {
  tree : l.here.tree ≡ l.tree;
  walks : Walks (parent_step l.tree.forest l.filter l.root l.fn.current) (4 * size l.tree.forest) (leaving l.here.node) (parent_by_steps l.tree.forest l.filter l.root l.fn.current);
}

abbrev pub decreases-loop-here : goal.decreases-loop-here
decreases-loop-here g l = moves_left (parent_step l.tree.forest l.filter l.root l.fn.current) (4 * size l.tree.forest) (leaving l.here.node)
