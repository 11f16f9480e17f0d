-- The walk goes on from past the node where it stands.
use Rattle.std.proofs.Common.{◌≡◌, ◌*◌}
use Rattle.dom_model.specs.Definitions.{size, back_past_node, previous_step, previous_by_steps, moves_left}
use Rattle.dom_model.proofs.Traversal.WalksEnd.{Walks}
use Rattle.dom_traverse.proofs.walker_moves.previous_node.Given as goal

abbrev pub invariant-loop-sibling : goal.invariant-loop-sibling
invariant-loop-sibling g l = record {
  tree : l.here.tree ≡ l.tree;
  walks : Walks (previous_step l.tree.forest l.filter l.root l.fn.current) (4 * size l.tree.forest) (back_past_node l.tree.forest l.filter l.root l.fn.current l.here.node) (previous_by_steps l.tree.forest l.filter l.root l.fn.current);
}

abbrev pub decreases-loop-sibling : goal.decreases-loop-sibling
decreases-loop-sibling g l = moves_left (previous_step l.tree.forest l.filter l.root l.fn.current) (4 * size l.tree.forest) (back_past_node l.tree.forest l.filter l.root l.fn.current l.here.node)
