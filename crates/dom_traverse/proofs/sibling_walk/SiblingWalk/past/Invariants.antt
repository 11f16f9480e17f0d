-- The walk has come past the node where it began to past where it stands.
use Rattle.std.proofs.Common.{◌≡◌, ◌*◌}
use Rattle.dom_model.specs.Definitions.{size, moves_left}
use Rattle.dom_traverse.specs.SiblingWalks.{course_step, past_in, LeadsTo}
use Rattle.dom_traverse.proofs.sibling_walk.SiblingWalk.past.Given as goal

abbrev pub invariant-loop-here : goal.invariant-loop-here
invariant-loop-here g l = record {
  tree : l.here.tree ≡ l.fn.node.tree;
  leads : LeadsTo l.fn.node.tree.forest l.filter l.self (past_in l.fn.node.tree.forest l.filter l.self l.fn.node.node) (past_in l.fn.node.tree.forest l.filter l.self l.here.node);
}

abbrev pub decreases-loop-here : goal.decreases-loop-here
decreases-loop-here g l = moves_left (course_step l.fn.node.tree.forest l.filter l.self) (4 * size l.fn.node.tree.forest) (past_in l.fn.node.tree.forest l.filter l.self l.here.node)
