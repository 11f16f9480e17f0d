-- The walk finds from where it stands what it finds from where it began.
use Rattle.std.proofs.Common.{◌≡◌, ◌*◌}
use Rattle.dom_model.specs.Definitions.{size, at, moves_left}
use Rattle.dom_traverse.specs.SiblingWalks.{course_step, LeadsTo}
use Rattle.dom_traverse.proofs.sibling_walk.SiblingWalk.run.Given as goal

abbrev pub invariant-loop-verdict : goal.invariant-loop-verdict
invariant-loop-verdict g l = record {
  tree : l.here.tree ≡ l.fn.node.tree;
  leads : LeadsTo l.fn.node.tree.forest l.filter l.self (at l.fn.node.node) (at l.here.node);
}

abbrev pub decreases-loop-verdict : goal.decreases-loop-verdict
decreases-loop-verdict g l = moves_left (course_step l.fn.node.tree.forest l.filter l.self) (4 * size l.fn.node.tree.forest) (at l.here.node)
