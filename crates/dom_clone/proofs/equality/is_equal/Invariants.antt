use Rattle.std.proofs.Common.{length}
use Rattle.dom_model.specs.Definitions.{inclusive_descendants, from_first}
use Rattle.dom_clone.proofs.EqualWalkLemmas.{AreWalking}
use Rattle.dom_clone.proofs.equality.is_equal.Given as goal

abbrev pub invariant-loop-node : goal.invariant-loop-node
invariant-loop-node l = AreWalking l.tree.forest l.fn.node l.fn.other l.left l.right

abbrev pub decreases-loop-node : goal.decreases-loop-node
decreases-loop-node l = length (from_first l.left (inclusive_descendants l.tree.forest l.fn.node))
