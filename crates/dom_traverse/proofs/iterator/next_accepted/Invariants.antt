-- What is still to be found follows where the walk stands.
use Rattle.std.proofs.Common.{◌≡◌, length, true}
use Rattle.dom_model.specs.Definitions.{among, past, ancestors, inclusive_descendants}
use Rattle.dom_model.proofs.Traversal.IteratorSteps.{following_found}
use Rattle.dom_traverse.proofs.iterator.next_accepted.Given as goal

abbrev pub invariant-loop-next : goal.invariant-loop-next
invariant-loop-next g l = record {
  tree : l.here.tree ≡ l.tree;
  under : among l.root (ancestors l.here.node l.tree.forest) ≡ true;
  same : following_found l.tree.forest l.filter l.root l.fn.node ≡ following_found l.tree.forest l.filter l.root l.here.node;
}

abbrev pub decreases-loop-next : goal.decreases-loop-next
decreases-loop-next g l = length (past l.here.node (inclusive_descendants l.tree.forest l.root))
