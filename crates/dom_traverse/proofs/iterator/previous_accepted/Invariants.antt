-- What is still to be found precedes where the walk stands.
use Rattle.std.proofs.Common.{◌≡◌, length, true}
use Rattle.dom_model.specs.Definitions.{among, up_to, ancestors, inclusive_descendants}
use Rattle.dom_model.proofs.Traversal.IteratorSteps.{preceding_found}
use Rattle.dom_traverse.proofs.iterator.previous_accepted.Given as goal

abbrev pub invariant-loop-previous : goal.invariant-loop-previous
invariant-loop-previous g l = record {
  tree : l.here.tree ≡ l.tree;
  under : among l.root (ancestors l.here.node l.tree.forest) ≡ true;
  same : preceding_found l.tree.forest l.filter l.root l.fn.node ≡ preceding_found l.tree.forest l.filter l.root l.here.node;
}

abbrev pub decreases-loop-previous : goal.decreases-loop-previous
decreases-loop-previous g l = length (up_to l.here.node (inclusive_descendants l.tree.forest l.root))
