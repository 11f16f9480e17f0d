-- The other node is above where the walk stands, where it is above the node.
use Rattle.std.proofs.Common.{◌≡◌, length}
use Rattle.dom_model.specs.Definitions.{among, HasNode, ancestors}
use Rattle.dom_edit.proofs.pre_insertion.is_inside.Given as goal

abbrev pub invariant-loop-here : goal.invariant-loop-here
invariant-loop-here l = record {
  tree : l.here.tree ≡ l.top.tree;
  there : HasNode l.top.tree.forest l.here.node;
  same : among l.top.node (ancestors l.here.node l.top.tree.forest) ≡ among l.top.node (ancestors l.fn.node.node l.top.tree.forest);
}

abbrev pub decreases-loop-here : goal.decreases-loop-here
decreases-loop-here l = length (ancestors l.here.node l.top.tree.forest)
