-- The way down has led here.
use Rattle.std.proofs.Common.{◌≡◌}
use Rattle.dom_model.specs.Definitions.{HasNode, size, tree_at}
use Rattle.dom_traverse.specs.Ends.{Descends}
use Rattle.dom_traverse.proofs.walker_moves.end_of.Given as goal

abbrev pub invariant-loop-here : goal.invariant-loop-here
invariant-loop-here g l = record {
  tree : l.here.tree ≡ l.fn.node.tree;
  there : HasNode l.fn.node.tree.forest l.here.node;
  descends : Descends l.fn.node.tree.forest l.filter l.fn.node.node l.here.node;
}

abbrev pub decreases-loop-here : goal.decreases-loop-here
decreases-loop-here g l = size (tree_at l.here.node l.fn.node.tree.forest)
