-- The nodes before the one that the walk has come to are copied.
use Rattle.std.proofs.Common.{◌≡◌, ◌-◌, length}
use Rattle.dom_session.proofs.Subtrees.{IsCopying}
use Rattle.dom_session.proofs.subtree.lay_over.Given as goal

abbrev pub invariant-loop-count : goal.invariant-loop-count
invariant-loop-count g l = record {
  tree : l.here.tree ≡ l.tree;
  copying : IsCopying l.tree.forest l.root l.fn.start g.R.NodeRow.row_of l.fn.into l.into l.here.node l.count;
}

abbrev pub decreases-loop-count : goal.decreases-loop-count
decreases-loop-count g l = length l.fn.into - l.count
