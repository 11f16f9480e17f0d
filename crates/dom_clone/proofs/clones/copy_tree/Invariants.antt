use Rattle.std.proofs.Common.{◌≡◌, ◌+◌, ◌-◌, unwrap_or}
use Rattle.dom_model.specs.Definitions.{size, tree_at}
use Rattle.dom_clone.proofs.IsCopyingLemmas.{IsCopying}
use Rattle.dom_clone.proofs.clones.copy_tree.Given as goal

abbrev pub invariant-loop-next : goal.invariant-loop-next
invariant-loop-next l = record {
  copying : IsCopying l.fn.world l.fn.node (unwrap_or l.fn.document l.fn.world.tree.made) l.world l.waiting.items;
  observers : l.world.observers ≡ l.fn.world.observers;
}

abbrev pub decreases-loop-next : goal.decreases-loop-next
decreases-loop-next l = l.fn.world.tree.made + size (tree_at l.fn.node l.fn.world.tree.forest) - l.world.tree.made
