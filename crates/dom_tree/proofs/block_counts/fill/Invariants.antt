-- The blocks that were made are whole, but for the last.
use Rattle.std.proofs.Common.{◌≡◌, ℕ, ◌*◌, ◌≤◌, min, length, vec_capacity}
use Rattle.dom_tree.specs.Blocks.{count_ahead, block_size}
use Rattle.dom_tree.proofs.block_counts.fill.Given as goal

abbrev pub invariant-loop-block : goal.invariant-loop-block
invariant-loop-block l = record {
  made : length l.counts.items ≡ l.block;
  ahead : (block : ℕ) → block ≤ l.block → count_ahead l.counts.items block ≡ min (block_size * block) l.fn.count;
  room : l.blocks ≤ vec_capacity l.counts;
}
