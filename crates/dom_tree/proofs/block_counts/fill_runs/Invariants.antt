-- The runs that were made are whole, but for the last.
use Rattle.std.proofs.Common.{◌≡◌, ℕ, ◌*◌, ◌≤◌, min, length, vec_capacity}
use Rattle.dom_tree.specs.Blocks.{count_ahead, block_size, run_size}
use Rattle.dom_tree.proofs.block_counts.fill_runs.Given as goal

abbrev pub invariant-loop-run : goal.invariant-loop-run
invariant-loop-run l = record {
  made : length l.runs.items ≡ l.run;
  ahead : (run : ℕ) → run ≤ l.run → count_ahead l.runs.items run ≡ min (block_size * (run_size * run)) l.fn.count;
  room : l.wanted ≤ vec_capacity l.runs;
}
