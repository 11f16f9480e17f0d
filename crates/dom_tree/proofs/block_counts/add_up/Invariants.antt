-- What stands in the blocks that were passed.
use Rattle.std.proofs.Common.{◌≡◌}
use Rattle.dom_tree.specs.Blocks.{count_ahead}
use Rattle.dom_tree.proofs.block_counts.add_up.Given as goal

abbrev pub invariant-loop-passed : goal.invariant-loop-passed
invariant-loop-passed l = l.sum ≡ count_ahead l.fn.counts l.passed
