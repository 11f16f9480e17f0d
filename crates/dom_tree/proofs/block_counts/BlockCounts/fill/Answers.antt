-- The runs are those of the blocks that were made.
use Rattle.std.proofs.Common.{refl}
use Rattle.dom_tree.proofs.BlockCountLemmas.{runs-filled}
use Rattle.dom_tree.proofs.block_counts.BlockCounts.fill.Goals as goal

pub invariant_of-self-2 : goal.invariant_of-self-2
invariant_of-self-2 c = runs-filled c.fill_runs.new.runs.items c.fill.new.counts.items c.args.count (c.if-not-fill.ensures.filled refl) c.fill_runs.ensures
