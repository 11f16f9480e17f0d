-- The counts ahead are added up.
use Rattle.std.proofs.Common.{sym, ◌∙◌, ap, arith, ◌+◌, slice_index_or}
use Rattle.dom_tree.proofs.BlockCountLemmas.{ahead-grows, ahead-step}
use Rattle.dom_tree.proofs.block_counts.add_up.Goals as goal

pub overflow_add-sum : goal.overflow_add-sum
overflow_add-sum c =
    let k = ahead-step c.args.counts.now c.loop-passed.passed in
    let m = ahead-grows c.args.counts.now (c.loop-passed.passed + 1) c.args.until (omega (arith, c.loop-passed-test.true)) in
    omega (arith, k, m, c.requires.few, c.loop-passed.invariant)

pub loop-passed-preserved : goal.loop-passed-preserved
loop-passed-preserved c =
    ap (λ n. n + slice_index_or c.args.counts.now c.loop-passed.passed 0) c.loop-passed.invariant ∙ sym (ahead-step c.args.counts.now c.loop-passed.passed)
