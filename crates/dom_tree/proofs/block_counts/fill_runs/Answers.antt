-- One more whole run, or the last.
use Rattle.std.proofs.Common.{◌*◌, ◌∷◌, [], ap, ◌∙◌, arith, length-append, length}
use Rattle.dom_tree.specs.Blocks.{count_ahead, block_size, run_size}
use Rattle.dom_tree.proofs.BlockCountLemmas.{ahead-pushed}
use Rattle.dom_tree.proofs.block_counts.fill_runs.Goals as goal

pub loop-run-preserved : goal.loop-run-preserved
loop-run-preserved c =
    let cs = c.loop-run.runs.items in
    let inv = c.loop-run.invariant in
    let pushed = ahead-pushed (λ q. block_size * (run_size * q)) 4096 (λ q. omega arith) cs c.min.result c.loop-run.run c.args.count inv.made inv.ahead (omega (arith, c.min.ensures)) (omega (arith, c.loop-run-test.true, c.div_ceil-wanted.ensures)) in
    record {
      made = omega (arith, ap length c.push_reserved.ensures.items, length-append cs (c.min.result ∷ []), inv.made);
      ahead = λ q h. ap (λ ns. count_ahead ns q) c.push_reserved.ensures.items ∙ pushed q h;
      room = omega (arith, inv.room, c.push_reserved.ensures.capacity);
    }
