-- One more whole block, or the last.
use Rattle.std.proofs.Common.{◌*◌, ◌∷◌, [], ap, ◌∙◌, arith, length-append, length}
use Rattle.dom_tree.specs.Blocks.{count_ahead, block_size}
use Rattle.dom_tree.proofs.BlockCountLemmas.{ahead-pushed}
use Rattle.dom_tree.proofs.block_counts.fill.Goals as goal

pub loop-block-preserved : goal.loop-block-preserved
loop-block-preserved c =
    let cs = c.loop-block.counts.items in
    let inv = c.loop-block.invariant in
    let pushed = ahead-pushed (λ q. block_size * q) block_size (λ q. omega arith) cs c.min.result c.loop-block.block c.args.count inv.made inv.ahead (omega (arith, c.min.ensures)) (omega (arith, c.loop-block-test.true, c.div_ceil-blocks.ensures)) in
    record {
      made = omega (arith, ap length c.push_reserved.ensures.items, length-append cs (c.min.result ∷ []), inv.made);
      ahead = λ q h. ap (λ ns. count_ahead ns q) c.push_reserved.ensures.items ∙ pushed q h;
      room = omega (arith, inv.room, c.push_reserved.ensures.capacity);
    }
