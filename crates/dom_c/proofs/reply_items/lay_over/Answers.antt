use Rattle.std.proofs.Common.{arith, ◌+◌, drop, slice_index_or}
use Rattle.std.proofs.lemmas.List.{drop_more, drop_all}
use Rattle.dom_c.proofs.LaidOverLemmas.{copied-next, copied-all}
use Rattle.dom_c.proofs.reply_items.lay_over.Goals as goal

pub loop-number-preserved : goal.loop-number-preserved
loop-number-preserved c =
    let l = c.loop-number in
    let ns = c.args.numbers.now in
    copied-next ns c.args.into.now l.into l.at (drop l.number-index ns) l.invariant.0 (drop (l.number-index + 1) ns) (slice_index_or ns l.number-index 0)
    (drop_more ns l.number-index 0 c.loop-number-test.true) l.invariant.1 c.if-at-into.false

pub returns : goal.returns
returns c =
    let l = c.loop-number in
    let ns = c.args.numbers.now in
    copied-all ns c.args.into.now l.into l.at (drop l.number-index ns) l.invariant.0 (drop_all l.number-index ns (omega (arith, c.loop-number-test.false)))
