use Rattle.std.proofs.Common.{add-one, arith, sym, ◌∙◌}
use Rattle.dom_attrs.proofs.TakeLemmas.{take-next, take-whole}
use Rattle.dom_attrs.proofs.Attrs.is_in_order_of.Goals as goal

pub loop-index-preserved : goal.loop-index-preserved
loop-index-preserved c =
    rw add-one (take-next c.args.self.now c.args.other.now c.loop-index.index c.loop-index.invariant (c.is_alike_at.ensures c.if-not-is_alike_at.false))

pub returns : goal.returns
returns c = λ yes.
    let i = c.loop-index.index in
    let past = c.loop-index-test.false in
    let end = c.len-index-end.ensures.len in
    let own = c.len.ensures.len in
    let others = c.len-2.ensures.len in
    let alike = c.if-len.false in
    sym (take-whole c.args.self.now i (omega (arith, past, end))) ∙ c.loop-index.invariant ∙ take-whole c.args.other.now i (omega (arith, past, end, own, others, alike))
