use Rattle.std.proofs.Common.{arith, ◌<◌, length, sym, ◌∙◌}
use Rattle.std.proofs.lemmas.List.{length-set}
use Rattle.dom_session.proofs.LaidOverLemmas.{laid_over-set, laid_over-full, laid_over-all}
use Rattle.dom_session.proofs.neighbours.lay_over.Goals as goal

pub loop-child-preserved : goal.loop-child-preserved
loop-child-preserved c =
    let l = c.loop-child in
    let inside : l.at < length l.into = omega (arith, l.invariant.1, c.if-at-into.false) in (
      rw (c.number.ensures) (l.invariant.0 ∙ rw (c.in-Some.ensures.steps) (laid_over-set c.in-Some.child c.next.new.self l.into l.at inside)),
      rw (length-set l.into l.at c.number.result) (omega (arith, inside)),
    )

pub returns-then-at-into : goal.returns-then-at-into
returns-then-at-into c =
    let l = c.loop-child in
    sym (l.invariant.0 ∙ laid_over-full l.child-iterator l.into l.at c.if-at-into.true)

pub returns : goal.returns
returns c =
    let l = c.loop-child in
    sym (l.invariant.0 ∙ rw (c.in-None.ensures.steps.0) (laid_over-all l.into l.at))
