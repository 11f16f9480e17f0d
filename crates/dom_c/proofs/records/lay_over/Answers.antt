use Rattle.std.proofs.Common.{arith, ◌+◌, ◌∷◌, drop, sym, ap, ◌∙◌, map}
use Rattle.std.proofs.lemmas.List.{drop_all}
use Rattle.dom_c.specs.Records.{record_out}
use Rattle.dom_c.proofs.LaidOverLemmas.{next-left, copied-next, copied-all}
use Rattle.dom_c.proofs.records.lay_over.Goals as goal

pub loop-found-preserved : goal.loop-found-preserved
loop-found-preserved c =
    let l = c.loop-found in
    let rs = c.args.records.now in
    let rest = map record_out (drop (l.found-index + 1) rs) in
    let next = ap (λ xs. map record_out xs) (next-left rs l.found-index c.found-item.result c.found-item.is c.loop-found-test.true) in
    copied-next (map record_out rs) c.args.into.now l.into l.at (map record_out (drop l.found-index rs)) l.invariant.0 rest c.record_told.result
    (next ∙ ap (λ y. y ∷ rest) (sym c.record_told.ensures)) l.invariant.1 c.if-at-into.false

pub returns : goal.returns
returns c =
    let l = c.loop-found in
    let rs = c.args.records.now in
    copied-all (map record_out rs) c.args.into.now l.into l.at (map record_out (drop l.found-index rs)) l.invariant.0
    (ap (λ xs. map record_out xs) (drop_all l.found-index rs (omega (arith, c.loop-found-test.false))))
