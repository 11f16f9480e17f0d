-- One rule more is passed.
use Rattle.std.proofs.Common.{◌≡◌, ℕ, ◌+◌, false, List, drop, sym, ap, ◌∙◌, bytes_eq, codes}
use Rattle.std.proofs.lemmas.List.{at_drop_all}
use Rattle.dom_model.specs.declared.Verdict.{Verdict}
use Rattle.dom_model.specs.Definitions.{FilterRule, ruled}
use Rattle.dom_traverse.specs.FilterRules.{known_or}
use Rattle.dom_traverse.proofs.FilterRuleLemmas.{rule-passed}
use Rattle.dom_traverse.proofs.judge.by_name.Goals as goal

pub loop-rule-preserved : goal.loop-rule-preserved
loop-rule-preserved c =
    let q = c.as_str.ensures.value ∙ ap (λ (r : FilterRule). r.name) c.rule.view_is in
    let other : bytes_eq c.rule-item.result.name (codes "*") ≡ false = ap (λ (n : List ℕ). bytes_eq n (codes "*")) (sym q) ∙ sym c.eq.ensures ∙ c.if-eq.false in
    λ name.
    c.loop-rule.invariant name
    ∙ ap (λ (v : Verdict). known_or c.loop-rule.verdicts v name) (rule-passed c.args.rules.now c.loop-rule.rule-index c.rule-item.result name c.loop-rule-test.true c.rule-item.is other)
    ∙ sym (c.in_ok-note.ensures name (ruled (drop (c.loop-rule.rule-index + 1) c.args.rules.now) name))

pub returns : goal.returns
returns c =
    λ name.
    c.loop-rule.invariant name
    ∙ ap (λ (v : Verdict). known_or c.loop-rule.verdicts v name) (at_drop_all (λ (rs : List FilterRule). ruled rs name) c.args.rules.now c.loop-rule.rule-index c.loop-rule-test.false)
