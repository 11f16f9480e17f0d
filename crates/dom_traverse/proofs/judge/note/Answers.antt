-- A verdict that is known stays.
use Rattle.std.proofs.Common.{ℕ, List, sym, ap, ◌∙◌, string_bytes, is_some}
use Rattle.std.specs.BTreeMap.{get_by_text}
use Rattle.std.proofs.lemmas.Map.Text.{btree_map_updates_text}
use Rattle.dom_model.specs.Definitions.{FilterRule}
use Rattle.dom_traverse.proofs.FilterRuleLemmas.{known-before, known-after}
use Rattle.dom_traverse.proofs.judge.note.Goals as goal

pub returns-then-contains_key : goal.returns-then-contains_key
returns-then-contains_key c =
    let q = c.as_str.ensures.value ∙ ap (λ (r : FilterRule). r.name) c.rule.view_is in
    λ name others.
    known-before c.args.verdicts.now c.args.rule.now name others (ap (λ (n : List ℕ). is_some (get_by_text c.args.verdicts.now n)) (sym q) ∙ sym c.contains_key.ensures ∙ c.if-contains_key.true)

pub returns : goal.returns
returns c =
    let q = c.as_str.ensures.value ∙ ap (λ (r : FilterRule). r.name) c.rule.view_is in
    let sets = btree_map_updates_text (string_bytes c.in_ok-name.name) c.args.verdicts.now c.insert.new.self _ c.in_ok-insert.ensures.updates in
    λ name others.
    known-after c.args.verdicts.now c.args.rule.now name others c.insert.new.self (string_bytes c.in_ok-name.name) c.rule.inside.verdict
    (c.in_ok-name.ensures.cases ∙ ap (λ (r : FilterRule). r.name) c.rule.view_is) (ap (λ (r : FilterRule). r.verdict) c.rule.view_is)
    (ap (λ (n : List ℕ). is_some (get_by_text c.args.verdicts.now n)) (sym q) ∙ sym c.contains_key.ensures ∙ c.if-contains_key.false) (sets name)
