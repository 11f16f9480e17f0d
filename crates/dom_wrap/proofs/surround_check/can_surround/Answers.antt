use Rattle.std.proofs.Common.{true, false, ap, sym, ◌∙◌, arith}
use Rattle.std.proofs.lemmas.Grind.{common_steps}
use Rattle.dom_model.specs.Definitions.{Point, Range}
use Rattle.dom_content.proofs.RangeTexts.{range-held}
use Rattle.dom_wrap.proofs.AllowCode.{near-as, told-deep, told-odd, told-unplaceable, told-allowed}
use Rattle.dom_wrap.proofs.surround_check.can_surround.Goals as goal

pub returns-then-is_deep : goal.returns-then-is_deep
returns-then-is_deep c =
    let v = c.args.world.now in
    let range : Range = record { start = c.ends.result.0; end = c.ends.result.1 } in
    told-deep v c.requires.whole c.args.range c.args.node c.requires.node_held range c.ends.ensures.ends (range-held v c.requires.whole c.args.range range c.ends.ensures.ends)
    (near-as v.tree.forest range c.start.inside.node c.end.inside.node c.common-common.result (ap (λ (p : Point). p.node) c.start.view_is) (ap (λ (p : Point). p.node) c.end.view_is) c.common-common.ensures
    true (sym c.is_deep.ensures ∙ c.if-is_deep.true))

pub returns-then-is_invalid_parent : goal.returns-then-is_invalid_parent
returns-then-is_invalid_parent c =
    let v = c.args.world.now in
    let range : Range = record { start = c.ends.result.0; end = c.ends.result.1 } in
    told-odd v c.requires.whole c.args.range c.args.node c.requires.node_held range c.ends.ensures.ends (range-held v c.requires.whole c.args.range range c.ends.ensures.ends)
    (near-as v.tree.forest range c.start.inside.node c.end.inside.node c.common-common.result (ap (λ (p : Point). p.node) c.start.view_is) (ap (λ (p : Point). p.node) c.end.view_is) c.common-common.ensures
    false (sym c.is_deep.ensures ∙ c.if-is_deep.false))
    (sym c.is_invalid_parent.ensures ∙ c.if-is_invalid_parent.true)

pub returns-then-is_unplaceable : goal.returns-then-is_unplaceable
returns-then-is_unplaceable c =
    let v = c.args.world.now in
    let range : Range = record { start = c.ends.result.0; end = c.ends.result.1 } in
    told-unplaceable v c.requires.whole c.args.range c.args.node c.requires.node_held range c.ends.ensures.ends (range-held v c.requires.whole c.args.range range c.ends.ensures.ends)
    (near-as v.tree.forest range c.start.inside.node c.end.inside.node c.common-common.result (ap (λ (p : Point). p.node) c.start.view_is) (ap (λ (p : Point). p.node) c.end.view_is) c.common-common.ensures
    false (sym c.is_deep.ensures ∙ c.if-is_deep.false))
    (sym c.is_invalid_parent.ensures ∙ c.if-is_invalid_parent.false) (sym c.is_unplaceable.ensures ∙ c.if-is_unplaceable.true)

pub returns : goal.returns
returns c =
    let v = c.args.world.now in
    let range : Range = record { start = c.ends.result.0; end = c.ends.result.1 } in
    told-allowed v c.requires.whole c.args.range c.args.node c.requires.node_held range c.ends.ensures.ends (range-held v c.requires.whole c.args.range range c.ends.ensures.ends)
    (near-as v.tree.forest range c.start.inside.node c.end.inside.node c.common-common.result (ap (λ (p : Point). p.node) c.start.view_is) (ap (λ (p : Point). p.node) c.end.view_is) c.common-common.ensures
    false (sym c.is_deep.ensures ∙ c.if-is_deep.false))
    (sym c.is_invalid_parent.ensures ∙ c.if-is_invalid_parent.false) (sym c.is_unplaceable.ensures ∙ c.if-is_unplaceable.false)

pub common-common-requires-clause-a_held : goal.common-common-requires-clause-a_held
common-common-requires-clause-a_held c = grind (arith, common_steps)

pub common-common-requires-clause-b_held : goal.common-common-requires-clause-b_held
common-common-requires-clause-b_held c = grind (arith, common_steps)

pub common-common-requires-clause-one_root : goal.common-common-requires-clause-one_root
common-common-requires-clause-one_root c = grind (arith, common_steps)

pub is_deep-requires-clause-start_held : goal.is_deep-requires-clause-start_held
is_deep-requires-clause-start_held c = grind (arith, common_steps)

pub is_deep-requires-clause-end_held : goal.is_deep-requires-clause-end_held
is_deep-requires-clause-end_held c = grind (arith, common_steps)

pub is_unplaceable-requires-clause-range : goal.is_unplaceable-requires-clause-range
is_unplaceable-requires-clause-range c = grind (arith, common_steps)
