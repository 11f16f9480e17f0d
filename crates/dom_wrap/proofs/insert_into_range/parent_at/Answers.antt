use Rattle.std.proofs.Common.{ap, sym, ◌∙◌, subst}
use Rattle.dom_model.specs.declared.Kind.TheVariants.{Text}
use Rattle.dom_model.specs.Definitions.{HasNode, is_of_kind}
use Rattle.dom_wrap.proofs.InsertedNode.{held-or, parent-child}
use Rattle.dom_wrap.proofs.insert_into_range.parent_at.Goals as goal

pub returns-then-is_of_kind-clause-held : goal.returns-then-is_of_kind-clause-held
returns-then-is_of_kind-clause-held c =
    let f = c.args.world.now.tree.forest in
    let held = subst (HasNode f) (sym (ap (λ q. q.node) c.point.view_is)) c.requires.held in
    subst (HasNode f) (sym c.unwrap_or.ensures) (held-or c.args.world.now c.requires.whole c.point.inside.node held c.parent.result c.parent.ensures)

pub returns-clause-parent : goal.returns-clause-parent
returns-clause-parent c =
    let v = c.args.world.now in
    let i = ap (λ q. q.node) c.point.view_is in
    let t = ap (λ n. is_of_kind Text v.tree.forest n) (sym i) ∙ sym c.is_of_kind.ensures ∙ c.if-is_of_kind.false in
    i ∙ sym (parent-child v c.requires.whole c.args.point c.requires.held t)
