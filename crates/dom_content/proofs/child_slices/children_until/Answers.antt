-- From the first child on, ahead of the child at the offset.
use Rattle.std.proofs.Common.{◌≡◌, ℕ, List, ap, ◌∙◌, subst, IfOk}
use Rattle.dom_model.specs.Definitions.{children_of}
use Rattle.dom_model.proofs.Forests.Indices.{child-once}
use Rattle.dom_edit.specs.InsertionPoints.{children_ahead, from_optional}
use Rattle.dom_edit.proofs.IsAmongLemmas.{IsAmong-head, from_optional-head}
use Rattle.dom_content.proofs.ChildrenBetween.{ahead-got}
use Rattle.dom_content.proofs.child_slices.children_until.Goals as goal

pub children_between-requires-clause-child : goal.children_between-requires-clause-child
children_between-requires-clause-child c =
    let f = c.args.tree.now.forest in
    rw c.first-from.ensures (IsAmong-head (children_of f c.args.parent) (λ m. child-once f c.state_law.ensures.once m c.args.parent))

pub returns : goal.returns
returns c =
    let f = c.args.tree.now.forest in
    subst (λ (ns : List ℕ). IfOk c.children_between.result (λ list. list.items ≡ ns))
    (ap (λ o. children_ahead c.child_at-until.result (from_optional o (children_of f c.args.parent))) c.first-from.ensures
    ∙ ap (children_ahead c.child_at-until.result) (from_optional-head (children_of f c.args.parent))
    ∙ ap (λ o. children_ahead o (children_of f c.args.parent)) c.child_at-until.ensures
    ∙ ahead-got c.args.offset (children_of f c.args.parent) (λ m. child-once f c.state_law.ensures.once m c.args.parent))
    c.children_between.ensures
