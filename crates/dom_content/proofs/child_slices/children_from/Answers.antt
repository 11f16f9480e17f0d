-- From the child at the offset on.
use Rattle.std.proofs.Common.{◌≡◌, ℕ, List, ap, ◌∙◌, subst, IfOk}
use Rattle.dom_model.specs.Definitions.{children_of}
use Rattle.dom_model.proofs.Forests.Indices.{child-once}
use Rattle.dom_edit.specs.InsertionPoints.{from_optional}
use Rattle.dom_content.proofs.ChildrenBetween.{from-got, got-among}
use Rattle.dom_content.proofs.child_slices.children_from.Goals as goal

pub children_between-requires-clause-child : goal.children_between-requires-clause-child
children_between-requires-clause-child c =
    let f = c.args.tree.now.forest in
    got-among (children_of f c.args.parent) (λ m. child-once f c.state_law.ensures.once m c.args.parent) c.args.offset c.child_at-from.result c.child_at-from.ensures

pub returns : goal.returns
returns c =
    let f = c.args.tree.now.forest in
    subst (λ (ns : List ℕ). IfOk c.children_between.result (λ list. list.items ≡ ns))
    (ap (λ o. from_optional o (children_of f c.args.parent)) c.child_at-from.ensures ∙ from-got c.args.offset (children_of f c.args.parent) (λ m. child-once f c.state_law.ensures.once m c.args.parent))
    c.children_between.ensures
