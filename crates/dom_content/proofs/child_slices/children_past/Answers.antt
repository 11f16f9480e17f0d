-- From the next sibling on; none where the node is no child of the parent.
use Rattle.std.proofs.Common.{◌≡◌, ℕ, true, false, List, Option, ap, sym, ◌∙◌, subst, IfOk}
use Rattle.dom_model.specs.Definitions.{is_number, children_of}
use Rattle.dom_edit.specs.InsertionPoints.{IsAmong, from_optional}
use Rattle.dom_content.proofs.ChildrenBetween.{given-is, next-among, past-next, past-none}
use Rattle.dom_content.proofs.child_slices.children_past.Goals as goal

pub children_between-requires-clause-child : goal.children_between-requires-clause-child
children_between-requires-clause-child c =
    let g = c.args.tree.now in
    let e = ap (λ (o : Option ℕ). is_number o c.args.parent) (sym c.parent.ensures) ∙ given-is c.parent.result c.args.parent true (sym c.if-eq.ensures) in
    subst (λ (o : Option ℕ). IsAmong o (children_of g.forest c.args.parent)) (sym c.next-from.ensures) (next-among g c.state_law.ensures c.args.parent c.args.child c.requires.child_held e)

pub returns-then-eq : goal.returns-then-eq
returns-then-eq c =
    let g = c.args.tree.now in
    let e = ap (λ (o : Option ℕ). is_number o c.args.parent) (sym c.parent.ensures) ∙ given-is c.parent.result c.args.parent true (sym c.if-eq.ensures) in
    subst (λ (ns : List ℕ). IfOk c.children_between.result (λ list. list.items ≡ ns))
    (ap (λ (o : Option ℕ). from_optional o (children_of g.forest c.args.parent)) c.next-from.ensures ∙ past-next g c.state_law.ensures c.args.parent c.args.child c.requires.child_held e)
    c.children_between.ensures

pub returns : goal.returns
returns c =
    let g = c.args.tree.now in
    let e = ap (λ (o : Option ℕ). is_number o c.args.parent) (sym c.parent.ensures) ∙ given-is c.parent.result c.args.parent false (sym c.if-eq.ensures) in
    c.new.ensures.items ∙ sym (past-none g c.state_law.ensures c.args.parent c.args.child e)
