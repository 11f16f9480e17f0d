-- What the counts around the place tell.
use Rattle.std.proofs.Common.{◌≡◌, ℕ, ◌∙◌, sym, arith}
use Rattle.dom_model.specs.declared.Kind.TheVariants.{Element, DocumentType}
use Rattle.dom_model.specs.Definitions.{children_of, has_kind}
use Rattle.dom_edit.specs.InsertionPoints.{child_of, children_ahead, refuses}
use Rattle.dom_edit.proofs.{InsertionPointLemmas.listed-once, CountAroundLemmas.none-given, CountAroundLemmas.doctype-there, CountAroundLemmas.doctype-alone, CountAroundLemmas.doctype-last, CountAroundLemmas.doctype-ordered, IsAroundLemmas.if-told}
use Rattle.dom_edit.proofs.insertion_point.doctype_by_count.Goals as goal

pub returns-then-doctypes-ne0 : goal.returns-then-doctypes-ne0
returns-then-doctypes-ne0 c n =
    let g = c.args.tree.now in
    doctype-there g.forest c.args.document c.args.place c.requires.under (λ m e. listed-once g c.state_law.ensures c.args.document m e) n (omega (arith, c.in_ok-doctypes.ensures, c.if-doctypes-ne0.true))

pub returns-then-elements-eq0 : goal.returns-then-elements-eq0
returns-then-elements-eq0 c n =
    let g = c.args.tree.now in
    doctype-alone g.forest c.args.document c.args.place c.requires.under (λ m e. listed-once g c.state_law.ensures c.args.document m e) n
    (omega (arith, c.in_ok-doctypes.ensures, c.if-doctypes-ne0.false)) (omega (arith, c.in_ok-elements.ensures, c.if-elements-eq0.true))

pub returns-then-is_none : goal.returns-then-is_none
returns-then-is_none c n =
    doctype-last c.args.tree.now.forest c.args.document n c.args.place (sym c.child.ensures ∙ none-given c.child.result c.is_none.result c.is_none.ensures c.if-is_none.true)
    (omega (arith, c.in_ok-doctypes.ensures, c.if-doctypes-ne0.false)) (omega (arith, c.in_ok-elements.ensures, c.if-elements-eq0.false))

pub returns : goal.returns
returns c =
    let f = c.args.tree.now.forest in
    let p = c.args.document in
    if-told (λ ahead. ahead ≡ has_kind Element f (children_ahead (child_of c.args.place) (children_of f p))) (λ refused. (n : ℕ) → refused ≡ refuses c.args.place DocumentType f p n) c.is_ahead.result
    (λ ahead e n. doctype-ordered f p c.args.place c.requires.under (λ m e. listed-once c.args.tree.now c.state_law.ensures p m e) n (omega (arith, c.in_ok-doctypes.ensures, c.if-doctypes-ne0.false)) ahead e)
    c.is_ahead.ensures
