-- What the counts around the place tell.
use Rattle.std.proofs.Common.{◌∙◌, sym, arith}
use Rattle.dom_edit.proofs.{InsertionPointLemmas.listed-once, CountAroundLemmas.none-given, CountAroundLemmas.element-there, CountAroundLemmas.element-alone, CountAroundLemmas.element-last, CountAroundLemmas.element-ordered}
use Rattle.dom_edit.proofs.insertion_point.element_by_count.Goals as goal

pub returns-then-elements-ne0 : goal.returns-then-elements-ne0
returns-then-elements-ne0 c n =
    let g = c.args.tree.now in
    element-there g.forest c.args.document c.args.place c.requires.under (λ m e. listed-once g c.state_law.ensures c.args.document m e) n (omega (arith, c.in_ok-elements.ensures, c.if-elements-ne0.true))

pub returns-then-is_none : goal.returns-then-is_none
returns-then-is_none c n =
    element-last c.args.tree.now.forest c.args.document n c.args.place (sym c.child.ensures ∙ none-given c.child.result c.is_none.result c.is_none.ensures c.if-is_none.true) (omega (arith, c.in_ok-elements.ensures, c.if-elements-ne0.false))

pub returns-then-doctypes-eq0 : goal.returns-then-doctypes-eq0
returns-then-doctypes-eq0 c n =
    let g = c.args.tree.now in
    element-alone g.forest c.args.document c.args.place c.requires.under (λ m e. listed-once g c.state_law.ensures c.args.document m e) n
    (omega (arith, c.in_ok-elements.ensures, c.if-elements-ne0.false)) (omega (arith, c.in_ok-doctypes.ensures, c.if-doctypes-eq0.true))

pub returns : goal.returns
returns c n =
    let g = c.args.tree.now in
    element-ordered g.forest c.args.document c.args.place c.requires.under (λ m e. listed-once g c.state_law.ensures c.args.document m e) n
    (omega (arith, c.in_ok-elements.ensures, c.if-elements-ne0.false)) (omega (arith, c.in_ok-doctypes.ensures, c.if-doctypes-ne1.false)) c.in_ok-is_first.is_first c.in_ok-is_first.ensures
