use Rattle.std.proofs.Common.{nat_lt, ◌==◌, ◌≡◌, true, false, sym, ◌∙◌, arith}
use Rattle.std.proofs.lemmas.Bool.Decides.{nat_tests}
use Rattle.dom_model.specs.declared.Kind.TheVariants.{Element}
use Rattle.dom_model.specs.Definitions.{children_of, count_kind}
use Rattle.dom_edit.proofs.InsertionPointLemmas.{fragment-refused}
use Rattle.dom_edit.proofs.insertion_point.refuses_fragment.Goals as goal

pub returns-then-elements-eq1 : goal.returns-then-elements-eq1
returns-then-elements-eq1 c =
    let f = c.args.tree.now.forest in
    let count = count_kind Element f (children_of f c.args.fragment) in
    let a : nat_lt 1 count ≡ false = grind (arith, nat_tests) in
    let b : (count == 1) ≡ true = grind (arith, nat_tests) in
    c.refuses_element.ensures c.args.fragment ∙ sym (fragment-refused f c.args.document c.args.fragment c.args.place a (sym c.has_child.ensures ∙ c.if-has_child.false) b)
