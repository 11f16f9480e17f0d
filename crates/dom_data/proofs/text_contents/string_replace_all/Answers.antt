-- All children give way to the new Text.
use Rattle.std.proofs.Common.{◌≡◌, None, sym, ◌∙◌, subst, tests, rules}
use Rattle.std.proofs.lemmas.{Bool.false≢true, Result.on_ok_weaker}
use Rattle.dom_model.specs.Definitions.{HasNode, check_insert}
use Rattle.dom_data.proofs.NewTexts.{new-there, old-there, new-unrefused, follows-replaced}
use Rattle.dom_data.proofs.text_contents.string_replace_all.Goals as goal

pub replace_children_checked-requires-2-clause-parent_held : goal.replace_children_checked-requires-2-clause-parent_held
replace_children_checked-requires-2-clause-parent_held c =
    old-there c.args.world.now c.make_text.new.world c.requires.whole c.document_in-document.result c.args.text c.in_ok-child.ensures.made c.args.parent c.requires.held

pub replace_children_checked-requires-2-clause-node_held : goal.replace_children_checked-requires-2-clause-node_held
replace_children_checked-requires-2-clause-node_held c = λ n e.
    let is : c.in_ok-child.child ≡ n = cc e in
    subst (λ m. HasNode c.make_text.new.world.tree.forest m) (sym c.in_ok-child.ensures.number ∙ is)
    (new-there c.args.world.now c.make_text.new.world c.requires.whole c.document_in-document.result c.args.text c.in_ok-child.ensures.made)

pub replace_children_checked-requires-2-clause-allowed : goal.replace_children_checked-requires-2-clause-allowed
replace_children_checked-requires-2-clause-allowed c =
    subst (λ m. check_insert c.make_text.new.world.tree.forest c.args.parent m None ≡ None) (sym c.in_ok-child.ensures.number)
    (new-unrefused c.args.world.now c.make_text.new.world c.requires.whole c.document_in-document.result c.args.text c.in_ok-child.ensures.made c.args.parent c.requires.held c.requires.kind c.requires.no_document)

pub returns-clause-replaced : goal.returns-clause-replaced
returns-clause-replaced c =
    on_ok_weaker c.replace_children_checked-2.result (λ replaced.
    follows-replaced c.args.world.now c.make_text.new.world c.replace_children_checked-2.new.self c.args.text c.args.parent c.document_in-document.result c.in_ok-child.child
    (λ e. false≢true (sym c.if-is_empty.false ∙ c.is_empty.ensures.1 e)) c.document_in-document.ensures.document c.in_ok-child.ensures.number c.in_ok-child.ensures.made replaced)
    c.replace_children_checked-2.ensures.replaced

pub returns-then-is_empty-clause-replaced : goal.returns-then-is_empty-clause-replaced
returns-then-is_empty-clause-replaced c = search (tests, rules)

pub returns-then-is_empty-clause-whole : goal.returns-then-is_empty-clause-whole
returns-then-is_empty-clause-whole c = search (tests, rules)

pub returns-clause-whole : goal.returns-clause-whole
returns-clause-whole c = search (tests, rules)
