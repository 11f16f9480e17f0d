use Rattle.std.proofs.Common.{◌≡◌, ◌∙◌, true, None, Some, ap, sym, refl, rules, arith}
use Rattle.std.specs.Option.{ForSome}
use Rattle.dom_model.specs.declared.Kind.TheVariants.{Document}
use Rattle.dom_model.specs.Definitions.{HasNode, units_of, with_text, check_insert, is_of_kind}
use Rattle.uses.specs.Paragraph.{empty_paragraph}
use Rattle.uses.proofs.Paragraphs.{of_kept, with_both, keeps-made, keeps-appended, keeps-paragraph}
use Rattle.uses.proofs.edit.put_text.Goals as goal

pub make-requires-clause-room : goal.make-requires-clause-room
make-requires-clause-room c =
    let two : c.args.world.now.tree.made ≡ 2 = sym c.requires.keeps.made in omega arith

pub make-requires-clause-document_kind : goal.make-requires-clause-document_kind
make-requires-clause-document_kind c =
    let d = c.new-document.ensures in
    let k0 = c.requires.keeps in
    rw d (of_kept (λ f. ForSome (Some 0) (λ n. is_of_kind Document f n ≡ true)) c.args.world.now empty_paragraph k0 (search rules))

pub insert_checked-requires-clause-node_held : goal.insert_checked-requires-clause-node_held
insert_checked-requires-clause-node_held c =
    let d = c.new-document.ensures in
    let k0 = c.requires.keeps in
    let text = units_of c.args.text.now in
    let words = c.in_ok-data.ensures ∙ ap with_text c.in_ok-from_str.ensures in
    let k1 = keeps-made c.args.world.now c.make.new.self empty_paragraph _ _ _ _ _ d c.nameless-label.ensures words k0 c.in_ok-child.ensures.made in
    let n : c.in_ok-child.child ≡ 2 = c.in_ok-child.ensures.number ∙ sym k0.made in
    rw n (of_kept (λ f. HasNode f 2) c.make.new.self (with_both text) k1 refl)

pub insert_checked-requires-clause-allowed : goal.insert_checked-requires-clause-allowed
insert_checked-requires-clause-allowed c =
    let d = c.new-document.ensures in
    let k0 = c.requires.keeps in
    let text = units_of c.args.text.now in
    let words = c.in_ok-data.ensures ∙ ap with_text c.in_ok-from_str.ensures in
    let k1 = keeps-made c.args.world.now c.make.new.self empty_paragraph _ _ _ _ _ d c.nameless-label.ensures words k0 c.in_ok-child.ensures.made in
    let e = c.new-element.ensures in
    let n : c.in_ok-child.child ≡ 2 = c.in_ok-child.ensures.number ∙ sym k0.made in
    rw (e, n) (of_kept (λ f. check_insert f 1 2 None ≡ None) c.make.new.self (with_both text) k1 refl)

pub returns-clause-keeps : goal.returns-clause-keeps
returns-clause-keeps c =
    let d = c.new-document.ensures in
    let k0 = c.requires.keeps in
    let text = units_of c.args.text.now in
    let words = c.in_ok-data.ensures ∙ ap with_text c.in_ok-from_str.ensures in
    let k1 = keeps-made c.args.world.now c.make.new.self empty_paragraph _ _ _ _ _ d c.nameless-label.ensures words k0 c.in_ok-child.ensures.made in
    let e = c.new-element.ensures in
    let n : c.in_ok-child.child ≡ 2 = c.in_ok-child.ensures.number ∙ sym k0.made in
    let k2 = keeps-appended c.make.new.self c.insert_checked.new.self (with_both text) _ _ 2 1 n e k1 c.in_ok-insert_checked.ensures.inserted in
    keeps-paragraph c.insert_checked.new.self text k2
