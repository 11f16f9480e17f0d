use Rattle.std.proofs.Common.{◌≡◌, ◌∙◌, None, sym, refl}
use Rattle.dom_model.specs.Definitions.{HasNode, first_world, check_insert}
use Rattle.uses.proofs.Paragraphs.{of_kept, with_element, keeps-made, keeps-appended, keeps-element}
use Rattle.uses.proofs.edit.put_element.Goals as goal

pub insert_checked-requires-clause-node_held : goal.insert_checked-requires-clause-node_held
insert_checked-requires-clause-node_held c =
    let d = c.new-document.ensures in
    let k0 = c.requires.keeps in
    let body = c.nothing.ensures in
    let k1 = keeps-made c.args.world.now c.make.new.self first_world _ _ _ _ _ d c.in_ok-label.ensures body k0 c.in_ok-element.ensures.made in
    let e : c.in_ok-element.element ≡ 1 = c.in_ok-element.ensures.number ∙ sym k0.made in
    rw e (of_kept (λ f. HasNode f 1) c.make.new.self with_element k1 refl)

pub insert_checked-requires-clause-allowed : goal.insert_checked-requires-clause-allowed
insert_checked-requires-clause-allowed c =
    let d = c.new-document.ensures in
    let k0 = c.requires.keeps in
    let body = c.nothing.ensures in
    let k1 = keeps-made c.args.world.now c.make.new.self first_world _ _ _ _ _ d c.in_ok-label.ensures body k0 c.in_ok-element.ensures.made in
    let e : c.in_ok-element.element ≡ 1 = c.in_ok-element.ensures.number ∙ sym k0.made in
    rw (d, e) (of_kept (λ f. check_insert f 0 1 None ≡ None) c.make.new.self with_element k1 refl)

pub returns-clause-keeps : goal.returns-clause-keeps
returns-clause-keeps c =
    let d = c.new-document.ensures in
    let k0 = c.requires.keeps in
    let body = c.nothing.ensures in
    let k1 = keeps-made c.args.world.now c.make.new.self first_world _ _ _ _ _ d c.in_ok-label.ensures body k0 c.in_ok-element.ensures.made in
    let e : c.in_ok-element.element ≡ 1 = c.in_ok-element.ensures.number ∙ sym k0.made in
    let k2 = keeps-appended c.make.new.self c.insert_checked.new.self with_element _ _ 1 0 e d k1 c.in_ok-insert_checked.ensures.inserted in
    keeps-element c.insert_checked.new.self k2
