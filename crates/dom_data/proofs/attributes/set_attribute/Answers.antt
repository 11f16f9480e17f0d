-- An attribute is set, or is not, and nobody observes.
use Rattle.std.proofs.Common.{Some, refl, sym, subst, string_bytes}
use Rattle.std.proofs.lemmas.Result.{on_ok_weaker}
use Rattle.dom_model.specs.declared.RecordType.TheVariants.{Attributes}
use Rattle.dom_model.specs.Definitions.{attribute_value, attributes_of}
use Rattle.dom_edit.specs.{declared.world.World.World, Whole.IsWhole}
use Rattle.dom_edit.proofs.UnobservedLemmas.{follows-unheard_mutation}
use Rattle.dom_data.specs.Changes.{change_of}
use Rattle.dom_data.proofs.{ResultLemmas.either, IsWholeLemmas.whole-set_attribute, IsWholeLemmas.follows-set_attribute}
use Rattle.dom_data.proofs.attributes.set_attribute.Goals as goal

pub returns-then-is_idle-clause-set : goal.returns-then-is_idle-clause-set
returns-then-is_idle-clause-set c =
    let old = c.args.world.now in
    let new : World = record old { tree = c.set_in.new.tree } in
    let n = c.args.node in
    let name = string_bytes c.args.name in
    let unheard = follows-unheard_mutation old (λ w. change_of Attributes n (Some name) (attribute_value name (attributes_of w n))) (λ x o. c.is_idle.ensures.idle x o c.if-is_idle.true) in
    on_ok_weaker c.set_in.result (follows-set_attribute old old new n name c.requires.whole refl refl refl refl refl refl c.args.value unheard) c.set_in.ensures.ok

pub returns-then-is_idle-clause-whole : goal.returns-then-is_idle-clause-whole
returns-then-is_idle-clause-whole c =
    let old = c.args.world.now in
    let new : World = record old { tree = c.set_in.new.tree } in
    either c.set_in.result c.set_in.ensures.ok c.set_in.ensures.err
    (whole-set_attribute old old new c.args.node (string_bytes c.args.name) c.requires.whole refl refl refl refl refl refl c.args.value)
    (λ e. subst (λ t. IsWhole (record old { tree = t })) (sym e) c.requires.whole)
