-- The world is whole after an attribute is removed.
use Rattle.std.proofs.Common.{refl, sym, tests, rules}
use Rattle.dom_edit.specs.declared.world.World.{World}
use Rattle.dom_data.proofs.IsWholeLemmas.{whole-remove_attribute}
use Rattle.dom_data.proofs.attributes.remove_attribute.Goals as goal

pub returns-clause-whole : goal.returns-clause-whole
returns-clause-whole c =
    let told = c.queue_attribute_record.new.world in
    let new : World = record told { tree = c.remove_in.new.tree } in
    whole-remove_attribute c.args.world.now told new c.args.node c.args.name.now c.queue_attribute_record.ensures.whole c.queue_attribute_record.ensures.kept refl refl refl refl refl (sym c.if-not-has_in.ensures) c.remove_in.ensures

pub returns-then-not-has_in-clause-removed : goal.returns-then-not-has_in-clause-removed
returns-then-not-has_in-clause-removed c = search (tests, rules)

pub returns-then-not-has_in-clause-whole : goal.returns-then-not-has_in-clause-whole
returns-then-not-has_in-clause-whole c = search (tests, rules)

pub returns-clause-removed : goal.returns-clause-removed
returns-clause-removed c = search (tests, rules)
