-- An attribute is set after its record was queued; if it is refused, the record is taken back.
use Rattle.std.proofs.Common.{Some, refl, ap, sym, ◌∙◌, subst, string_bytes, tests, rules}
use Rattle.dom_model.specs.declared.{Kind.TheVariants.Element, RecordType.TheVariants.Attributes}
use Rattle.dom_model.specs.Definitions.{is_kind, Grove, HasNode, ancestors, entry_in, attribute_value, Content, content_in}
use Rattle.dom_observe.specs.{ObservedNodes.SameObservers, Undoing.IsQueued}
use Rattle.dom_edit.specs.{declared.world.World.World, Whole.IsWhole}
use Rattle.dom_data.specs.Changes.{change_of}
use Rattle.dom_data.proofs.{TextHeldLemmas.passing-held, IsWholeLemmas.whole-set_attribute}
use Rattle.dom_data.proofs.attributes.set_observed.Goals as goal

pub returns-clause-set : goal.returns-clause-set
returns-clause-set c = search (tests, rules)

pub returns-clause-whole : goal.returns-clause-whole
returns-clause-whole c =
    let told = c.queue_attribute_record.new.world in
    let new : World = record told { tree = c.set_in.new.tree } in
    whole-set_attribute c.args.world.now told new c.args.node (string_bytes c.args.name) c.queue_attribute_record.ensures.whole c.queue_attribute_record.ensures.kept refl refl refl refl refl c.args.value c.in_default.ensures.ok

-- The attribute is refused: the record is taken back.

pub unqueue_attribute_record-requires : goal.unqueue_attribute_record-requires
unqueue_attribute_record-requires c =
    let trees = c.in-Err.ensures.err ∙ ap (λ (w : World). w.tree) c.queue_attribute_record.ensures.kept in
    record { held = subst (λ (t : Grove Content). HasNode t.forest c.args.node) (sym trees) (passing-held (is_kind Element) c.args.world.now.tree.forest c.args.node c.requires.kind) }

pub returns-in-Err-clause-unchanged : goal.returns-in-Err-clause-unchanged
returns-in-Err-clause-unchanged c =
    let v = c.args.world.now in
    let n = c.args.node in
    let name = c.as_str-told.result.now in
    let told = c.queue_attribute_record.new.world in
    let kept = c.queue_attribute_record.ensures.kept in
    let trees = c.in-Err.ensures.err ∙ ap (λ (w : World). w.tree) kept in
    let own = subst (λ (t : Grove Content). IsQueued (ancestors n t.forest) (change_of Attributes n (Some name) (attribute_value name (content_in (entry_in t.forest n)).attributes)) v.observers told.observers) (sym trees) c.in_ok-queue_attribute_record.ensures.own in
    c.unqueue_attribute_record.ensures v.observers own c.pending_count-pending.ensures
    ∙ ap (λ (w : World). record w { tree = c.set_in.new.tree; observers = v.observers }) kept
    ∙ ap (λ (t : Grove Content). record v { tree = t }) trees

pub returns-in-Err-clause-observers : goal.returns-in-Err-clause-observers
returns-in-Err-clause-observers c =
    let v = c.args.world.now in
    subst (λ (w : World). SameObservers v.observers w.observers) (sym (returns-in-Err-clause-unchanged c)) (record { made = refl; there = λ i. refl })

pub returns-in-Err-clause-whole : goal.returns-in-Err-clause-whole
returns-in-Err-clause-whole c = subst IsWhole (sym (returns-in-Err-clause-unchanged c)) c.requires.whole
