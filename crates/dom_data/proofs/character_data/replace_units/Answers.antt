-- Units replaced, with the ends behind them.
use Rattle.std.proofs.Common.{◌≡◌, ◌+◌, ◌≤◌, true, length, None, Some, refl, ap, sym, ◌∙◌, subst, arith, tests, rules}
use Rattle.dom_model.specs.declared.RecordType.TheVariants.{CharacterData}
use Rattle.dom_model.specs.Definitions.{is_character_data, Grove, HasNode, ancestors, entry_in, kind_passes, Content, content_in, data_of}
use Rattle.dom_model.proofs.Soundness.SoundData.{length-spliced}
use Rattle.dom_observe.specs.Undoing.{IsQueued}
use Rattle.dom_ranges.specs.Tables.{RangeTable}
use Rattle.dom_edit.specs.{declared.world.World.World, Whole.unwatched, Whole.IsWhole, KeptNodes.present}
use Rattle.dom_edit.proofs.KeepsWatchersLemmas.{present-moved, watchers-observed, watchers-ranged}
use Rattle.dom_data.specs.{Changes.change_of, KeptNumbers.KeepsNumbers}
use Rattle.dom_data.proofs.{TextHeldLemmas.passing-held, MovedOffsets.splice-fits, IsWholeLemmas.whole-replaced, KeepsNumbersLemmas.numbers-none, KeepsNumbersLemmas.numbers-same, KeepsNumbersLemmas.numbers-then, KeepsNumbersLemmas.numbers-replaced}
use Rattle.dom_data.proofs.character_data.replace_units.Goals as goal

pub spliced-requires : goal.spliced-requires
spliced-requires c =
    let told = c.queue_data_record.new.world in
    let n = c.args.node in
    let forests = ap (λ (v : World). v.tree.forest) c.queue_data_record.ensures.kept in
    let kind = subst (λ f. kind_passes is_character_data f n ≡ true) (sym forests) c.requires.kind in
    let within = subst (λ f. c.args.offset + c.args.count ≤ length (content_in (entry_in f n)).text) (sym forests) c.requires.within in
    let spliced_length = length-spliced c.args.offset c.args.count c.args.added.now (data_of (unwatched told) n) within in
    let small = c.in_default.ensures.fits in
    splice-fits told.tree.forest n c.args.offset c.args.count (length c.args.added.now) kind within (omega (arith, spliced_length, small))
    told.ranges.ranges c.queue_data_record.ensures.whole.ranges

pub returns-clause-whole : goal.returns-clause-whole
returns-clause-whole c =
    whole-replaced c.args.world.now c.queue_data_record.new.world _ c.args.node c.args.offset c.args.count c.args.added.now c.queue_data_record.ensures.whole c.queue_data_record.ensures.kept c.requires.kind c.requires.within
    c.in_default.ensures.ok c.spliced.ensures refl refl refl refl

pub returns-clause-replaced : goal.returns-clause-replaced
returns-clause-replaced c = search (tests, rules)

pub returns-clause-nodes : goal.returns-clause-nodes
returns-clause-nodes c =
    let told = c.queue_data_record.new.world in
    let new : World = record told { tree = c.splice_data.new.tree; ranges = c.spliced.new.self } in
    numbers-then c.args.world.now told new
    (numbers-same c.args.world.now told (ap (λ (v : World). v.tree) c.queue_data_record.ensures.kept) (ap (λ (v : World). v.statics) c.queue_data_record.ensures.kept) (ap (λ (v : World). v.walkers) c.queue_data_record.ensures.kept)
    (watchers-observed c.args.world.now told c.queue_data_record.ensures.kept c.queue_data_record.ensures.observers))
    (numbers-replaced told new c.args.node _ c.in_default.ensures.ok refl refl
    (watchers-ranged told new (ap (λ (r : RangeTable). present r.ranges) c.spliced.ensures ∙ present-moved _ told.ranges.ranges) refl refl))

-- The units are refused: the record is taken back.

pub unqueue_data_record-requires : goal.unqueue_data_record-requires
unqueue_data_record-requires c =
    let trees = c.in-Err.ensures.err ∙ ap (λ (v : World). v.tree) c.queue_data_record.ensures.kept in
    record { held = subst (λ (t : Grove Content). HasNode t.forest c.args.node) (sym trees) (passing-held is_character_data c.args.world.now.tree.forest c.args.node c.requires.kind) }

pub returns-in-Err-clause-unchanged : goal.returns-in-Err-clause-unchanged
returns-in-Err-clause-unchanged c =
    let v = c.args.world.now in
    let n = c.args.node in
    let told = c.queue_data_record.new.world in
    let kept = c.queue_data_record.ensures.kept in
    let trees = c.in-Err.ensures.err ∙ ap (λ (w : World). w.tree) kept in
    let own = subst (λ (t : Grove Content). IsQueued (ancestors n t.forest) (change_of CharacterData n None (Some (content_in (entry_in t.forest n)).text)) v.observers told.observers) (sym trees) c.in_ok-queue_data_record.ensures.own in
    c.unqueue_data_record.ensures v.observers own c.pending_count-pending.ensures
    ∙ ap (λ (w : World). record w { tree = c.splice_data.new.tree; observers = v.observers }) kept
    ∙ ap (λ (t : Grove Content). record v { tree = t }) trees

pub returns-in-Err-clause-nodes : goal.returns-in-Err-clause-nodes
returns-in-Err-clause-nodes c = subst (KeepsNumbers c.args.world.now) (sym (returns-in-Err-clause-unchanged c)) (numbers-none c.args.world.now)

pub returns-in-Err-clause-whole : goal.returns-in-Err-clause-whole
returns-in-Err-clause-whole c = subst IsWhole (sym (returns-in-Err-clause-unchanged c)) c.requires.whole
