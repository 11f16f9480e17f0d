-- Nothing of a collapsed range, units of one node, or what lies between two nodes.
use Rattle.std.proofs.Common.{◌≤◌, ◌==◌, length, refl, ap, sym, subst, arith}
use Rattle.std.proofs.lemmas.{Grind.common_steps, Result.on_ok_weaker, Bool.and_parts}
use Rattle.dom_model.specs.Definitions.{is_character_data, Point, Range, kind_passes, data_of}
use Rattle.dom_model.proofs.Soundness.SoundDeleting.{offset_of_start}
use Rattle.dom_edit.specs.Whole.{unwatched}
use Rattle.dom_content.proofs.{RangeTexts.range-held, RangeTexts.ahead-of, DeletedBetween.follows-between}
use Rattle.dom_content.proofs.deletion.delete_range.Goals as goal

pub overflow_sub-count : goal.overflow_sub-count
overflow_sub-count c =
    let v = c.args.world.now in
    let range : Range = record { start = c.ends-start.result.0; end = c.ends-start.result.1 } in
    let is = range-held v c.requires.whole c.args.range range c.ends-start.ensures.ends in
    let one_node = (and_parts (range.start.node == range.end.node) (kind_passes is_character_data v.tree.forest range.start.node) (sym c.if-is_in_one_data.ensures)).0 in
    let l : range.start.offset ≤ range.end.offset = ahead-of v.tree.forest range range.start range.end is refl refl one_node in
    let i = ap (λ (p : Point). p.offset) c.start.view_is in
    let j = ap (λ (p : Point). p.offset) c.end.view_is in
    omega arith

pub cut_units-requires-clause-within : goal.cut_units-requires-clause-within
cut_units-requires-clause-within c =
    let v = c.args.world.now in
    let range : Range = record { start = c.ends-start.result.0; end = c.ends-start.result.1 } in
    let is = range-held v c.requires.whole c.args.range range c.ends-start.ensures.ends in
    let kind = (and_parts (range.start.node == range.end.node) (kind_passes is_character_data v.tree.forest range.start.node) (sym c.if-is_in_one_data.ensures)).1 in
    subst (λ (p : Point). p.offset ≤ length (data_of (unwatched v) p.node)) (sym c.start.view_is) (offset_of_start (unwatched v) range is kind)

pub returns-clause-deleted : goal.returns-clause-deleted
returns-clause-deleted c =
    let v = c.args.world.now in
    let range : Range = record { start = c.ends-start.result.0; end = c.ends-start.result.1 } in
    on_ok_weaker c.delete_between.result
    (follows-between v c.args.range range c.ends-start.ensures.ends c.delete_between.new.world (sym c.if-eq.ensures) (sym c.if-is_in_one_data.ensures))
    c.delete_between.ensures.deleted

pub is_in_one_data-requires : goal.is_in_one_data-requires
is_in_one_data-requires c = grind (arith, common_steps)
