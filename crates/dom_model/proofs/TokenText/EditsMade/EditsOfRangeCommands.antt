-- The edits of the commands on live ranges, and of discarding, leave the worlds that these leave.
use Rattle.std.proofs.Common.{◌≡◌, ℕ, Bool, true, false, not, ◌||◌, [], ◌∷◌, Option, Some, None, IfSome, is_none, is_some, refl, sym, arith}
use Rattle.std.proofs.lemmas.Bool.{false≢true}
use Rattle.dom_model.specs.Definitions.{entry_in, is_kind, kind_passes, is_of_kind, Point, Range, World, Nothing, Dom, unit_count, contents_of, collapsed_at, check_contents, range_at, with_range, does, at_ends, sets_start, sets_end, point, ends_edits_at, start_edits_at, end_edits_at, select_edits, IsBoundary, IsRange, IsSound}
use Rattle.dom_model.specs.declared.{Kind.TheVariants.Document, Kind.TheVariants.DocumentType, DomError.TheVariants.InvalidNodeTypeError}
use Rattle.dom_model.proofs.Forests.Entries.{HasNode-occurs}
use Rattle.dom_model.proofs.Soundness.{SoundWorlds.IsLive, SoundEditing.clear, SoundGuards.there_unless, SoundGuards.passes_unless, SoundRangeSteps.document_is_no_doctype}
use Rattle.dom_model.proofs.RangesAndContents.{RangesSet.range_at_point, RangesSet.range-start_set, RangesSet.range-end_set, RangesSet.range_of_contents, LiveRangesKept.is_live, RangesSet.range_collapsed, RangesSet.boundary_checked, RangesSet.range_selected}
use Rattle.dom_model.proofs.TokenText.{EditsMade.EditsOfSteps.leave-ends, EditsMade.EditsOfDeletedContents.leave-ends_at, EditsMade.EditsOfDrawnContents.sound-range, EditsMade.EditsOfAnswers.StepLeaves, EditsMade.EditsOfAnswers.leaves-done, EditsMade.EditsOfAnswers.leaves-unless, EditsMade.EditsOfAnswers.leaves-refused, EditsMade.EditsOfAnswers.leaves-on_range, EditsMade.EditsOfAnswers.no_edits, EditsMade.EditsOfSteps.leave-made_range, EditsMade.EditsOfSteps.leave-released, EditsMade.EditsOfSteps.leave-discarded, EditsMade.EditsOfDeletedContents.leave-delete_contents, EditsMade.EditsOfDrawnContents.leave-extract, EditsMade.EditsOfDrawnContents.leave-clone_contents, EditsMade.EditsOfInsertedNodes.leave-insert_node}

-- what stands under a node is in use
pub root-unless : (o : Option ℕ) (v u : Bool) → ((is_some o || v) || u) ≡ false → o ≡ None
root-unless None v u h = refl
root-unless (Some p) v u h = absurd (false≢true (sym h))

pub live-unless : (r : ℕ) (w : World) → is_none (range_at w r) ≡ false → is_live r w ≡ true
live-unless r w h = go (range_at w r) h
  where
    go : (o : Option Range) → is_none o ≡ false → is_some o ≡ true
    go None k = absurd (false≢true (sym k))
    go (Some range) k = refl

module _ (w : World) where
  pub range-made : (d : ℕ) → is_none (entry_in w.forest d) ≡ false → not (kind_passes (is_kind Document) w.forest d) ≡ false → IsRange w.forest (collapsed_at (point d 0))
  range-made d h k =
      let kind = document_is_no_doctype w.forest d (passes_unless (kind_passes (is_kind Document) w.forest d) k) in
      range_at_point w.forest (point d 0) (record { there = HasNode-occurs w.forest d (there_unless w.forest d h); kind = kind; within = omega arith })

  pub range-contents : (n : ℕ) → is_none (entry_in w.forest n) ≡ false → check_contents w.forest n ≡ None → IsRange w.forest (contents_of unit_count w.forest n)
  range-contents n h k =
      let x = clear ((is_of_kind DocumentType w.forest n, InvalidNodeTypeError) ∷ []) k in range_of_contents w.forest n (there_unless w.forest n h) x.0

  pub leaves-at_ends : (r : ℕ) (o : Option Range) → IsSound w → IsLive w.forest o → is_live r w ≡ true → StepLeaves (select_edits r o w) w (at_ends o w (λ ends. does (with_range r ends w)))
  leaves-at_ends r None s k h = leaves-refused [] (Dom InvalidNodeTypeError) w no_edits
  leaves-at_ends r (Some ends) s k h = leaves-done (ends_edits_at r ends w) Nothing w (with_range r ends w) (leave-ends_at r ends w s k h)

  pub leaves-start_at : (r n : ℕ) (o : Option Point) → IsSound w → IfSome o (IsBoundary w.forest) → StepLeaves (start_edits_at r o w) w (sets_start r n o w)
  leaves-start_at r n None s k = search (leaves-unless, leaves-refused, no_edits)
  leaves-start_at r n (Some p) s k =
      let there : IsBoundary w.forest p = k in search (leaves-unless, leaves-on_range, leaves-done, leave-ends, sound-range, range-start_set, no_edits) depth 12

  pub leaves-end_at : (r n : ℕ) (o : Option Point) → IsSound w → IfSome o (IsBoundary w.forest) → StepLeaves (end_edits_at r o w) w (sets_end r n o w)
  leaves-end_at r n None s k = search (leaves-unless, leaves-refused, no_edits)
  leaves-end_at r n (Some p) s k =
      let there : IsBoundary w.forest p = k in search (leaves-unless, leaves-on_range, leaves-done, leave-ends, sound-range, range-end_set, no_edits) depth 12

pub ruleset ranges_edited = (leave-made_range, range-made, leave-ends, leave-ends_at, leaves-at_ends, sound-range, range-start_set, range-end_set, range_collapsed, range_selected, range-contents, boundary_checked, live-unless, root-unless, leave-delete_contents, leave-extract, leave-clone_contents, leave-insert_node, leave-released, leave-discarded)
