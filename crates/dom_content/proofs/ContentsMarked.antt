-- Where the markers of live ranges stand once contents are deleted, extracted or copied, and the text between two of them.
use Rattle.std.proofs.Common.{◌≡◌, ℕ, List, Some, None, ap, ◌∙◌, IfSome}
use Rattle.dom_model.specs.Definitions.{root_of, Range, for_range, range_text, delete_contents, check_draw, check_extract, extract, clone_contents, texts_of, delete_contents_edits, extract_edits, clone_contents_edits, text_among, text_of_range}
use Rattle.dom_model.proofs.Forests.Changes.{seen, nothing, just}
use Rattle.dom_model.proofs.TokenText.{Contents.RangeText.range_text-between, EditsMade.EditsOfDeletedContents.leave-delete_contents, EditsMade.EditsOfDrawnContents.leave-extract, EditsMade.EditsOfDrawnContents.leave-clone_contents}
use Rattle.dom_ranges.specs.Tables.{range_in}
use Rattle.dom_edit.specs.{declared.world.World.World, Whole.IsWhole, Whole.Follows, Whole.unwatched, Markers.StandByEdits}
use Rattle.dom_edit.proofs.{FollowsLemmas.sound-unwatched, StandByEditsLemmas.stand-by_edits}

module _ (old new : World) (r : ℕ) (before : IsWhole old) (after : IsWhole new) where
  pub markers-deleted : Follows old new (delete_contents r) → StandByEdits old new (delete_contents_edits r)
  markers-deleted f = stand-by_edits old new (delete_contents r) (delete_contents_edits r) before after f (leave-delete_contents r (unwatched old) (sound-unwatched old before))

  module _ (allowed : check_extract r (unwatched old) ≡ None) where
    pub markers-extracted : Follows old new (extract r) → StandByEdits old new (extract_edits r)
    markers-extracted f = stand-by_edits old new (extract r) (extract_edits r) before after f (leave-extract r (unwatched old) (sound-unwatched old before) allowed)

    pub markers-cloned : Follows old new (clone_contents r) → StandByEdits old new (clone_contents_edits r)
    markers-cloned f = stand-by_edits old new (clone_contents r) (clone_contents_edits r) before after f (leave-clone_contents r (unwatched old) (sound-unwatched old before) allowed)

-- what is asked of a live range is asked of its two ends
pub asked-range : (v : World) (r : ℕ) (range : Range) → range_in v.ranges r ≡ Some range → check_extract r (unwatched v) ≡ check_draw (unwatched v) range
asked-range v r range e = ap (λ o. for_range o None (λ x. check_draw (unwatched v) x)) e

-- the text of a live range is what lies between its markers
pub text-between : (v : World) (r : ℕ) (text : List ℕ) → IsWhole v → IfSome (range_in v.ranges r) (λ range. text ≡ range_text (unwatched v) range)
    → IfSome (range_in v.ranges r) (λ range. IfSome (root_of v.tree.forest range.start.node) (λ root. text ≡ text_of_range (unwatched v) r (text_among root (texts_of (unwatched v)))))
text-between v r text whole told =
    elim (seen (range_in v.ranges r)) [
      | nothing e ↦ rw e tt
      | just range e ↦
          rw e (elim (seen (root_of v.tree.forest range.start.node)) [
            | nothing d ↦ rw d tt
            | just root d ↦ rw d ((rw e at told) ∙ range_text-between (unwatched v) r root range (sound-unwatched v whole) e d)
          ])
    ]
