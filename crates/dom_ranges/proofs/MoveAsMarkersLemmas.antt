-- The live ranges stand as their markers do, before an edit of the token texts and after it.
use Rattle.std.proofs.Common.{◌≡◌, ◌<◌, true, [], ◌∷◌, None, refl, ap, sym, subst}
use Rattle.dom_model.specs.Definitions.{is_character_data, occurs, World, IsSound, remove, put_in, gap_before, replace_units, split, Edit, Insertion, Removal, Splice, Parting, point, texts_of, on_texts, marked_ranges, on_world, removal_from, parting_from, index_before, split_edits_by, IsPlaceable, IsReady, fits_splice}
use Rattle.dom_model.proofs.Soundness.{SoundWorlds.child_there, SoundWorlds.sound-remove, SoundPlacing.sound-put_one, SoundData.sound-replace_units, SoundSplitting.sound-split}
use Rattle.dom_model.proofs.TokenText.{Marked.MarkedFirst.marked-first, Marked.MarkedFirst.kinds-childless, Marked.MarkedEdits.ranges-found, Marked.MarkedEdits.markers-follow, EditsMade.FittingEdits.ready-laid, EditsMade.FittingEdits.ready-sound, EditsMade.FittingEdits.passes_there, EditsMade.EditsLeave.laid, EditsMade.EditsLeave.Leave, EditsMade.EditsLeave.leave-edit, EditsMade.EditsLeave.leave-ranges, EditsMade.EditsOfSteps.leave-removal, EditsMade.EditsOfInsertions.come_in-fits, EditsMade.EditsOfInsertions.come_in-edit, EditsMade.EditsOfSplitting.leave-split}
use Rattle.dom_ranges.specs.Markers.{MoveAsMarkers, MoveWhereNodesComeIn, MoveWhereANodeLeaves, MoveWhereUnitsAreReplaced, MoveWhereATextIsSplit}

-- an edit that leaves a sound world
pub edit-moves : (e : Edit) (w v : World) → IsSound w → IsSound v → Leave (e ∷ []) w v → MoveAsMarkers w e (on_world e w).ranges
edit-moves e w v s sv h = record {
  before = ranges-found (texts_of w) w (marked-first w (kinds-childless None w.forest s.forest.kinds)) (ready-sound w s);
  after = subst (λ rs. marked_ranges 0 rs (on_texts e (texts_of w)) ≡ rs) (sym (leave-ranges (e ∷ []) w v h))
      (subst (λ (x : World). marked_ranges 0 x.ranges (on_texts e (texts_of w)) ≡ x.ranges) h.left
      (markers-follow (laid w) (e ∷ []) (kinds-childless None w.forest s.forest.kinds) h.fits (subst IsReady (sym h.left) (ready-laid v (ready-sound v sv)))));
}

pub moves-removal : MoveWhereANodeLeaves
moves-removal w s n parent par =
    subst (λ o. MoveAsMarkers w (Removal n) (removal_from n o w).ranges) par
    (edit-moves (Removal n) w (remove true n w) s (sound-remove true n w s) (leave-removal true n parent w s par))

pub moves-splice : MoveWhereUnitsAreReplaced
moves-splice w s n offset count units kind within =
    edit-moves (Splice n offset count units) w (replace_units n offset count units w) s (sound-replace_units n offset count units w s kind within)
    (leave-edit (Splice n offset count units) w (replace_units n offset count units w) (ready-sound w s)
    (fits_splice n offset count units (passes_there is_character_data w.forest n kind) kind within) refl)

pub moves-insertion : MoveWhereNodesComeIn
moves-insertion w s n parent child k =
    edit-moves (Insertion n (point parent (index_before w parent child))) w come_in s (sound-put_one parent n child w s k.holder placeable k.before)
    (leave-edit (Insertion n (point parent (index_before w parent child))) w come_in (ready-sound w s)
    (come_in-fits parent n child w s k.holder placeable k.before) (ap laid (come_in-edit parent n child w s k.holder placeable k.before)))
  where
    come_in : World
    come_in = put_in parent child n (gap_before parent child 1 w)

    placeable : IsPlaceable w.forest parent n
    placeable = record { there = k.there; root = k.root; outside = k.outside; fits = k.fits }

pub moves-parting : MoveWhereATextIsSplit
moves-parting w s n parent offset par text within =
    subst (λ o. MoveAsMarkers w (Parting (point n offset) w.made) (parting_from (point n offset) w.made o w).ranges) par
    (edit-moves (Parting (point n offset) w.made) w (split n offset w) s (sound-split n offset w s there text within)
    (subst (λ o. Leave (split_edits_by o n offset w) w (split n offset w)) par (leave-split n offset w s there text within)))
  where
    there : 0 < occurs n w.forest
    there = child_there w.forest n parent par
