-- Several nodes come in one after another: the live ranges stand as their markers do.
use Rattle.std.proofs.Common.{◌≡◌, ℕ, ◌<◌, List, [], ◌∷◌, length, Option, Some, None, refl, sym, ◌∙◌, subst}
use Rattle.dom_model.specs.Definitions.{occurs, children_of, World, after_gap, map_ranges, put_in, put_all, gap_before, ArePlaceable, IsChildOf, IsSound, Edit, texts_of, all_on_texts, marked_ranges, index_before, insertions, IsReady}
use Rattle.dom_model.proofs.Soundness.SoundPlacing.{passes, sound-put_all, gap-none}
use Rattle.dom_model.proofs.TokenText.{Marked.MarkedFirst.marked-first, Marked.MarkedFirst.kinds-childless, Marked.MarkedEdits.ranges-found, Marked.MarkedEdits.markers-follow, EditsMade.FittingEdits.ready-laid, EditsMade.FittingEdits.ready-sound, EditsMade.EditsLeave.laid, EditsMade.EditsLeave.Leave, EditsMade.EditsOfInsertions.ranges-stay, EditsMade.EditsOfInsertions.gap-last, EditsMade.EditsOfInsertions.leave-insertions}
use Rattle.dom_ranges.specs.Markers.{MoveAsMarkersByAll, MoveWhereSeveralNodesComeIn}

-- edits that leave a sound world
pub edits-move : (es : List Edit) (w v : World) → IsSound w → IsSound v → Leave es w v → MoveAsMarkersByAll w es v.ranges
edits-move es w v s sv h = record {
  before = ranges-found (texts_of w) w (marked-first w (kinds-childless None w.forest s.forest.kinds)) (ready-sound w s);
  after =
      subst (λ (x : World). marked_ranges 0 x.ranges (all_on_texts es (texts_of w)) ≡ x.ranges) h.left
      (markers-follow (laid w) es (kinds-childless None w.forest s.forest.kinds) h.fits (subst IsReady (sym h.left) (ready-laid v (ready-sound v sv))));
}

-- putting moves no end
put-moves_none : (parent : ℕ) (child : Option ℕ) (ns : List ℕ) (w : World) → (put_all parent child ns w).ranges ≡ w.ranges
put-moves_none parent child [] w = refl
put-moves_none parent child (n ∷ ns) w = put-moves_none parent child ns (put_in parent child n w)

-- the room that is made, told by the map
gap-is : (parent : ℕ) (child : Option ℕ) (ns : List ℕ) (w : World) → IsSound w → 0 < occurs parent w.forest → ArePlaceable w.forest parent ns → IsChildOf w.forest parent child →
    (gap_before parent child (length ns) w).ranges ≡ map_ranges (after_gap parent (index_before w parent child) (length ns)) w.ranges
gap-is parent (Some d) ns w s hp k c = refl
gap-is parent None [] w s hp k c = sym (ranges-stay w.forest (after_gap parent (length (children_of w.forest parent)) 0) (λ q b. gap-none parent (length (children_of w.forest parent)) q) w.ranges s.ranges)
gap-is parent None (n ∷ ns) w s hp k c =
    sym (ranges-stay w.forest (after_gap parent (length (children_of w.forest parent)) (length (n ∷ ns)))
    (gap-last w.forest parent (length (n ∷ ns)) (passes parent n None w s hp k.0)) w.ranges s.ranges)

pub moves-insertions : MoveWhereSeveralNodesComeIn
moves-insertions w s ns parent child hp k c =
    let v = put_all parent child ns (gap_before parent child (length ns) w) in
    subst (MoveAsMarkersByAll w (insertions parent (index_before w parent child) ns))
    (put-moves_none parent child ns (gap_before parent child (length ns) w) ∙ gap-is parent child ns w s hp k c)
    (edits-move (insertions parent (index_before w parent child) ns) w v s (sound-put_all parent child ns w s hp k c) (leave-insertions parent child ns w s hp k c))
