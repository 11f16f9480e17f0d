-- Two Texts are joined: the live ranges stand as their markers do.
use Rattle.std.proofs.Common.{◌≡◌, ℕ, ◌+◌, ◌<◌, ◌≤◌, ◌==◌, true, false, List, [], ◌∷◌, length, Some, None, refl, ap, sym, ◌∙◌, subst, arith}
use Rattle.dom_model.specs.declared.Kind.TheVariants.{Text}
use Rattle.dom_model.specs.Definitions.{is_kind, is_character_data, spliced, occurs, parent_of, children_of, index_of, inclusive_descendants, unit_count, node_length, Point, World, IsBoundary, IsRange, IsSound, map_ranges, moved_range, after_removal, after_splice, after_merge, kind_passes, is_of_kind, remove, content_in, data_of, with_data, replace_units, Removal, Merge, removal_from, merge_from, IsUpTo, AreUpTo, fits_merge}
use Rattle.dom_model.proofs.PlainLists.Numbers.{same_or, same, apart}
use Rattle.dom_model.proofs.Forests.Changes.{change_at}
use Rattle.dom_model.proofs.Worlds.{SameShape.IsAlike, SameShape.with_node-alike, SameShape.occurs-alike, SameShape.parent-alike, SameShape.kind-alike, SameShape.index-alike, SameShape.inside-alike, Measured.entry-with_node}
use Rattle.dom_model.proofs.BoundaryPoints.MergeOrder.{joined-settled}
use Rattle.dom_model.proofs.RangesAndContents.RangesMerged.{range-merged}
use Rattle.dom_model.proofs.Soundness.{SoundForests.entry_there, SoundForests.data-childless, SoundWorlds.each-moved, SoundWorlds.child_there, SoundWorlds.sound-remove, SoundData.length-data, SoundData.length-other, SoundData.length-spliced, SoundData.sound-replace_units, SoundSplitting.text_has_data, SoundJoining.text_is_no_doctype, SoundJoining.lives-both}
use Rattle.dom_model.proofs.TokenText.{EditsMade.FittingEdits.ready-sound, EditsMade.EditsLeave.laid, EditsMade.EditsLeave.Leave, EditsMade.EditsLeave.leave-edit, EditsMade.EditsLeave.leave-laid, EditsMade.EditsOfSteps.leave-removal}
use Rattle.dom_ranges.specs.Markers.{MoveAsMarkers, MoveWhereTextsAreJoined}
use Rattle.dom_ranges.proofs.MoveAsMarkersLemmas.{edit-moves}

module _ (w : World) (s : IsSound w) (n next parent : ℕ) (par : parent_of w.forest n ≡ Some parent) (par_next : parent_of w.forest next ≡ Some parent) (behind : index_of w.forest next ≡ index_of w.forest n + 1) (text : is_of_kind Text w.forest n ≡ true) (text_next : is_of_kind Text w.forest next ≡ true) where
  abbrev base : ℕ
  base = length (data_of w n)

  abbrev added : List ℕ
  added = data_of w next

  abbrev units : List ℕ
  units = spliced base 0 added (data_of w n)

  -- the Text has the data of both
  abbrev joined : World
  joined = replace_units n base 0 added w

  abbrev moved : World
  moved = record joined { ranges = map_ranges (after_merge next n base parent (index_of w.forest next)) joined.ranges }

  a : IsAlike w.forest joined.forest
  a = with_node-alike (with_data units) (λ x. refl) n w.forest

  there : 0 < occurs n w.forest
  there = child_there w.forest n parent par

  next_there : 0 < occurs next w.forest
  next_there = child_there w.forest next parent par_next

  is_data : kind_passes is_character_data w.forest n ≡ true
  is_data = text_has_data w n text

  next_is_data : kind_passes is_character_data w.forest next ≡ true
  next_is_data = text_has_data w next text_next

  sound : IsSound joined
  sound = sound-replace_units n base 0 added w s is_data (omega arith)

  own : data_of joined n ≡ units
  own =
      let e = entry_there w.forest n there in
      ap (λ o. (content_in o).text) (entry-with_node (with_data units) (λ x. refl) n n None w.forest)
      ∙ ap (λ o. (content_in (change_at (with_data units) n n o)).text) e.1
      ∙ (elim (same_or n n) [ same _ u ↦ rw u refl | apart ne u ↦ absurd (ne refl) ])

  other : (next == n) ≡ false
  other = elim (same_or next n) [ same e u ↦ absurd (let i = ap (index_of w.forest) e in omega (arith, behind)) | apart ne u ↦ u ]

  room : base + node_length unit_count joined.forest next ≤ node_length unit_count joined.forest n
  room =
      let c = length-other (with_data units) (λ x. refl) n w s next other in
      let d = length-data w.forest next next_is_data in
      let e = length-data joined.forest n (kind-alike a is_character_data n ∙ is_data) in
      let h = ap length own in
      let i = length-spliced base 0 added (data_of w n) (omega arith) in
      omega arith

  up_to : (q : Point) → IsBoundary w.forest q → IsUpTo n base (after_splice n base 0 (length added) q)
  up_to q b = subst (IsUpTo n base) (sym (joined-settled n base (length added) q.node q.offset within)) within
    where
      within : q.node ≡ n → q.offset ≤ base
      within d =
          let c : q.offset ≤ node_length unit_count w.forest n = subst (λ m. q.offset ≤ node_length unit_count w.forest m) d b.within in
          let e = length-data w.forest n is_data in
          omega arith

  bare_of : (m : ℕ) → is_of_kind Text w.forest m ≡ true → children_of joined.forest m ≡ []
  bare_of m h = data-childless sound.forest m (kind-alike a is_character_data m ∙ text_has_data w m h)

  sound-moved : IsSound moved
  sound-moved = record {
    forest = sound.forest;
    ranges =
        each-moved (λ r. IsRange joined.forest r × AreUpTo n base r) (IsRange joined.forest) (after_merge next n base parent (index_of w.forest next))
        (λ r h. subst (λ i. IsRange joined.forest (moved_range (after_merge next n base parent i) r)) (index-alike a next)
        (range-merged sound.forest parent n next base
        (subst (λ k. 0 < k) (sym (occurs-alike a n)) there) (subst (λ k. 0 < k) (sym (occurs-alike a next)) next_there)
        (parent-alike a n ∙ par) (parent-alike a next ∙ par_next)
        (index-alike a next ∙ behind ∙ ap (λ k. k + 1) (sym (index-alike a n)))
        (bare_of n text) (bare_of next text_next)
        (text_is_no_doctype joined.forest n (kind-alike a (is_kind Text) n ∙ text)) room r h.0 h.1.0 h.1.1))
        joined.ranges
        (lives-both (IsRange joined.forest) (AreUpTo n base) (λ r. IsRange joined.forest r × AreUpTo n base r) (λ r b c. (b, c)) joined.ranges sound.ranges
        (each-moved (IsRange w.forest) (AreUpTo n base) (after_splice n base 0 (length added)) (λ r k. (up_to r.start k.starts, up_to r.end k.ends)) w.ranges s.ranges));
    iterators = sound.iterators;
    walkers = sound.walkers;
    registrations = sound.registrations;
    statics = sound.statics;
  }

  leave-joined : Leave (Merge n next ∷ []) w (remove true next moved)
  leave-joined =
      leave-edit (Merge n next) w (remove true next moved) (ready-sound w s) (fits_merge n next parent par par_next behind is_data next_is_data)
      (ap (λ o. laid (merge_from n next o w)) par_next
      ∙ ap (λ o. laid (removal_from next o moved)) (sym par_moved)
      ∙ leave-laid (Removal next ∷ []) moved (remove true next moved) (leave-removal true next parent moved sound-moved par_moved))
    where
      par_moved : parent_of moved.forest next ≡ Some parent
      par_moved = parent-alike a next ∙ par_next

  as-joined : MoveAsMarkers w (Merge n next) (removal_from next (Some parent) moved).ranges
  as-joined =
      subst (λ o. MoveAsMarkers w (Merge n next) (merge_from n next o w).ranges) par_next
      (edit-moves (Merge n next) w (remove true next moved) s (sound-remove true next moved sound-moved) leave-joined)

  -- the second Text stands where it stood, with what it had
  pub as-stood : MoveAsMarkers w (Merge n next) (map_ranges (after_removal (inclusive_descendants w.forest next) parent (index_of w.forest next)) moved.ranges)
  as-stood =
      subst (λ i. MoveAsMarkers w (Merge n next) (map_ranges (after_removal (inclusive_descendants w.forest next) parent i) moved.ranges)) (index-alike a next)
      (subst (λ ns. MoveAsMarkers w (Merge n next) (map_ranges (after_removal ns parent (index_of joined.forest next)) moved.ranges)) (inside-alike a next) as-joined)

pub moves-joined : MoveWhereTextsAreJoined
moves-joined w s n next parent par par_next behind text text_next = as-stood w s n next parent par par_next behind text text_next
