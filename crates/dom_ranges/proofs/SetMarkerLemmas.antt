-- The live ranges stand as their markers do, before one of them is set anew and after it.
use Rattle.std.proofs.Common.{◌≡◌, ℕ, [], ◌∷◌, Option, Some, None, IfSome, sym, subst}
use Rattle.dom_model.specs.declared.{Kind.TheVariants.DocumentType, DomError.TheVariants.InvalidNodeTypeError}
use Rattle.dom_model.specs.Definitions.{unit_count, Range, World, IsRange, IsSound, is_of_kind, start_set, end_set, around, contents_of, collapsed, range_at, with_range, texts_of, all_on_texts, marked_ranges, ends_edits, IsReady}
use Rattle.dom_model.proofs.Forests.Entries.{occurs-HasNode}
use Rattle.dom_model.proofs.Soundness.{SoundEditing.clear, SoundRangeSteps.live_range, SoundRangeSteps.sound-with_range, SoundWorlds.IsLive}
use Rattle.dom_model.proofs.RangesAndContents.RangesSet.{range_collapsed, range-start_set, range-end_set, boundary_checked, range_selected, range_of_contents}
use Rattle.dom_model.proofs.TokenText.{Marked.MarkedFirst.marked-first, Marked.MarkedFirst.kinds-childless, Marked.MarkedEdits.ranges-found, Marked.MarkedEdits.markers-follow, EditsMade.FittingEdits.ready-laid, EditsMade.FittingEdits.ready-sound, EditsMade.EditsLeave.laid, EditsMade.EditsOfSteps.leave-ends}
use Rattle.dom_ranges.specs.Markers.{SetAsMarkers, MoveWhereEndsAreSet}

module _ (w : World) (s : IsSound w) (r : ℕ) (old : Range) (e : range_at w r ≡ Some old) where
  -- a range of the forest in place of another
  set-as : (new : Range) → IsRange w.forest new → SetAsMarkers w r old new
  set-as new h =
      let v : World = with_range r new w in
      let es = ends_edits r old new in
      let left = leave-ends r old new w s h e in
      record {
        before = ranges-found (texts_of w) w (marked-first w (kinds-childless None w.forest s.forest.kinds)) (ready-sound w s);
        after =
            subst (λ (x : World). marked_ranges 0 x.ranges (all_on_texts es (texts_of w)) ≡ x.ranges) left.left
            (markers-follow (laid w) es (kinds-childless None w.forest s.forest.kinds) left.fits (subst IsReady (sym left.left) (ready-laid v (ready-sound v (sound-with_range r new w s h)))));
      }

  was : IsRange w.forest old
  was = subst (IsLive w.forest) e (live_range w s r)

pub moves-set : MoveWhereEndsAreSet
moves-set w s r old e = record {
  start = λ p there c. set-as w s r old e (start_set w.forest p old) (range-start_set w.forest p old (boundary_checked w.forest p (occurs-HasNode w.forest p.node there) c) (was w s r old e));
  end = λ p there c. set-as w s r old e (end_set w.forest p old) (range-end_set w.forest p old (boundary_checked w.forest p (occurs-HasNode w.forest p.node there) c) (was w s r old e));
  select = λ n. go n (around w.forest n) (range_selected s.forest n);
  select_contents = λ n there c.
      let k = clear ((is_of_kind DocumentType w.forest n, InvalidNodeTypeError) ∷ []) c in
      set-as w s r old e (contents_of unit_count w.forest n) (range_of_contents w.forest n (occurs-HasNode w.forest n there) k.0);
  collapse = λ to_start. set-as w s r old e (collapsed to_start old) (range_collapsed w.forest to_start old (was w s r old e));
}
  where
    go : (n : ℕ) (o : Option Range) → IfSome o (IsRange w.forest) → IfSome o (SetAsMarkers w r old)
    go n None h = tt
    go n (Some new) h = set-as w s r old e new h
