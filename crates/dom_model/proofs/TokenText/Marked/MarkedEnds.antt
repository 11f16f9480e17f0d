-- Texts stay those of the world where a live range is made or released, and where an end of one is set.
use Rattle.std.proofs.Common.{◌≡◌, ℕ, ◌<◌, ◌≤◌, Bool, true, false, if◌then◌else◌, List, [], ◌∷◌, ◌++◌, length, Option, Some, None, option_map, refl, ap, sym, ◌∙◌, arith, length-append, slice_set}
use Rattle.std.proofs.lemmas.{List.length-set, List.get_or-set_same, List.get_or-set_other, List.get_or_append_left, List.get_or_past, List.get_or_push, Bool.Decides.nat_tests}
use Rattle.dom_model.specs.Definitions.{Point, Range, World, end_of, range_at, Token, Mark, is_mark_of, mark_in, mark_out, EndSet, RangeMaking, Release, on_texts, set_side, on_world, end_at, IsPoint, IsReady}
use Rattle.dom_model.proofs.TokenText.{Pieces.TokenLists.AreMarks, Pieces.TokenLists.AreMarks-filter, Marked.MarkedTexts.Marked, Marked.MarkedTexts.HasPoint, Marked.MarkedTexts.trees_once, Marked.MarkedFirst.has_point, Marked.MarkersMoved.with_mark, Marked.MarkersMoved.without_mark, Marked.MarkersMoved.StandFor, Marked.MarkersMoved.mark_in-texts, Marked.MarkersMoved.mark_out-texts, Marked.MarkersMoved.AreMarks-with, Marked.MarkersMoved.standing-with, Marked.MarkersMoved.standing-without, Marked.MarkersMoved.end_itself}

pub point_of : (texts : List (List Token)) (w : World) (m : Marked texts w) → IsReady w → (p : Point) → IsPoint w p → HasPoint m.trees p
point_of texts w m i p h = has_point m.trees w.forest m.alike i.once p h.there h.within

-- The ends of a list of live ranges that changes.

pub end_at-other : (ranges : List (Option Range)) (r q : ℕ) (s : Bool) (x : Option Range) → (r ≡ q → ⊥) → end_at (slice_set ranges r x) q s ≡ end_at ranges q s
end_at-other ranges r q s x h = ap (option_map (end_of s)) (get_or-set_other ranges r q x None (λ e. h (sym e)))

pub end_at-set : (ranges : List (Option Range)) (r : ℕ) (s : Bool) (x : Option Range) → r < length ranges → end_at (slice_set ranges r x) r s ≡ option_map (end_of s) x
end_at-set ranges r s x h = ap (option_map (end_of s)) (get_or-set_same ranges r x None h)

pub end_at-past : (ranges : List (Option Range)) (r : ℕ) (s : Bool) → length ranges ≤ r → end_at ranges r s ≡ None
end_at-past ranges r s h = ap (option_map (end_of s)) (get_or_past ranges r None h)

end_at-out : (ranges : List (Option Range)) (r : ℕ) (s : Bool) → end_at (slice_set ranges r None) r s ≡ None
end_at-out ranges r s = grind (arith, end_at-set, end_at-past, length-set)

end_at-more : (ranges : List (Option Range)) (range : Range) (q : ℕ) (s : Bool) → (length ranges ≡ q → ⊥) → end_at (ranges ++ Some range ∷ []) q s ≡ end_at ranges q s
end_at-more ranges range q s h = grind (arith, get_or_append_left, get_or_past, length-append)

-- the ends but for one
abbrev but : ℕ → Bool → Option Point → (ℕ → Bool → Option Point) → ℕ → Bool → Option Point
but r side p ends q s = if is_mark_of q s (Mark r side) then p else ends q s

module _ (texts : List (List Token)) (w : World) (m : Marked texts w) where
  -- an end's markers taken out
  taken : (r : ℕ) (side : Bool) → StandFor (without_mark r side m.marks) (λ q s. but r side None (end_at w.ranges) q s)
  taken r side = standing-without m.marks (end_at w.ranges) (λ q s. but r side None (end_at w.ranges) q s) m.standing r side (λ q s h. rw h refl) (rw (end_itself r side) refl)

  pub marked-release : (r : ℕ) → Marked (on_texts (Release r) texts) (on_world (Release r) w)
  marked-release r = record {
    trees = m.trees;
    marks = without_mark r true (without_mark r false m.marks);
    spelt = ap (λ (ts : List (List Token)). mark_out r true (mark_out r false ts)) m.spelt ∙ ap (mark_out r true) (mark_out-texts r false m.marks m.trees) ∙ mark_out-texts r true (without_mark r false m.marks) m.trees;
    alike = m.alike;
    only = λ p. AreMarks-filter _ (without_mark r false m.marks p) (AreMarks-filter _ (m.marks p) (m.only p));
    standing = standing-without (without_mark r false m.marks) between (end_at (slice_set w.ranges r None)) (taken r false) r true others (end_at-out w.ranges r true);
  }
    where
      between : ℕ → Bool → Option Point
      between q s = but r false None (end_at w.ranges) q s

      others : (q : ℕ) (s : Bool) → is_mark_of q s (Mark r true) ≡ false → end_at (slice_set w.ranges r None) q s ≡ between q s
      others q s h =
          let a = end_at-out w.ranges r s in
          let b = end_at-other w.ranges r q s None in
          grind (arith, nat_tests)

  -- an end of a live range is set to a point
  pub marked-end_set : IsReady w → (r : ℕ) (side : Bool) (p : Point) (range : Range) → range_at w r ≡ Some range → IsPoint w p → Marked (on_texts (EndSet r side p) texts) (on_world (EndSet r side p) w)
  marked-end_set ready r side p range live there = record {
    trees = m.trees;
    marks = with_mark r side p (without_mark r side m.marks);
    spelt = ap (λ (ts : List (List Token)). mark_in r side p (mark_out r side ts)) m.spelt
        ∙ ap (mark_in r side p) (mark_out-texts r side m.marks m.trees)
        ∙ mark_in-texts (without_mark r side m.marks) only m.trees (trees_once texts w m ready.once) m.alike.childless r side p (point_of texts w m ready p there);
    alike = m.alike;
    only = AreMarks-with r side p (without_mark r side m.marks) only;
    standing = standing-with (without_mark r side m.marks) between ends (taken r side) r side others p (rw (end_itself r side) refl) here;
  }
    where
      new : Option Range
      new = option_map (set_side side p) (range_at w r)

      ends : ℕ → Bool → Option Point
      ends q s = end_at (slice_set w.ranges r new) q s

      between : ℕ → Bool → Option Point
      between q s = but r side None (end_at w.ranges) q s

      only : (q : Point) → AreMarks (without_mark r side m.marks q)
      only q = AreMarks-filter _ (m.marks q) (m.only q)

      given : r < length w.ranges
      given = let past = get_or_past w.ranges r None in grind arith

      is : (s : Bool) → ends r s ≡ Some (end_of s (set_side side p range))
      is s = end_at-set w.ranges r s new given ∙ ap (λ (o : Option Range). option_map (end_of s) (option_map (set_side side p) o)) live

      was : (s : Bool) → end_at w.ranges r s ≡ Some (end_of s range)
      was s = ap (option_map (end_of s)) live

      set_here : (v : Bool) → end_of v (set_side v p range) ≡ p
      set_here v = grind arith

      here : ends r side ≡ Some p
      here = is side ∙ ap (λ (q : Point). Some q) (set_here side)

      others : (q : ℕ) (s : Bool) → is_mark_of q s (Mark r side) ≡ false → ends q s ≡ between q s
      others q s h =
          let a = is s in
          let b = was s in
          let c = end_at-other w.ranges r q s new in
          grind (arith, nat_tests)

  -- a new live range, whose number is the next
  pub marked-range_making : IsReady w → (r : ℕ) (range : Range) → r ≡ length w.ranges → IsPoint w range.start → IsPoint w range.end → Marked (on_texts (RangeMaking r range) texts) (on_world (RangeMaking r range) w)
  marked-range_making ready r range next start end = record {
    trees = m.trees;
    marks = with_mark r true range.start (with_mark r false range.end m.marks);
    spelt = ap (λ (ts : List (List Token)). mark_in r true range.start (mark_in r false range.end ts)) m.spelt
        ∙ ap (mark_in r true range.start) (mark_in-texts m.marks m.only m.trees (trees_once texts w m ready.once) m.alike.childless r false range.end (point_of texts w m ready range.end end))
        ∙ mark_in-texts (with_mark r false range.end m.marks) only m.trees (trees_once texts w m ready.once) m.alike.childless r true range.start (point_of texts w m ready range.start start);
    alike = m.alike;
    only = AreMarks-with r true range.start (with_mark r false range.end m.marks) only;
    standing = standing-with (with_mark r false range.end m.marks) between ends first r true others range.start (rw apart_sides (none true)) (is true);
  }
    where
      ends : ℕ → Bool → Option Point
      ends q s = end_at (w.ranges ++ Some range ∷ []) q s

      between : ℕ → Bool → Option Point
      between q s = but r false (Some range.end) (end_at w.ranges) q s

      only : (q : Point) → AreMarks (with_mark r false range.end m.marks q)
      only q = AreMarks-with r false range.end m.marks m.only q

      none : (s : Bool) → end_at w.ranges r s ≡ None
      none s = end_at-past w.ranges r s (omega arith)

      is : (s : Bool) → ends r s ≡ Some (end_of s range)
      is s = ap (option_map (end_of s)) (get_or_push w.ranges (Some range) None r (sym next))

      apart_sides : is_mark_of r true (Mark r false) ≡ false
      apart_sides = grind (arith, nat_tests)

      first : StandFor (with_mark r false range.end m.marks) between
      first = standing-with m.marks (end_at w.ranges) between m.standing r false (λ q s h. rw h refl) range.end (none false) (rw (end_itself r false) refl)

      others : (q : ℕ) (s : Bool) → is_mark_of q s (Mark r true) ≡ false → ends q s ≡ between q s
      others q s h =
          let a = is s in
          let b = end_at-more w.ranges range q s in
          grind (arith, nat_tests)
