-- In a gap where a live range starts its start marker comes first, and its end marker after it, if the range ends there too.
use Rattle.std.proofs.Common.{◌≡◌, ℕ, zero, suc, ◌+◌, ◌<◌, Bool, true, false, ◌&&◌, if◌then◌else◌, List, [], ◌∷◌, ◌++◌, Option, Some, None, option_map, slice_index_or, refl, ap, sym, ◌∙◌, subst, arith, append_assoc, eq-eqb}
use Rattle.dom_model.specs.Definitions.{Point, Range, World, end_of, range_at, Token, Mark, is_mark_of, same_point, mark_if, marks_from}
use Rattle.dom_model.proofs.PlainLists.Numbers.{same_or, same, apart}
use Rattle.dom_model.proofs.TokenText.{Pieces.TokenLists.marked, Pieces.TokenLists.tally-append, Pieces.TokenLists.AreMarks, Marked.MarkedTexts.stands, Marked.MarkedFirst.AreMarks-marks_from, Marked.MarkedFirst.marked-other, Marked.MarkedFirst.marked-here, Marked.MarkedFirst.marks_from-later, Marked.MarkedFirst.marks_from-at}

-- the first marker of a start among markers, and how many of the end come after it
pub record StartsIn (r : ℕ) (ends : Bool) (ms : List Token) : Type 0 where
  pub first : List Token
  pub last : List Token
  pub whole : ms ≡ first ++ (Mark r true ∷ last)
  pub free : marked r true first ≡ 0
  pub ending : marked r false last ≡ (if ends then 1 else 0)

-- the markers of a range, in the gaps of its two ends and in no other
pub record Marking (r : ℕ) (p q : Point) (marks : Point → List Token) : Type 0 where
  pub only : (g : Point) → AreMarks (marks g)
  pub no_start : (g : Point) → same_point p g ≡ false → marked r true (marks g) ≡ 0
  pub no_end : (g : Point) → same_point q g ≡ false → marked r false (marks g) ≡ 0
  pub a_start : (g : Point) → same_point p g ≡ true → 0 < marked r true (marks g)
  pub an_end : (g : Point) → same_point q g ≡ true → 0 < marked r false (marks g)
  pub start : (g : Point) → same_point p g ≡ true → StartsIn r (same_point q g) (marks g)

one_if : (v : Bool) → ◌≡◌ {A = ℕ} ((if v && true then 1 else 0) + 0) (if v then 1 else 0)
one_if v = grind arith

start-ahead : (k r q : ℕ) (ranges : List (Option Range)) (range : Range) (g : Point) → r ≡ q + k → slice_index_or ranges k None ≡ Some range → same_point range.start g ≡ true → StartsIn r (same_point range.end g) (marks_from q ranges g)
start-ahead k r q [] range g e h s = absurd (grind arith)
start-ahead zero r q (None ∷ ranges) range g e h s = absurd (cc h)
start-ahead zero r q (Some other ∷ ranges) range g e h s =
    let d : q ≡ r = omega arith in
    let o : other ≡ range = cc h in
    subst (λ (x : Range). StartsIn r (same_point range.end g) (marks_from q (Some x ∷ ranges) g)) (sym o)
    (subst (λ m. StartsIn m (same_point range.end g) (marks_from q (Some range ∷ ranges) g)) d record {
      first = [];
      last = mark_if (same_point range.end g) q false ++ marks_from (suc q) ranges g;
      whole = rw s refl;
      free = refl;
      ending =
          tally-append (is_mark_of q false) (mark_if (same_point range.end g) q false) (marks_from (suc q) ranges g)
          ∙ (rw (marked-here (same_point range.end g) q false q false (eq-eqb q q refl), marks_from-later q (suc q) false ranges g (omega arith)) (one_if (same_point range.end g)));
    })
start-ahead (suc k) r q (None ∷ ranges) range g e h s = start-ahead k r (suc q) ranges range g (omega arith) h s
start-ahead (suc k) r q (Some other ∷ ranges) range g e h s =
    elim (same_or q r) [
      | same d t ↦ absurd (omega arith)
      | apart ne t ↦
          let i = start-ahead k r (suc q) ranges range g (omega arith) h s in
          let a = mark_if (same_point other.start g) q true in
          let b = mark_if (same_point other.end g) q false in
          record {
            first = a ++ (b ++ i.first);
            last = i.last;
            whole = ap (λ ms. a ++ (b ++ ms)) i.whole ∙ (simp append_assoc);
            free = omega (arith, tally-append (is_mark_of r true) a (b ++ i.first), tally-append (is_mark_of r true) b i.first, marked-other (same_point other.start g) q true r true t, marked-other (same_point other.end g) q false r true t, i.free);
            ending = i.ending;
          }
    ]

-- the live ranges of a world are marked so
pub marking : (w : World) (r : ℕ) (range : Range) → range_at w r ≡ Some range → Marking r range.start range.end (marks_from 0 w.ranges)
marking w r range h = record {
  only = λ g. AreMarks-marks_from 0 w.ranges g;
  no_start = λ g e. counted true g ∙ (rw e refl);
  no_end = λ g e. counted false g ∙ (rw e refl);
  a_start = λ g e. (let c = counted true g ∙ (rw e refl) in one_more c);
  an_end = λ g e. (let c = counted false g ∙ (rw e refl) in one_more c);
  start = λ g e. start-ahead r r 0 w.ranges range g (omega arith) h e;
}
  where
    counted : (side : Bool) (g : Point) → marked r side (marks_from 0 w.ranges g) ≡ stands (Some (end_of side range)) g
    counted side g = marks_from-at r r 0 side w.ranges g (omega arith) ∙ ap (λ (o : Option Range). stands (option_map (end_of side) o) g) h

    one_more : {k : ℕ} → k ≡ 1 → 0 < k
    one_more e = omega arith
