-- Deleting the contents of a live range that has none, and of one within one node with data, leaves of the text what is to be left.
use Rattle.std.proofs.Common.{◌≡◌, ℕ, ◌-◌, true, false, [], ◌++◌, take, drop, Option, Some, refl, ap, sym, ◌∙◌, arith, append-nil, subst}
use Rattle.std.proofs.lemmas.Bool.Decides.{nat_tests}
use Rattle.dom_model.specs.Definitions.{root_of, Point, Range, World, IsSound, is_collapsed, collapsed_at, range_at, for_range, deleted, delete_contents, unmarked, texts_of, text_among, root_text, tokens_ahead, before_mark, after_mark, between, closes_left, opens_left, left_before, left_after}
use Rattle.dom_model.proofs.TokenText.Contents.PartsByGaps.{parts-by_gaps, left_before-by_gaps, left_after-by_gaps}

-- what deleting leaves of the text of a root: what is to be left ahead of both markers, nothing between them, and what is to be left behind
-- them; both ends are then one point
pub record IsLeft (r root : ℕ) (w v : World) : Type 0 where
  pub before : unmarked (before_mark r true (text_among root (texts_of v))) ≡ left_before r (text_among root (texts_of w))
  pub after : unmarked (after_mark r false (text_among root (texts_of v))) ≡ left_after r (text_among root (texts_of w))
  pub gone : between r (text_among root (texts_of v)) ≡ []
  pub place : Point
  pub together : range_at v r ≡ Some (collapsed_at place)

pub same-ends : (range : Range) → is_collapsed range ≡ true → range.start ≡ range.end
same-ends range h = grind (arith, nat_tests)

-- a range whose ends are one point has no contents
pub collapsed-left : (w : World) (r root : ℕ) (range : Range) → IsSound w → range_at w r ≡ Some range → root_of w.forest range.start.node ≡ Some root → is_collapsed range ≡ true → IsLeft r root w (delete_contents r w)
collapsed-left w r root range sound h rooted one =
    let p = parts-by_gaps w r root range sound h rooted in
    let stays : delete_contents r w ≡ w = ap (λ (o : Option Range). for_range o w (λ x. deleted r x w)) h ∙ (rw one refl) in
    let text = root_text w.forest root in
    let d : p.a ≡ p.b = cc (ap (λ q. tokens_ahead q [] text) (same-ends range one)) in
    let z : p.b - p.a ≡ 0 = omega arith in
    let front : take p.a text ++ closes_left 0 (take (p.b - p.a) (drop p.a text)) ≡ take p.a text =
    ap (λ k. take p.a text ++ closes_left 0 (take k (drop p.a text))) z ∙ append-nil (take p.a text)
    in
    let back : opens_left [] (take (p.b - p.a) (drop p.a text)) ++ drop p.b text ≡ drop p.b text = ap (λ k. opens_left [] (take k (drop p.a text)) ++ drop p.b text) z in
    subst (IsLeft r root w) (sym stays) record {
      before = p.before ∙ sym front ∙ sym (left_before-by_gaps w r root range p);
      after = p.after ∙ sym back ∙ sym (left_after-by_gaps w r root range p);
      gone = p.inside ∙ ap (λ k. take k (drop p.a text)) z;
      place = range.start;
      together = h ∙ ap (λ q. Some (record { start = range.start; end = q })) (sym (same-ends range one));
    }
