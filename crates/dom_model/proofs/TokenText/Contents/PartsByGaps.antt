-- What is ahead of the markers of a live range, between them and behind them, in the token text of its root: the tokens ahead of the gap
-- of its start, those from there on up to the gap of its end, and those from there on.
use Rattle.std.proofs.Common.{◌≡◌, ℕ, ◌-◌, ◌≤◌, true, false, [], ◌++◌, take, drop, Some, refl, ap, ◌∙◌}
use Rattle.dom_model.specs.Definitions.{root_of, Range, World, IsSound, range_at, unmarked, marks_from, texts_of, text_among, root_text, tokens_ahead, before_mark, after_mark, between, closes_left, opens_left, left_before, left_after}
use Rattle.dom_model.proofs.TokenText.{EditsMade.EditsOfDrawnContents.sound-range, Contents.MarksInOrder.marking, Contents.BetweenGaps.up_to-start, Contents.BetweenGaps.past-end, Contents.BetweenGaps.between-gaps, Contents.RangeText.ends_ahead, Contents.RangeText.marked-text, Contents.RangeText.bare-text}

-- how the marked text of a root stands to its text without markers
pub record Parts (w : World) (r root : ℕ) (range : Range) : Type 0 where
  -- how many tokens are ahead of the start's gap, and of the end's
  pub a : ℕ
  pub b : ℕ
  pub starts : tokens_ahead range.start [] (root_text w.forest root) ≡ Some a
  pub ends : tokens_ahead range.end [] (root_text w.forest root) ≡ Some b
  pub le : a ≤ b
  pub before : unmarked (before_mark r true (text_among root (texts_of w))) ≡ take a (root_text w.forest root)
  pub inside : between r (text_among root (texts_of w)) ≡ take (b - a) (drop a (root_text w.forest root))
  pub after : unmarked (after_mark r false (text_among root (texts_of w))) ≡ drop b (root_text w.forest root)

pub parts-by_gaps : (w : World) (r root : ℕ) (range : Range) → IsSound w → range_at w r ≡ Some range → root_of w.forest range.start.node ≡ Some root → Parts w r root range
parts-by_gaps w r root range sound h rooted =
    let is_range = sound-range w r range sound h in
    let t = ends_ahead w sound range is_range root rooted in
    let m = marking w r range h in
    let e = marked-text w sound range is_range root rooted t in
    let n = bare-text w sound range is_range root rooted t in
    record {
      a = t.a;
      b = t.b;
      starts = t.starts;
      ends = t.ends;
      le = t.le;
      before = ap (λ ts. unmarked (before_mark r true ts)) e ∙ up_to-start r range.start range.end (marks_from 0 w.ranges) m [] (root_text w.forest root) t.a n t.starts;
      inside = ap (between r) e ∙ between-gaps r range.start range.end (marks_from 0 w.ranges) m [] (root_text w.forest root) t.a t.b n t.starts t.ends t.le;
      after = ap (λ ts. unmarked (after_mark r false ts)) e ∙ past-end r range.start range.end (marks_from 0 w.ranges) m [] (root_text w.forest root) t.b n t.ends;
    }

-- What is to be left of the text, in the words of the text without markers.

pub left_before-by_gaps : (w : World) (r root : ℕ) (range : Range) (p : Parts w r root range) → left_before r (text_among root (texts_of w)) ≡ take p.a (root_text w.forest root) ++ closes_left 0 (take (p.b - p.a) (drop p.a (root_text w.forest root)))
left_before-by_gaps w r root range p = rw (p.before, p.inside) refl

pub left_after-by_gaps : (w : World) (r root : ℕ) (range : Range) (p : Parts w r root range) → left_after r (text_among root (texts_of w)) ≡ opens_left [] (take (p.b - p.a) (drop p.a (root_text w.forest root))) ++ drop p.b (root_text w.forest root)
left_after-by_gaps w r root range p = rw (p.inside, p.after) refl
