-- An operation leaves of a text what is to be left, if without markers the text is so, and the range's ends stand where its contents stood.
use Rattle.std.proofs.Common.{◌≡◌, ℕ, ◌-◌, List, [], ◌++◌, length, take, drop, Some, ap, ◌∙◌, arith}
use Rattle.dom_model.specs.Definitions.{root_of, Point, Range, World, IsSound, collapsed_at, range_at, Token, root_text, tokens_ahead, closes_left, opens_left}
use Rattle.dom_model.proofs.TokenText.{Contents.PartsByGaps.Parts, Contents.PartsByGaps.parts-by_gaps, Contents.PartsByGaps.left_before-by_gaps, Contents.PartsByGaps.left_after-by_gaps, Contents.DeletedInPlace.IsLeft, Contents.DeletedUnits.take-front, Contents.DeletedUnits.drop-front}

-- what is to stand ahead of the place of the contents, and behind it
abbrev pub front_left : (w : World) (r root : ℕ) (range : Range) → Parts w r root range → List Token
front_left w r root range p = take p.a (root_text w.forest root) ++ closes_left 0 (take (p.b - p.a) (drop p.a (root_text w.forest root)))

abbrev pub back_left : (w : World) (r root : ℕ) (range : Range) → Parts w r root range → List Token
back_left w r root range p = opens_left [] (take (p.b - p.a) (drop p.a (root_text w.forest root))) ++ drop p.b (root_text w.forest root)

pub left-by_text : (w v : World) (r root : ℕ) (range : Range) (place : Point) (p : Parts w r root range) → IsSound v → range_at v r ≡ Some (collapsed_at place) → root_of v.forest place.node ≡ Some root → root_text v.forest root ≡ front_left w r root range p ++ back_left w r root range p → tokens_ahead place [] (root_text v.forest root) ≡ Some (length (front_left w r root range p)) → IsLeft r root w v
left-by_text w v r root range place p sound h rooted text gap =
    let q = parts-by_gaps v r root (collapsed_at place) sound h rooted in
    let a : q.a ≡ length (front_left w r root range p) = cc in
    let b : q.b ≡ length (front_left w r root range p) = cc in
    let front = take-front (front_left w r root range p) (back_left w r root range p) in
    let back = drop-front (front_left w r root range p) (back_left w r root range p) in
    record {
      before = cc (left_before-by_gaps w r root range p);
      after = cc (left_after-by_gaps w r root range p);
      gone = (let z : q.b - q.a ≡ 0 = omega arith in q.inside ∙ ap (λ k. take k (drop q.a (root_text v.forest root))) z);
      place = place;
      together = h;
    }
