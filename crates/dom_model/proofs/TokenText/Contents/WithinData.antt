-- Deleting the contents of a live range within one node with data leaves of the text of its root what is to be left.
use Rattle.std.proofs.Common.{◌≡◌, ℕ, suc, ◌+◌, ◌-◌, ◌<◌, ◌≤◌, true, false, List, [], ◌∷◌, ◌++◌, length, take, drop, Option, Some, option_map, refl, ap, sym, ◌∙◌, subst, arith, append_assoc, append-nil, length-append, length-drop}
use Rattle.std.proofs.lemmas.{Bool.false≢true, Bool.Decides.nat_tests, List.length-take-le}
use Rattle.dom_model.specs.Definitions.{is_character_data, root_of, spliced, node_length, unit_count, Point, Range, World, IsSound, IsRange, after_splice, moved_range, kind_passes, is_collapsed, range_at, for_range, is_in_one_data, deleted, delete_contents, cut_count, data_of, with_data, replace_data, Token, Open, Close, point, no_marks, unit_tokens, texts_of, unmarked, text_among, root_text, tokens_ahead, before_mark, between, closes_left, opens_left}
use Rattle.dom_model.proofs.PlainLists.Numbers.{same_or, same, apart}
use Rattle.dom_model.proofs.Forests.Entries.{occurs-HasNode}
use Rattle.dom_model.proofs.Worlds.SameShape.{with_node-alike, root-alike}
use Rattle.dom_model.proofs.Soundness.SoundData.{sound-replace_data}
use Rattle.dom_model.proofs.TokenText.{Marked.MarkedFirst.kinds-childless, EditsMade.EditsOfDrawnContents.sound-range, Pieces.TokenLists.opened, Contents.LeafPlaces.leaf-gap, Contents.LeafPlaces.units-long, Contents.RangeText.EndsAhead, Contents.RangeText.ends_ahead, Contents.RangeText.unopened-ahead, Contents.RangeText.end-in, Contents.PartsByGaps.Parts, Contents.PartsByGaps.parts-by_gaps, Contents.MatchedPieces.matches-units, Contents.DeletedInPlace.IsLeft, Contents.DeletedUnits.DataThere, Contents.DeletedUnits.data-there, Contents.DeletedUnits.cut-text, Contents.DeletedUnits.left-text, Contents.DeletedUnits.take-front, Contents.DeletedUnits.drop-front, Contents.DeletedUnits.moved-at, Contents.DeletedUnits.data-long, Contents.RangeText.opened-tree, Contents.LeftByText.front_left, Contents.LeftByText.back_left, Contents.LeftByText.left-by_text, Contents.DeletedUnits.middle-of}

-- both ends in one node with data
pub record BothIn (w : World) (range : Range) : Type 0 where
  pub one : range.start.node ≡ range.end.node
  pub kind : kind_passes is_character_data w.forest range.start.node ≡ true

pub both-in : (w : World) (range : Range) → is_in_one_data w range ≡ true → BothIn w range
both-in w range h =
    elim (same_or range.start.node range.end.node) [
      | same d t ↦ record { one = d; kind = rw t at h }
      | apart ne t ↦ absurd (false≢true (rw t at h))
    ]

start-stays : (n o c : ℕ) (p : Point) → p.offset ≡ o → after_splice n o c 0 p ≡ p
start-stays n o c p e = grind (arith, nat_tests)

end-moves : (n o c : ℕ) (p : Point) → p.node ≡ n → o ≤ p.offset → p.offset ≤ o + c → after_splice n o c 0 p ≡ point n o
end-moves n o c p d l g = grind (arith, nat_tests)

module _ (w : World) (r root : ℕ) (range : Range) (sound : IsSound w) (h : range_at w r ≡ Some range) (rooted : root_of w.forest range.start.node ≡ Some root) (both : BothIn w range) where
  is_range : IsRange w.forest range
  is_range = sound-range w r range sound h

  ends : EndsAhead w range root
  ends = ends_ahead w sound range is_range root rooted

  there : 0 < opened range.start.node (root_text w.forest root)
  there = let e = opened-tree w sound range is_range root rooted ends range.start.node in let k = ends.tree.within range.start.node rooted in omega arith

  there_data : DataThere w.forest root range.start.node (data_of w range.start.node)
  there_data = data-there w root range.start.node sound.forest.once (kinds-childless _ w.forest sound.forest.kinds) (occurs-HasNode w.forest range.start.node is_range.starts.there) both.kind there

  long : node_length unit_count w.forest range.start.node ≡ length (data_of w range.start.node)
  long = data-long w range.start.node both.kind

  pub start-fits : range.start.offset ≤ length (data_of w range.start.node)
  start-fits = let l = is_range.starts.within in let k = long in omega arith

  pub end-fits : range.end.offset ≤ length (data_of w range.start.node)
  end-fits =
      let l : range.end.offset ≤ node_length unit_count w.forest range.start.node = subst (λ m. range.end.offset ≤ node_length unit_count w.forest m) (sym both.one) is_range.ends.within in
      omega (arith, long)

  free : opened range.start.node there_data.ahead ≡ 0
  free = unopened-ahead w sound range is_range root rooted ends there_data.ahead range.start.node (unit_tokens no_marks range.start.node 0 (data_of w range.start.node) ++ (Close ∷ there_data.behind)) there_data.now

  parts : Parts w r root range
  parts = parts-by_gaps w r root range sound h rooted

  a-is : parts.a ≡ length there_data.ahead + suc range.start.offset
  a-is = end-in w sound range is_range root rooted ends range.start parts.a there_data.ahead range.start.node there_data.behind there_data.now free refl start-fits parts.starts

  b-is : parts.b ≡ length there_data.ahead + suc range.end.offset
  b-is = end-in w sound range is_range root rooted ends range.end parts.b there_data.ahead range.start.node there_data.behind there_data.now free (sym both.one) end-fits parts.ends

  pub in_order : range.start.offset ≤ range.end.offset
  in_order = let a = a-is in let b = b-is in let l = parts.le in omega arith

  abbrev next : World
  next = replace_data range.start.node range.start.offset (range.end.offset - range.start.offset) [] w

  count-is : cut_count (length (data_of w range.start.node)) range.start.offset (range.end.offset - range.start.offset) ≡ range.end.offset - range.start.offset
  count-is = let o = in_order in let e = end-fits in grind (arith, nat_tests)

  next-range : range_at next r ≡ Some (record { start = range.start; end = point range.start.node range.start.offset })
  next-range =
      let k = count-is in
      let i = in_order in
      moved-at (after_splice range.start.node range.start.offset (cut_count (length (data_of w range.start.node)) range.start.offset (range.end.offset - range.start.offset)) 0) w.ranges r
      ∙ ap (λ (x : Option Range). option_map (moved_range (after_splice range.start.node range.start.offset (cut_count (length (data_of w range.start.node)) range.start.offset (range.end.offset - range.start.offset)) 0)) x) h
      ∙ ap (λ p. Some (record { start = p; end = after_splice range.start.node range.start.offset (cut_count (length (data_of w range.start.node)) range.start.offset (range.end.offset - range.start.offset)) 0 range.end })) (start-stays range.start.node range.start.offset (cut_count (length (data_of w range.start.node)) range.start.offset (range.end.offset - range.start.offset)) range.start refl)
      ∙ ap (λ p. Some (record { start = range.start; end = p })) (end-moves range.start.node range.start.offset (cut_count (length (data_of w range.start.node)) range.start.offset (range.end.offset - range.start.offset)) range.end (sym both.one) i (omega arith))

  next-root : root_of next.forest range.start.node ≡ Some root
  next-root =
      root-alike (with_node-alike (with_data (spliced range.start.offset (cut_count (length (data_of w range.start.node)) range.start.offset (range.end.offset - range.start.offset)) [] (data_of w range.start.node))) (λ x. refl) range.start.node w.forest) range.start.node ∙ rooted

  next-sound : IsSound next
  next-sound = sound-replace_data range.start.node range.start.offset (range.end.offset - range.start.offset) [] w sound both.kind start-fits

  -- the three parts of the text
  abbrev front : List Token
  front = there_data.ahead ++ (Open range.start.node ∷ unit_tokens no_marks range.start.node 0 (take range.start.offset (data_of w range.start.node)))

  abbrev middle : List Token
  middle = unit_tokens no_marks range.start.node 0 (take (range.end.offset - range.start.offset) (drop range.start.offset (data_of w range.start.node)))

  abbrev back : List Token
  back = unit_tokens no_marks range.start.node 0 (drop (range.start.offset + (range.end.offset - range.start.offset)) (data_of w range.start.node)) ++ (Close ∷ there_data.behind)

  abbrev kept : List ℕ
  kept = take range.start.offset (data_of w range.start.node) ++ drop (range.start.offset + (range.end.offset - range.start.offset)) (data_of w range.start.node)

  text-now : root_text w.forest root ≡ front ++ (middle ++ back)
  text-now = there_data.now ∙ cut-text there_data.ahead there_data.behind range.start.node range.start.offset (range.end.offset - range.start.offset) (data_of w range.start.node)

  text-changed : root_text next.forest root ≡ there_data.ahead ++ (Open range.start.node ∷ (unit_tokens no_marks range.start.node 0 kept ++ (Close ∷ there_data.behind)))
  text-changed =
      there_data.changed (spliced range.start.offset (cut_count (length (data_of w range.start.node)) range.start.offset (range.end.offset - range.start.offset)) [] (data_of w range.start.node))
      ∙ ap (λ c. there_data.ahead ++ (Open range.start.node ∷ (unit_tokens no_marks range.start.node 0 (spliced range.start.offset c [] (data_of w range.start.node)) ++ (Close ∷ there_data.behind)))) count-is
      ∙ ap (λ us. there_data.ahead ++ (Open range.start.node ∷ (unit_tokens no_marks range.start.node 0 (us ++ drop (range.start.offset + (range.end.offset - range.start.offset)) (data_of w range.start.node)) ++ (Close ∷ there_data.behind)))) (append-nil (take range.start.offset (data_of w range.start.node)))

  text-next : root_text next.forest root ≡ front ++ back
  text-next = text-changed ∙ left-text there_data.ahead there_data.behind range.start.node range.start.offset (range.end.offset - range.start.offset) (data_of w range.start.node)

  front-long : length front ≡ length there_data.ahead + suc range.start.offset
  front-long =
      let x = length-append there_data.ahead (Open range.start.node ∷ unit_tokens no_marks range.start.node 0 (take range.start.offset (data_of w range.start.node))) in
      let y = units-long range.start.node 0 (take range.start.offset (data_of w range.start.node)) in
      omega (arith, length-take-le range.start.offset (data_of w range.start.node) start-fits)

  middle-long : length middle ≡ range.end.offset - range.start.offset
  middle-long =
      let d = length-drop range.start.offset (data_of w range.start.node) in
      let z = length-take-le (range.end.offset - range.start.offset) (drop range.start.offset (data_of w range.start.node)) (omega (arith, end-fits)) in
      omega (arith, units-long range.start.node 0 (take (range.end.offset - range.start.offset) (drop range.start.offset (data_of w range.start.node))))

  inner : take (parts.b - parts.a) (drop parts.a (root_text w.forest root)) ≡ middle
  inner = middle-of front middle back (root_text w.forest root) parts.a parts.b text-now (a-is ∙ sym front-long) (omega (arith, b-is, in_order, front-long, middle-long))

  -- between the markers are the units between the offsets
  pub between-within : between r (text_among root (texts_of w)) ≡ unit_tokens no_marks range.start.node 0 (take (range.end.offset - range.start.offset) (drop range.start.offset (data_of w range.start.node)))
  between-within = parts.inside ∙ inner

  -- ahead of them the node's open, and units
  pub before-within : (ahead : List Token) × (us : List ℕ) × (unmarked (before_mark r true (text_among root (texts_of w))) ≡ ahead ++ (Open range.start.node ∷ unit_tokens no_marks range.start.node 0 us))
  before-within =
      let x : parts.a ≡ length front = a-is ∙ sym front-long in (
        there_data.ahead,
        take range.start.offset (data_of w range.start.node),
        parts.before ∙ ap (λ k. take k (root_text w.forest root)) x ∙ ap (take (length front)) text-now ∙ take-front front (middle ++ back),
      )

  pub within-left : IsLeft r root w next
  within-left =
      let m = matches-units range.start.node 0 (take (range.end.offset - range.start.offset) (drop range.start.offset (data_of w range.start.node))) in
      let z : parts.b ≡ length (front ++ middle) = omega (arith, a-is, b-is, in_order, middle-long, front-long, length-append front middle) in
      let closes : closes_left 0 middle ≡ [] = ap (closes_left 0) (sym (append-nil middle)) ∙ m.closes 0 [] in
      let opens : opens_left [] middle ++ drop parts.b (root_text w.forest root) ≡ drop parts.b (root_text w.forest root) =
      ap (λ ts. ts ++ drop parts.b (root_text w.forest root)) (ap (opens_left []) (sym (append-nil middle)) ∙ m.opens [] [])
      in
      let front_is : front_left w r root range parts ≡ front = cc (inner, append-nil (take parts.a (root_text w.forest root)), a-is, front-long, text-now, take-front front (middle ++ back)) in
      let back_is : back_left w r root range parts ≡ back = cc (inner, text-now, append_assoc front middle back, drop-front (front ++ middle) back) in
      let l : range.start.offset ≤ length kept = omega (arith, length-take-le range.start.offset (data_of w range.start.node) start-fits, length-append (take range.start.offset (data_of w range.start.node)) (drop (range.start.offset + (range.end.offset - range.start.offset)) (data_of w range.start.node))) in
      left-by_text w next r root range range.start parts next-sound next-range next-root
      (text-next ∙ ap (λ ts. ts ++ back) (sym front_is) ∙ ap (λ ts. front_left w r root range parts ++ ts) (sym back_is))
      (ap (tokens_ahead range.start []) text-changed ∙ leaf-gap there_data.ahead range.start.node kept there_data.behind free range.start.offset l
      ∙ ap (λ k. Some k) (sym front-long) ∙ ap (λ (ts : List Token). Some (length ts)) (sym front_is))

-- delete contents, where both ends stand in one node with data
pub deleted-within : (w : World) (r root : ℕ) (range : Range) → IsSound w → range_at w r ≡ Some range → root_of w.forest range.start.node ≡ Some root → is_collapsed range ≡ false → is_in_one_data w range ≡ true → IsLeft r root w (delete_contents r w)
deleted-within w r root range sound h rooted apart_ends one =
    let gives : delete_contents r w ≡ replace_data range.start.node range.start.offset (range.end.offset - range.start.offset) [] w =
    ap (λ (o : Option Range). for_range o w (λ x. deleted r x w)) h ∙ (rw (apart_ends, one) refl)
    in
    subst (IsLeft r root w) (sym gives) (within-left w r root range sound h rooted (both-in w range one))
