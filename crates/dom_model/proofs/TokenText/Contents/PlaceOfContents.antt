-- Where the contents of a live range stood: the place that both its ends get, and the gap of that place in the text that is left.
-- DOM Standard, "Interface Range": delete the contents, extract.
use Rattle.std.proofs.Common.{◌≡◌, ℕ, suc, ◌+◌, ◌<◌, true, List, [], ◌∷◌, ◌++◌, length, Some, None, unwrap_or, option_map, option_and_then, refl, ap, sym, ◌∙◌, subst, arith, append_assoc, append-nil, length-append}
use Rattle.std.proofs.lemmas.{List.length-take-le, Bool.Decides.nat_tests}
use Rattle.dom_model.specs.Definitions.{hits, among, place_in, up_to, Forest, empty, node, occurs, tops, entry_in, children_of, index_of, ancestors, root_of, Content, Range, World, IsSound, IsRange, point_after, common_of, new_place, Token, Open, Close, point, is_open, no_marks, token_texts, text_among, root_text, tokens_ahead, IsWay}
use Rattle.dom_model.proofs.PlainLists.{Numbers.same_or, Numbers.same, Numbers.apart, Places.place-there}
use Rattle.dom_model.proofs.Forests.{Climbing.hits-among, Entries.occurs-HasNode, Entries.Lies-entry_in, Indices.child-listed, Indices.index-child, WaysMeeting.above-apart, WaysMeeting.depth-child}
use Rattle.dom_model.proofs.RangesAndContents.{WaysBelow.last-hits, WaysBelow.way-above, NewPlaces.meeting, ContainedChildren.up_to-place}
use Rattle.dom_model.proofs.Soundness.SoundWorlds.{child_there}
use Rattle.dom_model.proofs.TokenText.{Pieces.TokenLists.opened, Pieces.TokenLists.tally-append, Pieces.TextCounts.opened-own, Marked.MarkedFirst.kinds-childless, Contents.TextTold.no_mark, Contents.TextsOfRoots.tree_of_root, Contents.WholePieces.whole-append, Contents.WholePieces.gap-behind, Contents.PathTokens.nodes_tokens, Contents.PathTokens.head_tokens, Contents.PathTokens.start_path, Contents.PathShapes.closes_of, Contents.PathShapes.up_to-there, Contents.PathShapes.whole-listed, Contents.PathShapes.whole-closed, Contents.BetweenParts.fork_of, Contents.BetweenParts.start-there, Contents.BetweenParts.head-gap, Contents.BetweenParts.once-ahead, Contents.BetweenParts.unopened}

-- A node that the text of a root opens is of that root.

text-listed : (root : ℕ) (f : Forest Content) → 0 < length (text_among root (token_texts no_marks f)) → 0 < hits root (tops f)
text-listed root empty h = absurd (omega arith)
text-listed root (node x kids rest) h = grind (arith, nat_tests, text-listed root rest)

pub opened-some : (n : ℕ) (ts : List Token) → 0 < opened n ts → 0 < length ts
opened-some n [] h = absurd (omega arith)
opened-some n (t ∷ ts) h = omega arith

pub opened-root : (v : World) (root n : ℕ) → IsSound v → 0 < opened n (root_text v.forest root) → root_of v.forest n ≡ Some root
opened-root v root n s h =
    let t = tree_of_root (entry_in v.forest) root v.forest s.forest.once (Lies-entry_in v.forest s.forest.once) (kinds-childless None v.forest s.forest.kinds) (text-listed root v.forest (opened-some n (root_text v.forest root) h)) in
    let e = ap (opened n) t.text ∙ opened-own no_marks no_mark n t.top t.kids (t.alone, t.less, tt) in
    t.inside n (omega arith)

-- the root's text begins with the root's open
first-opened : (root : ℕ) (f : Forest Content) (t : Token) (ts : List Token) → text_among root (token_texts no_marks f) ≡ t ∷ ts → is_open root t ≡ true
first-opened root empty t ts h = absurd (cc h)
first-opened root (node x kids rest) t ts h = grind (arith, nat_tests, first-opened root rest t ts)

pub root-opened : (root : ℕ) (f : Forest Content) (xs ys : List Token) → text_among root (token_texts no_marks f) ≡ xs ++ ys → 0 < length xs → 0 < opened root xs
root-opened root f [] ys e l = absurd (omega arith)
root-opened root f (x ∷ xs) ys e l = let t = first-opened root f x (xs ++ ys) e in rw t (omega arith)

pub closes-open_none : (n : ℕ) (path : List ℕ) → opened n (closes_of path) ≡ 0
closes-open_none n [] = refl
closes-open_none n (m ∷ path) = tally-append (is_open n) (closes_of path) (Close ∷ []) ∙ (let i = closes-open_none n path in omega arith)

pub last-on : (f : Forest Content) (m : ℕ) (path : List ℕ) (n : ℕ) → IsWay f m path n → 0 < hits n (m ∷ path)
last-on f m [] n way = elim (same_or m n) [ same d t ↦ rw t (omega arith) | apart ne t ↦ absurd (ne way) ]
last-on f m (c ∷ path) n way = let i = last-on f c path n way.2 in omega arith

up_to-long : (c : ℕ) (ns : List ℕ) → 0 < hits c ns → length (up_to c ns) ≡ place_in c ns
up_to-long c ns h = let l = place-there c ns h in sym (ap (λ ms. length ms) (up_to-place c ns h)) ∙ length-take-le (place_in c ns) ns (omega arith)

module _ (w : World) (sound : IsSound w) (range : Range) (is_range : IsRange w.forest range) (root : ℕ) (rooted : root_of w.forest range.start.node ≡ Some root) where
  pub end-there : 0 < occurs range.end.node w.forest
  end-there = occurs-HasNode w.forest range.end.node is_range.ends.there

  -- a start in the common ancestor stays
  pub place-start : start_path w range ≡ [] → new_place w.forest range ≡ range.start
  place-start e =
      let fork = fork_of w sound range is_range root rooted in
      let at : common_of w range ≡ range.start.node = subst (λ path. IsWay w.forest (common_of w range) path range.start.node) e fork.first in
      let above : 0 < hits (common_of w range) (ancestors range.end.node w.forest) = way-above w.forest sound.forest.once (common_of w range) _ range.end.node fork.there end-there fork.second in
      let on : among range.start.node (ancestors range.end.node w.forest) ≡ true = subst (λ m. among m (ancestors range.end.node w.forest) ≡ true) at (hits-among (common_of w range) (ancestors range.end.node w.forest) above) in
      rw on refl

  -- another gives way to the place behind the first of its path
  pub place-behind : (c : ℕ) (path : List ℕ) → start_path w range ≡ c ∷ path → new_place w.forest range ≡ point (common_of w range) (index_of w.forest c + 1)
  place-behind c path e =
      let fork = fork_of w sound range is_range root rooted in
      let hs = start-there w sound range is_range root rooted in
      let way = subst (λ p. IsWay w.forest (common_of w range) p range.start.node) e fork.first in
      let on_path : 0 < hits range.start.node (start_path w range) = subst (λ p. 0 < hits range.start.node p) (sym e) (last-on w.forest c path range.start.node way.2) in
      let out = fork.off range.start.node on_path in
      let root_there = hits-among root (ancestors range.end.node w.forest) (last-hits root (ancestors range.end.node w.forest) (sym is_range.one_root ∙ rooted)) in
      let m = meeting w.forest sound.forest.once (ancestors range.end.node w.forest) root range.start.node hs rooted root_there out in
      let same_top : common_of w range ≡ m.above = ap (λ o. unwrap_or o range.start.node) m.deepest in
      let hq = child_there w.forest m.nearest m.above m.parent in
      let depth : length (ancestors c w.forest) ≡ length (ancestors m.nearest w.forest) =
      depth-child w.forest sound.forest.once c (common_of w range) way.0 way.1
      ∙ ap (λ a. suc (length (ancestors a w.forest))) same_top
      ∙ sym (depth-child w.forest sound.forest.once m.nearest m.above hq m.parent)
      in
      let one : c ≡ m.nearest = above-apart w.forest sound.forest.once c m.nearest range.start.node hs way.0 hq (way-above w.forest sound.forest.once c path range.start.node way.0 hs way.2) m.on_path depth in
      let found : new_place w.forest range ≡ point m.above (index_of w.forest m.nearest + 1) =
      rw out
      (ap (λ o. unwrap_or (option_and_then (point_after w.forest) o) range.start) m.found
      ∙ ap (λ o. unwrap_or (option_map (λ parent. record { node = parent; offset = index_of w.forest m.nearest + 1 }) o) range.start) m.parent)
      in
      found ∙ ap (λ a. point a (index_of w.forest m.nearest + 1)) (sym same_top) ∙ ap (λ q. point (common_of w range) (index_of w.forest q + 1)) (sym one)

  -- and its gap stands behind the closes that are left
  pub place-gap : (ahead behind rest : List Token) → root_text w.forest root ≡ (ahead ++ head_tokens w range.start.offset (common_of w range ∷ start_path w range)) ++ behind → 0 < length rest → (n : ℕ) × (o : ℕ) × (new_place w.forest range ≡ point n o) × (n ≡ common_of w range) × (tokens_ahead (point n o) [] (((ahead ++ head_tokens w range.start.offset (common_of w range ∷ start_path w range)) ++ closes_of (start_path w range)) ++ rest) ≡ Some (length ((ahead ++ head_tokens w range.start.offset (common_of w range ∷ start_path w range)) ++ closes_of (start_path w range))))
  place-gap ahead behind rest text some = go (start_path w range) refl
    where
      go : (path : List ℕ) → start_path w range ≡ path → (n : ℕ) × (o : ℕ) × (new_place w.forest range ≡ point n o) × (n ≡ common_of w range) × (tokens_ahead (point n o) [] (((ahead ++ head_tokens w range.start.offset (common_of w range ∷ path)) ++ closes_of path) ++ rest) ≡ Some (length ((ahead ++ head_tokens w range.start.offset (common_of w range ∷ path)) ++ closes_of path)))
      go [] e =
          let fork = fork_of w sound range is_range root rooted in
          let way = subst (λ p. IsWay w.forest (common_of w range) p range.start.node) e fork.first in
          let hs = ahead ++ head_tokens w range.start.offset (common_of w range ∷ []) in
          let whole : root_text w.forest root ≡ hs ++ behind = text ∙ ap (λ p. (ahead ++ head_tokens w range.start.offset (common_of w range ∷ p)) ++ behind) e in
          let gap = head-gap w sound range is_range root rooted range.start [] is_range.starts way ahead rest some (once-ahead w sound range is_range root rooted range.start.node hs behind whole) in (
            range.start.node,
            range.start.offset,
            place-start e,
            sym way,
            ap (λ ts. tokens_ahead range.start [] (ts ++ rest)) (append-nil hs) ∙ gap ∙ ap (λ (ts : List Token). Some (length ts)) (sym (append-nil hs)),
          )
      go (c ∷ path) e =
          let fork = fork_of w sound range is_range root rooted in
          let way = subst (λ p. IsWay w.forest (common_of w range) p range.start.node) e fork.first in
          let a = common_of w range in
          let ns = up_to c (children_of w.forest (common_of w range)) in
          let us = nodes_tokens w.forest (up_to c (children_of w.forest (common_of w range))) in
          let hs = head_tokens w range.start.offset (c ∷ path) in
          let cs = closes_of (c ∷ path) in
          let listed = child-listed w.forest sound.forest.once c (common_of w range) way.0 way.1 in
          let k : length ns + 1 ≡ index_of w.forest c + 1 = ap (λ j. j + 1) (up_to-long c (children_of w.forest (common_of w range)) listed ∙ sym (index-child w.forest c (common_of w range) way.1)) in
          let whole = whole-append (length ns) 1 us (hs ++ cs) (whole-listed w sound ns (up_to-there w sound (common_of w range) c)) (whole-closed w sound range.start.offset c path range.start.node way.2) in
          let full : root_text w.forest root ≡ (ahead ++ (Open a ∷ (us ++ hs))) ++ behind = text ∙ ap (λ p. (ahead ++ head_tokens w range.start.offset (common_of w range ∷ p)) ++ behind) e in
          let free = unopened w sound range is_range root rooted a ahead (us ++ hs) (once-ahead w sound range is_range root rooted a (ahead ++ (Open a ∷ (us ++ hs))) behind full) in
          let inner : opened a (us ++ (hs ++ cs)) ≡ 0 = ap (opened a) (sym (append_assoc us hs cs)) ∙ tally-append (is_open a) (us ++ hs) cs ∙ (let i = free.1 in let j = closes-open_none a (c ∷ path) in omega arith) in
          let gap = gap-behind ahead a (length ns + 1) (us ++ (hs ++ cs)) rest whole some free.0 inner in
          let regrouped : (ahead ++ (Open a ∷ (us ++ hs))) ++ cs ≡ ahead ++ (Open a ∷ (us ++ (hs ++ cs))) = simp append_assoc in
          let long : length ahead + suc (length (us ++ (hs ++ cs))) ≡ length ((ahead ++ (Open a ∷ (us ++ hs))) ++ cs) = sym (length-append ahead (Open a ∷ (us ++ (hs ++ cs)))) ∙ ap (λ (ts : List Token). length ts) (sym regrouped) in (
            common_of w range,
            index_of w.forest c + 1,
            place-behind c path e,
            refl,
            ap (tokens_ahead (point a (index_of w.forest c + 1)) []) (ap (λ ts. ts ++ rest) regrouped ∙ append_assoc ahead (Open a ∷ (us ++ (hs ++ cs))) rest)
                ∙ ap (λ j. tokens_ahead (point a j) [] (ahead ++ (Open a ∷ ((us ++ (hs ++ cs)) ++ rest)))) (sym k)
                ∙ gap
                ∙ ap (λ j. Some j) long,
          )
