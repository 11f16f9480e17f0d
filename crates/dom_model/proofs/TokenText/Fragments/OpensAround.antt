-- The opens that wait for their closes ahead of the start marker of a live range: the innermost are those of the path down to the start.
use Rattle.std.proofs.Common.{◌≡◌, ℕ, ◌-◌, ◌<◌, ◌≤◌, true, false, List, [], ◌∷◌, ◌++◌, drop, take, length, reverse, Some, refl, ap, sym, ◌∙◌, arith, append_assoc, append-nil, length-append}
use Rattle.std.proofs.lemmas.List.{reverse-append}
use Rattle.dom_model.specs.Definitions.{hits, up_to, children_of, root_of, Range, World, IsSound, IsRange, range_at, is_in_one_data, common_of, Token, Open, Close, OneUnit, Mark, no_marks, unit_tokens, unmarked, texts_of, is_open, has_open, text_among, root_text, before_mark, opens_left, opened_in, innermost, IsWay}
use Rattle.dom_model.proofs.TokenText.{Pieces.TokenLists.opened, Pieces.TokenLists.tally-append, Contents.DeletedUnits.take-front, Contents.DeletedUnits.drop-front, Contents.MatchedPieces.matches-units, Contents.MatchedPieces.opens-open, Contents.PathTokens.nodes_tokens, Contents.PathTokens.head_tokens, Contents.PathTokens.tail_tokens, Contents.PathTokens.start_path, Contents.PathTokens.end_path, Contents.PathTokens.parts_tokens, Contents.PathShapes.opens_of, Contents.PathShapes.up_to-there, Contents.PathShapes.whole-listed, Contents.PathShapes.opens-head, Contents.BetweenParts.IsParted, Contents.BetweenParts.text-by_parts, Contents.BetweenParts.once-ahead, Fragments.MatchedParts.opens-long, Fragments.NodesAside.forked}

-- the opens that wait past tokens
waiting : (above xs : List Token) → (st : List Token) × ((us : List Token) → opens_left above (xs ++ us) ≡ opens_left st us)
waiting above [] = (above, λ us. refl)
waiting [] (Open n ∷ xs) = waiting (Open n ∷ []) xs
waiting (o ∷ above) (Open n ∷ xs) = waiting (Open n ∷ o ∷ above) xs
waiting [] (Close ∷ xs) = waiting [] xs
waiting (o ∷ above) (Close ∷ xs) = waiting above xs
waiting [] (OneUnit u ∷ xs) = waiting [] xs
waiting (o ∷ above) (OneUnit u ∷ xs) = waiting (o ∷ above) xs
waiting [] (Mark r side ∷ xs) = waiting [] xs
waiting (o ∷ above) (Mark r side ∷ xs) = waiting (o ∷ above) xs

pub innermost-last : (count : ℕ) (xs ys : List Token) → length ys ≡ count → innermost count (xs ++ ys) ≡ ys
innermost-last count xs ys e =
    let l : length (xs ++ ys) - count ≡ length xs = (let i = length-append xs ys in omega arith) in
    ap (λ k. drop k (xs ++ ys)) l ∙ drop-front xs ys

pub innermost-none : (xs : List Token) → innermost 0 xs ≡ []
innermost-none xs = ap (innermost 0) (sym (append-nil xs)) ∙ innermost-last 0 xs [] refl

-- how often tokens open a node
pub hits-opened : (n : ℕ) (ts : List Token) → hits n (opened_in ts) ≡ opened n ts
hits-opened n [] = refl
hits-opened n (t ∷ ts) = grind (arith, hits-opened n ts)

pub opened_in-path : (path : List ℕ) → opened_in (opens_of path) ≡ path
opened_in-path [] = refl
opened_in-path (n ∷ path) = ap (λ ns. n ∷ ns) (opened_in-path path)

pub has_open-some : (n : ℕ) (ts : List Token) → 0 < opened n ts → has_open n ts ≡ true
has_open-some n [] h = absurd (omega arith)
has_open-some n (t ∷ ts) h = grind (arith, has_open-some n ts)

-- units in a node: that node waits last
pub units-wait : (ahead : List Token) (n : ℕ) (us : List ℕ) → innermost 1 (opens_left [] (ahead ++ (Open n ∷ unit_tokens no_marks n 0 us))) ≡ Open n ∷ []
units-wait ahead n us =
    let st = waiting [] ahead in
    let m = matches-units n 0 us in
    let e : opens_left [] (ahead ++ (Open n ∷ unit_tokens no_marks n 0 us)) ≡ reverse (Open n ∷ st.0) =
    st.1 (Open n ∷ unit_tokens no_marks n 0 us)
    ∙ opens-open n st.0 (unit_tokens no_marks n 0 us)
    ∙ ap (opens_left (Open n ∷ st.0)) (sym (append-nil (unit_tokens no_marks n 0 us)))
    ∙ m.opens (Open n ∷ st.0) []
    in
    ap (innermost 1) (e ∙ spelt st.0) ∙ innermost-last 1 (reverse st.0) (Open n ∷ []) refl
  where
    spelt : (st : List Token) → reverse (Open n ∷ st) ≡ reverse st ++ (Open n ∷ [])
    spelt st = reverse-append (Open n ∷ []) st

-- the nodes of a path down to an end are opened ahead of it
head-opens : (w : World) (offset n : ℕ) (path : List ℕ) → hits n path ≤ opened n (head_tokens w offset path)
head-opens w offset n [] = omega arith
head-opens w offset n (m ∷ []) = omega arith
head-opens w offset n (m ∷ l ∷ path) =
    let i = head-opens w offset n (l ∷ path) in
    let j = tally-append (is_open n) (nodes_tokens w.forest (up_to l (children_of w.forest m))) (head_tokens w offset (l ∷ path)) in
    omega arith

module _ (w : World) (sound : IsSound w) (range : Range) (is_range : IsRange w.forest range) (r root : ℕ) (h : range_at w r ≡ Some range) (rooted : root_of w.forest range.start.node ≡ Some root) (two : is_in_one_data w range ≡ false) where
  parted : IsParted w r root range
  parted = text-by_parts w r root range sound h rooted two

  abbrev down : List Token
  down = head_tokens w range.start.offset (common_of w range ∷ start_path w range)

  abbrev behind : List Token
  behind = tail_tokens w range.end.offset (common_of w range ∷ end_path w range) ++ parted.behind

  ahead-is : unmarked (before_mark r true (text_among root (texts_of w))) ≡ parted.ahead ++ down
  ahead-is =
      parted.parts.before
      ∙ ap (λ k. take k (root_text w.forest root)) parted.starts
      ∙ ap (take (length (parted.ahead ++ down))) parted.text
      ∙ take-front (parted.ahead ++ down) (parts_tokens w range ++ behind)

  pub path-waits : innermost (length (start_path w range)) (opens_left [] (unmarked (before_mark r true (text_among root (texts_of w))))) ≡ opens_of (start_path w range)
  path-waits = ap (λ ts. innermost (length (start_path w range)) (opens_left [] ts)) ahead-is ∙ go (start_path w range) (forked w sound range is_range).first
    where
      go : (path : List ℕ) → IsWay w.forest (common_of w range) path range.start.node → innermost (length path) (opens_left [] (parted.ahead ++ head_tokens w range.start.offset (common_of w range ∷ path))) ≡ opens_of path
      go [] way = innermost-none (opens_left [] (parted.ahead ++ head_tokens w range.start.offset (common_of w range ∷ [])))
      go (c ∷ path) way =
          let st = waiting [] parted.ahead in
          let ns = up_to c (children_of w.forest (common_of w range)) in
          let hs = head_tokens w range.start.offset (c ∷ path) in
          let x = whole-listed w sound ns (λ m k. up_to-there w sound (common_of w range) c m k) in
          let e : opens_left [] (parted.ahead ++ head_tokens w range.start.offset (common_of w range ∷ c ∷ path)) ≡ reverse (Open (common_of w range) ∷ st.0) ++ opens_of (c ∷ path) =
          st.1 (Open (common_of w range) ∷ (nodes_tokens w.forest ns ++ hs))
          ∙ opens-open (common_of w range) st.0 (nodes_tokens w.forest ns ++ hs)
          ∙ x.matches.opens (Open (common_of w range) ∷ st.0) hs
          ∙ opens-head w sound range.start.offset (common_of w range) (c ∷ path) range.start.node (Open (common_of w range) ∷ st.0) way
          in
          ap (innermost (length (c ∷ path))) e ∙ innermost-last (length (c ∷ path)) (reverse (Open (common_of w range) ∷ st.0)) (opens_of (c ∷ path)) (opens-long (c ∷ path))

  -- a node that is open around the start is not opened behind it
  pub path-not_inside : (n : ℕ) → 0 < hits n (common_of w range ∷ start_path w range) → opened n (parts_tokens w range) ≡ 0
  path-not_inside n k =
      let once = once-ahead w sound range is_range root rooted n ((parted.ahead ++ down) ++ parts_tokens w range) behind (parted.text ∙ sym (append_assoc (parted.ahead ++ down) (parts_tokens w range) behind)) in
      let a = tally-append (is_open n) (parted.ahead ++ down) (parts_tokens w range) in
      let b = tally-append (is_open n) parted.ahead down in
      let c = head-opens w range.start.offset n (common_of w range ∷ start_path w range) in
      omega arith
