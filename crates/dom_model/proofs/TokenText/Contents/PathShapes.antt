-- The tokens along the path down to an end of a live range: they make up the first node's own tokens, and what deleting leaves of them.
use Rattle.std.proofs.Common.{◌≡◌, ℕ, suc, ◌+◌, ◌<◌, false, if◌then◌else◌, List, [], ◌∷◌, ◌++◌, length, take, drop, reverse, Some, None, refl, ap, sym, ◌∙◌, subst, arith, append_assoc, append-nil, inl, inr}
use Rattle.std.proofs.lemmas.{List.take-append-drop, List.reverse-append, Bool.cond_both, Bool.cases_Bool, Bool.false_from_ne_true}
use Rattle.dom_model.specs.Definitions.{hits, past, up_to, is_character_data, occurs, parent_of, children_of, World, IsSound, kind_passes, data_of, Token, Open, Close, no_marks, unit_tokens, token_texts, tokens_among, closes_left, opens_left, IsWay, Childless, tail_nodes, head_nodes}
use Rattle.dom_model.proofs.Forests.{Climbing.hits-first, Indices.child-listed, Indices.child-there}
use Rattle.dom_model.proofs.BoundaryPoints.RootsKept.{hits-up_to}
use Rattle.dom_model.proofs.Traversal.IteratorsStay.{hits-past}
use Rattle.dom_model.proofs.RangesAndContents.{DrawnPaths.hits-drop, DrawnPaths.hits-take, ContainedChildren.around-one}
use Rattle.dom_model.proofs.Soundness.SoundForests.{data-childless}
use Rattle.dom_model.proofs.TokenText.{AlikeTrees.TreesAlike.top_of, Pieces.TextParts.inside, Pieces.TextPieces.Closes-inside, Marked.MarkedFirst.kinds-childless, Contents.TextTold.no_mark, Contents.DeletedUnits.units-append, Contents.MatchedPieces.Matches, Contents.MatchedPieces.matches-units, Contents.MatchedPieces.closes-open, Contents.MatchedPieces.opens-open, Contents.WholePieces.Whole, Contents.WholePieces.whole-append, Contents.WholePieces.whole-node, Contents.WholePieces.whole-units, Contents.WholePieces.whole-nodes, Contents.WholePieces.nodes-append, Contents.WholePieces.inner_of, Contents.WholePieces.tokens-own, Contents.WholePieces.tokens-shape, Contents.NodesOut.AllGone, Contents.NodesOut.all_gone-within, Contents.NodesOut.all_gone-then, Contents.PathTokens.nodes_tokens, Contents.PathTokens.tail_tokens, Contents.PathTokens.head_tokens}

-- what stands in a node ahead of an offset, and behind it
abbrev pub front_tokens : World → ℕ → ℕ → List Token
front_tokens w offset n =
    if kind_passes is_character_data w.forest n then unit_tokens no_marks n 0 (take offset (data_of w n)) else nodes_tokens w.forest (take offset (children_of w.forest n))

abbrev pub back_tokens : World → ℕ → ℕ → List Token
back_tokens w offset n =
    if kind_passes is_character_data w.forest n then unit_tokens no_marks n 0 (drop offset (data_of w n)) else nodes_tokens w.forest (drop offset (children_of w.forest n))

-- the units alone, and all but units
abbrev pub front_units : World → ℕ → ℕ → List Token
front_units w offset n = if kind_passes is_character_data w.forest n then unit_tokens no_marks n 0 (take offset (data_of w n)) else []

abbrev pub back_nodes : World → ℕ → ℕ → List Token
back_nodes w offset n = if kind_passes is_character_data w.forest n then [] else nodes_tokens w.forest (drop offset (children_of w.forest n))

-- a close for each node of a path, and an open for each
abbrev pub closes_of : List ℕ → List Token
closes_of [] = []
closes_of (n ∷ path) = closes_of path ++ (Close ∷ [])

abbrev pub opens_of : List ℕ → List Token
opens_of [] = []
opens_of (n ∷ path) = Open n ∷ opens_of path

-- the tokens down to an end that stands in a node, what is ahead of the node's own, and what is left without the nodes beside the path
pub record HeadIs (w : World) (offset n : ℕ) (path : List ℕ) : Type 0 where
  pub pre : List Token
  pub opens : List Token
  pub spelt : head_tokens w offset path ≡ pre ++ (Open n ∷ front_tokens w offset n)
  pub last : opens_of path ≡ opens ++ (Open n ∷ [])
  pub gone : AllGone (head_nodes w offset path) (pre ++ (Open n ∷ front_tokens w offset n)) (opens_of path ++ front_units w offset n)

-- the tokens from there on, what is behind the node's close, and what is left
pub record TailIs (w : World) (offset n : ℕ) (path : List ℕ) : Type 0 where
  pub post : List Token
  pub spelt : tail_tokens w offset path ≡ back_tokens w offset n ++ (Close ∷ post)
  pub gone : AllGone (tail_nodes w offset path) (back_nodes w offset n ++ (Close ∷ post)) (closes_of path)

module _ (w : World) (sound : IsSound w) where
  pub childless : Childless w.forest
  childless = kinds-childless None w.forest sound.forest.kinds

  pub listed-there : (n : ℕ) (m : ℕ) → 0 < hits m (children_of w.forest n) → 0 < occurs m w.forest
  listed-there n m h = child-there w.forest sound.forest.once m n h

  pub dropped-there : (n k m : ℕ) → 0 < hits m (drop k (children_of w.forest n)) → 0 < occurs m w.forest
  dropped-there n k m h = listed-there n m (let a = hits-drop m k (children_of w.forest n) in omega arith)

  pub taken-there : (n k m : ℕ) → 0 < hits m (take k (children_of w.forest n)) → 0 < occurs m w.forest
  taken-there n k m h = listed-there n m (let a = hits-take m k (children_of w.forest n) in omega arith)

  pub past-there : (n c m : ℕ) → 0 < hits m (past c (children_of w.forest n)) → 0 < occurs m w.forest
  past-there n c m h = listed-there n m (let a = hits-past m c (children_of w.forest n) in omega arith)

  pub up_to-there : (n c m : ℕ) → 0 < hits m (up_to c (children_of w.forest n)) → 0 < occurs m w.forest
  up_to-there n c m h = listed-there n m (let a = hits-up_to m c (children_of w.forest n) in omega arith)

  pub whole-listed : (ns : List ℕ) → ((m : ℕ) → 0 < hits m ns → 0 < occurs m w.forest) → Whole (length ns) (nodes_tokens w.forest ns)
  whole-listed ns h = whole-nodes w.forest sound.forest.once childless ns h

  -- what has a child has no data
  pub holder-no_data : (m n : ℕ) → 0 < occurs m w.forest → parent_of w.forest m ≡ Some n → kind_passes is_character_data w.forest n ≡ false
  holder-no_data m n h e =
      false_from_ne_true (kind_passes is_character_data w.forest n) (λ d.
      let k = child-listed w.forest sound.forest.once m n h e in
      let j : hits m (children_of w.forest n) ≡ 0 = ap (hits m) (data-childless sound.forest n d) in
      omega arith)

  -- how many nodes or units stand in a node ahead of an offset
  pub record Front (ts : List Token) : Type 0 where
    pub many : ℕ
    pub whole : Whole many ts

  pub whole-front : (offset n : ℕ) → Front (front_tokens w offset n)
  whole-front offset n =
      cond_both (kind_passes is_character_data w.forest n) _ _ Front
      (λ _. record { many = length (take offset (data_of w n)); whole = whole-units n 0 (take offset (data_of w n)) })
      (λ _. record { many = length (take offset (children_of w.forest n)); whole = whole-listed (take offset (children_of w.forest n)) (taken-there n offset) })

  matches-back : (offset n : ℕ) → Matches (back_tokens w offset n)
  matches-back offset n =
      cond_both (kind_passes is_character_data w.forest n) _ _ Matches (λ _. matches-units n 0 (drop offset (data_of w n)))
      (λ _. (whole-listed (drop offset (children_of w.forest n)) (dropped-there n offset)).matches)

  inner-parted : (offset n : ℕ) → inner_of w.forest sound.forest.once childless n ≡ front_tokens w offset n ++ back_tokens w offset n
  inner-parted offset n =
      elim (cases_Bool (kind_passes is_character_data w.forest n)) [
        | inl k ↦ rw k (ap (unit_tokens no_marks n 0) (sym (take-append-drop offset (data_of w n))) ∙ units-append n (take offset (data_of w n)) (drop offset (data_of w n)))
        | inr k ↦ rw k (ap (nodes_tokens w.forest) (sym (take-append-drop offset (children_of w.forest n))) ∙ nodes-append w.forest (take offset (children_of w.forest n)) (drop offset (children_of w.forest n)))
      ]

  -- A node's own tokens are those ahead of an end inside it, and those from there on.

  pub tokens-parted : (offset m : ℕ) (path : List ℕ) (n : ℕ) → 0 < occurs m w.forest → IsWay w.forest m path n → tokens_among m (token_texts no_marks w.forest) ≡ head_tokens w offset (m ∷ path) ++ tail_tokens w offset (m ∷ path)
  tokens-parted offset m [] n h way =
      tokens-shape w.forest sound.forest.once childless m h
      ∙ ap (λ ts. Open m ∷ (ts ++ (Close ∷ []))) (inner-parted offset m)
      ∙ ap (λ ts. Open m ∷ ts) (append_assoc (front_tokens w offset m) (back_tokens w offset m) (Close ∷ []))
  tokens-parted offset m (c ∷ path) n h below =
      let k = holder-no_data c m below.0 below.1 in
      let shape : inner_of w.forest sound.forest.once childless m ≡ nodes_tokens w.forest (children_of w.forest m) = rw k refl in
      tokens-shape w.forest sound.forest.once childless m h
      ∙ ap (λ ts. Open m ∷ (ts ++ (Close ∷ []))) (shape
      ∙ ap (nodes_tokens w.forest) (around-one c (children_of w.forest m) (child-listed w.forest sound.forest.once c m below.0 below.1))
      ∙ nodes-append w.forest (up_to c (children_of w.forest m)) (c ∷ past c (children_of w.forest m))
      ∙ ap (λ ts. nodes_tokens w.forest (up_to c (children_of w.forest m)) ++ (ts ++ nodes_tokens w.forest (past c (children_of w.forest m)))) (tokens-parted offset c path n below.0 below.2))
      ∙ (simp append_assoc)

  -- What the tokens leave open.

  pub closes-tail : (offset u : ℕ) (path : List ℕ) (n : ℕ) → IsWay w.forest u path n → (us : List Token) → closes_left 0 (tail_tokens w offset path ++ us) ≡ closes_of path ++ closes_left 0 us
  closes-tail offset u [] n way us = refl
  closes-tail offset u (m ∷ []) n way us =
      ap (closes_left 0) (append_assoc (back_tokens w offset m) (Close ∷ []) us) ∙ (matches-back offset m).closes 0 (Close ∷ us)
  closes-tail offset u (m ∷ c ∷ path) n way us =
      let x = whole-listed (past c (children_of w.forest m)) (past-there m c) in
      let ps = nodes_tokens w.forest (past c (children_of w.forest m)) in
      cc (
        append_assoc (tail_tokens w offset (c ∷ path)) (ps ++ (Close ∷ [])) us,
        closes-tail offset m (c ∷ path) n way.2 ((ps ++ (Close ∷ [])) ++ us),
        append_assoc ps (Close ∷ []) us,
        x.matches.closes 0 (Close ∷ us),
        append_assoc (closes_of (c ∷ path)) (Close ∷ []) (closes_left 0 us),
      )

  pub opens-tail : (offset u : ℕ) (path : List ℕ) (n : ℕ) → IsWay w.forest u path n → (us : List Token) → opens_left [] (tail_tokens w offset path ++ us) ≡ opens_left [] us
  opens-tail offset u [] n way us = refl
  opens-tail offset u (m ∷ []) n way us =
      ap (opens_left []) (append_assoc (back_tokens w offset m) (Close ∷ []) us) ∙ (matches-back offset m).opens [] (Close ∷ us)
  opens-tail offset u (m ∷ c ∷ path) n way us =
      let x = whole-listed (past c (children_of w.forest m)) (past-there m c) in
      let ps = nodes_tokens w.forest (past c (children_of w.forest m)) in
      cc (
        append_assoc (tail_tokens w offset (c ∷ path)) (ps ++ (Close ∷ [])) us,
        opens-tail offset m (c ∷ path) n way.2 ((ps ++ (Close ∷ [])) ++ us),
        append_assoc ps (Close ∷ []) us,
        x.matches.opens [] (Close ∷ us),
      )

  no-closes : (depth : ℕ) → closes_left depth [] ≡ []
  no-closes depth = grind arith

  no-opens : (above : List Token) → opens_left above [] ≡ reverse above
  no-opens above = grind arith

  pub closes-head : (offset u : ℕ) (path : List ℕ) (n depth : ℕ) → IsWay w.forest u path n → closes_left depth (head_tokens w offset path) ≡ []
  closes-head offset u [] n depth way = no-closes depth
  closes-head offset u (m ∷ []) n depth way =
      let x = whole-front offset m in
      cc (closes-open m depth (front_tokens w offset m), append-nil (front_tokens w offset m), x.whole.matches.closes (suc depth) [])
  closes-head offset u (m ∷ c ∷ path) n depth way =
      let x = whole-listed (up_to c (children_of w.forest m)) (up_to-there m c) in
      closes-open m depth (nodes_tokens w.forest (up_to c (children_of w.forest m)) ++ head_tokens w offset (c ∷ path))
      ∙ x.matches.closes (suc depth) (head_tokens w offset (c ∷ path))
      ∙ closes-head offset m (c ∷ path) n (suc depth) way.2

  pub opens-head : (offset u : ℕ) (path : List ℕ) (n : ℕ) (above : List Token) → IsWay w.forest u path n → opens_left above (head_tokens w offset path) ≡ reverse above ++ opens_of path
  opens-head offset u [] n above way = no-opens above ∙ sym (append-nil (reverse above))
  opens-head offset u (m ∷ []) n above way =
      let x = whole-front offset m in
      cc (opens-open m above (front_tokens w offset m), append-nil (front_tokens w offset m), x.whole.matches.opens (Open m ∷ above) [], reverse-append (Open m ∷ []) above)
  opens-head offset u (m ∷ c ∷ path) n above way =
      let x = whole-listed (up_to c (children_of w.forest m)) (up_to-there m c) in
      opens-open m above (nodes_tokens w.forest (up_to c (children_of w.forest m)) ++ head_tokens w offset (c ∷ path))
      ∙ x.matches.opens (Open m ∷ above) (head_tokens w offset (c ∷ path))
      ∙ opens-head offset m (c ∷ path) n (Open m ∷ above) way.2
      ∙ ap (λ ts. ts ++ opens_of (c ∷ path)) (reverse-append (Open m ∷ []) above)
      ∙ append_assoc (reverse above) (Open m ∷ []) (opens_of (c ∷ path))

  -- one node, once the closes follow
  pub whole-closed : (offset m : ℕ) (path : List ℕ) (n : ℕ) → IsWay w.forest m path n → Whole 1 (head_tokens w offset (m ∷ path) ++ closes_of (m ∷ path))
  whole-closed offset m [] n way = let x = whole-front offset m in whole-node m x.many (front_tokens w offset m) x.whole
  whole-closed offset m (c ∷ path) n way =
      let us = nodes_tokens w.forest (up_to c (children_of w.forest m)) in
      let hs = head_tokens w offset (c ∷ path) in
      let x = whole-listed (up_to c (children_of w.forest m)) (up_to-there m c) in
      let below = whole-closed offset c path n way.2 in
      subst (Whole 1) (simp append_assoc)
      (whole-node m (length (up_to c (children_of w.forest m)) + 1) (us ++ (hs ++ closes_of (c ∷ path)))
      (whole-append (length (up_to c (children_of w.forest m))) 1 us (hs ++ closes_of (c ∷ path)) x below))

  -- What is left where the nodes beside a path go.

  pub nodes-gone : (ns : List ℕ) → ((m : ℕ) → 0 < hits m ns → 0 < occurs m w.forest) → AllGone ns (nodes_tokens w.forest ns) []
  nodes-gone [] h = refl
  nodes-gone (n ∷ ns) h =
      let t = top_of None n w.forest sound.forest.once (h n (hits-first n ns)) in
      let e : tokens_among n (token_texts no_marks w.forest) ≡ Open n ∷ (inside no_marks t.top t.kids ++ (Close ∷ [])) =
      tokens-own w.forest sound.forest.once childless n t ∙ ap (λ m. Open m ∷ (inside no_marks t.top t.kids ++ (Close ∷ []))) t.named in (
        nodes_tokens w.forest ns,
        record {
          ahead = [];
          inner = inside no_marks t.top t.kids;
          behind = nodes_tokens w.forest ns;
          is = ap (λ ts. ts ++ nodes_tokens w.forest ns) e ∙ ap (λ ts. Open n ∷ ts) (append_assoc (inside no_marks t.top t.kids) (Close ∷ []) (nodes_tokens w.forest ns));
          closes = Closes-inside no_marks no_mark t.top t.kids;
          rest = refl;
        },
        nodes-gone ns (λ m k. h m (omega arith)),
      )

  pub tail_is : (offset m : ℕ) (path : List ℕ) (n : ℕ) → IsWay w.forest m path n → TailIs w offset n (m ∷ path)
  tail_is offset m [] n way =
      subst (λ x. TailIs w offset x (m ∷ [])) way record {
        post = [];
        spelt = refl;
        gone = elim (cases_Bool (kind_passes is_character_data w.forest m)) [
          | inl k ↦ rw k refl
          | inr k ↦ rw k (all_gone-within (drop offset (children_of w.forest m)) [] (nodes_tokens w.forest (drop offset (children_of w.forest m))) [] (Close ∷ []) (nodes-gone (drop offset (children_of w.forest m)) (dropped-there m offset)))
        ];
      }
  tail_is offset m (c ∷ path) n way =
      let i = tail_is offset c path n way.2 in
      let ps = past c (children_of w.forest m) in
      let beside = nodes_tokens w.forest ps ++ (Close ∷ []) in
      record {
        post = i.post ++ beside;
        spelt = ap (λ ts. ts ++ beside) i.spelt ∙ append_assoc (back_tokens w offset n) (Close ∷ i.post) beside;
        gone = all_gone-then (tail_nodes w offset (c ∷ path)) ps (back_nodes w offset n ++ (Close ∷ (i.post ++ beside))) (closes_of (c ∷ path) ++ beside) (closes_of (c ∷ path) ++ (Close ∷ []))
            (subst (λ ts. AllGone (tail_nodes w offset (c ∷ path)) ts (closes_of (c ∷ path) ++ beside)) (append_assoc (back_nodes w offset n) (Close ∷ i.post) beside)
            (all_gone-within (tail_nodes w offset (c ∷ path)) [] (back_nodes w offset n ++ (Close ∷ i.post)) (closes_of (c ∷ path)) beside i.gone))
            (all_gone-within ps (closes_of (c ∷ path)) (nodes_tokens w.forest ps) [] (Close ∷ []) (nodes-gone ps (past-there m c)));
      }

  pub head_is : (offset m : ℕ) (path : List ℕ) (n : ℕ) → IsWay w.forest m path n → HeadIs w offset n (m ∷ path)
  head_is offset m [] n way =
      subst (λ x. HeadIs w offset x (m ∷ [])) way record {
        pre = [];
        opens = [];
        spelt = refl;
        last = refl;
        gone = elim (cases_Bool (kind_passes is_character_data w.forest m)) [
          | inl k ↦ rw k refl
          | inr k ↦ rw k (subst (λ ts. AllGone (take offset (children_of w.forest m)) (Open m ∷ ts) (Open m ∷ [])) (append-nil (nodes_tokens w.forest (take offset (children_of w.forest m))))
              (all_gone-within (take offset (children_of w.forest m)) (Open m ∷ []) (nodes_tokens w.forest (take offset (children_of w.forest m))) [] [] (nodes-gone (take offset (children_of w.forest m)) (taken-there m offset))))
        ];
      }
  head_is offset m (c ∷ path) n way =
      let i = head_is offset c path n way.2 in
      let us = up_to c (children_of w.forest m) in
      let inner = i.pre ++ (Open n ∷ front_tokens w offset n) in
      let kept = opens_of (c ∷ path) ++ front_units w offset n in
      let e : (Open m ∷ (nodes_tokens w.forest us ++ i.pre)) ++ (Open n ∷ front_tokens w offset n) ≡ Open m ∷ (nodes_tokens w.forest us ++ inner) = ap (λ ts. Open m ∷ ts) (append_assoc (nodes_tokens w.forest us) i.pre (Open n ∷ front_tokens w offset n)) in
      record {
        pre = Open m ∷ (nodes_tokens w.forest us ++ i.pre);
        opens = Open m ∷ i.opens;
        spelt = ap (λ ts. Open m ∷ (nodes_tokens w.forest us ++ ts)) i.spelt ∙ sym e;
        last = ap (λ ts. Open m ∷ ts) i.last;
        gone = subst (λ ts. AllGone (us ++ head_nodes w offset (c ∷ path)) ts (Open m ∷ kept)) (sym e)
            (all_gone-then us (head_nodes w offset (c ∷ path)) (Open m ∷ (nodes_tokens w.forest us ++ inner)) (Open m ∷ inner) (Open m ∷ kept)
            (all_gone-within us (Open m ∷ []) (nodes_tokens w.forest us) [] inner (nodes-gone us (up_to-there m c)))
            (subst (λ ts. AllGone (head_nodes w offset (c ∷ path)) ts (Open m ∷ kept)) (ap (λ ts. Open m ∷ ts) (append-nil inner))
            (subst (λ ts. AllGone (head_nodes w offset (c ∷ path)) (Open m ∷ (inner ++ [])) ts) (ap (λ ts. Open m ∷ ts) (append-nil kept))
            (all_gone-within (head_nodes w offset (c ∷ path)) (Open m ∷ []) inner kept [] i.gone))));
      }
