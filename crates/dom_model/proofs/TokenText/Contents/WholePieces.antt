-- The tokens of nodes or units that stand side by side: what they leave open, and where a walk over them comes to.
use Rattle.std.proofs.Common.{◌≡◌, ℕ, suc, ◌+◌, ◌<◌, ◌≤◌, ◌==◌, true, false, if◌then◌else◌, List, [], ◌∷◌, ◌++◌, length, Some, None, option_map, refl, ap, sym, ◌∙◌, subst, arith, eq-eqb, inl, inr}
use Rattle.std.proofs.lemmas.{Grind.flat_map-append, Bool.cond_both, Bool.ne_eqb, Bool.Decides.nat_tests, Bool.cases_Bool}
use Rattle.dom_model.specs.Definitions.{hits, is_character_data, Node, Forest, empty, node, occurs, one_at, tops, tree_at, entry_in, children_of, Content, Point, kind_passes, content_in, Token, Open, Close, OneUnit, point, same_point, is_open, no_marks, unit_tokens, child_tokens, token_texts, tokens_among, tokens_ahead, Childless}
use Rattle.dom_model.proofs.PlainLists.Numbers.{same_or, same, apart}
use Rattle.dom_model.proofs.Forests.{Totals.total-tree_at, Totals.tree_at-absent, Totals.beside-empty, Tops.hits-tops, Climbing.hits-first}
use Rattle.dom_model.proofs.TokenText.{Pieces.TokenLists.opened, Pieces.TokenLists.tally-append, Pieces.TextWalks.walk, Pieces.TextWalks.walk-append, Pieces.TextWalks.Misses, Pieces.TextWalks.Misses-append, Pieces.TextWalks.Misses-away, Pieces.TextWalks.Away-walk, Pieces.TextWalks.stands-away, Pieces.TextParts.inside, Pieces.TextParts.own, Pieces.TextParts.own-then, Pieces.NodeTokens.node-tokens, AlikeTrees.TreesAlike.Top, AlikeTrees.TreesAlike.top_of, AlikeTrees.TreesWithin.tree_within, Marked.MarkedTexts.not_inside, Contents.TextTold.no_mark, Contents.LeafPlaces.ahead-past, Contents.MatchedPieces.Matches, Contents.MatchedPieces.matches-none, Contents.MatchedPieces.matches-append, Contents.MatchedPieces.matches-node, Contents.MatchedPieces.matches-units, Contents.PathTokens.nodes_tokens}

-- the tokens of so many nodes or units side by side
pub record Whole (k : ℕ) (ts : List Token) : Type 0 where
  pub matches : Matches ts
  pub walks : (n i : ℕ) (around : List Point) → walk ts (point n i ∷ around) ≡ point n (i + k) ∷ around
  pub misses : (p : Point) (n i : ℕ) (around : List Point) → opened p.node ts ≡ 0 → ((j : ℕ) → i ≤ j → j < i + k → same_point p (point n j) ≡ false) → Misses p ts (point n i ∷ around)

pub whole-none : Whole 0 []
whole-none = record { matches = matches-none; walks = λ n i around. ap (λ j. point n j ∷ around) (omega arith); misses = λ p n i around o h. tt }

pub whole-append : (j k : ℕ) (xs ys : List Token) → Whole j xs → Whole k ys → Whole (j + k) (xs ++ ys)
whole-append j k xs ys x y = record {
  matches = matches-append xs ys x.matches y.matches;
  walks = λ n i around.
      let e : i + j + k ≡ i + (j + k) = omega arith in
      walk-append xs ys (point n i ∷ around) ∙ ap (walk ys) (x.walks n i around) ∙ y.walks n (i + j) around ∙ ap (λ m. point n m ∷ around) e;
  misses = λ p n i around o h.
      let a = tally-append (is_open p.node) xs ys in
      Misses-append p xs ys (point n i ∷ around) (x.misses p n i around (omega arith) (λ m b c. h m b (omega arith)))
      (subst (λ here. Misses p ys here) (sym (x.walks n i around)) (y.misses p n (i + j) around (omega arith) (λ m b c. h m (omega arith) (omega arith))));
}

pub whole-node : (m k : ℕ) (ts : List Token) → Whole k ts → Whole 1 (Open m ∷ (ts ++ (Close ∷ [])))
whole-node m k ts x = record {
  matches = matches-node m ts x.matches;
  walks = λ n i around. walk-append ts (Close ∷ []) (point m 0 ∷ (point n i ∷ around)) ∙ ap (walk (Close ∷ [])) (x.walks m 0 (point n i ∷ around));
  misses = λ p n i around o h.
      let a = tally-append (is_open p.node) ts (Close ∷ []) in
      let far : (p.node == m) ≡ false = grind (arith, nat_tests) in (
        h i (omega arith) (omega arith),
        Misses-append p ts (Close ∷ []) (point m 0 ∷ (point n i ∷ around)) (x.misses p m 0 (point n i ∷ around) (omega arith) (λ j b c. rw far refl))
            (subst (λ here. Misses p (Close ∷ []) here) (sym (x.walks m 0 (point n i ∷ around))) (rw far refl, tt)),
      );
}

whole-unit : (u : ℕ) → Whole 1 (OneUnit u ∷ [])
whole-unit u = record {
  matches = matches-units 0 0 (u ∷ []);
  walks = λ n i around. refl;
  misses = λ p n i around o h. (h i (omega arith) (omega arith), tt);
}

pub whole-units : (n i : ℕ) (us : List ℕ) → Whole (length us) (unit_tokens no_marks n i us)
whole-units n i [] = whole-none
whole-units n i (u ∷ us) =
    let e : 1 + length us ≡ suc (length us) = omega arith in
    subst (λ k. Whole k (unit_tokens no_marks n i (u ∷ us))) e (whole-append 1 (length us) (OneUnit u ∷ []) (unit_tokens no_marks n (suc i) us) (whole-unit u) (whole-units n (suc i) us))

-- how many nodes or units stand side by side
record Some_whole (ts : List Token) : Type 0 where
  many : ℕ
  whole : Whole many ts

whole-inside : (x : Node Content) (kids : Forest Content) → Some_whole (child_tokens no_marks x.number 0 kids) → Some_whole (inside no_marks x kids)
whole-inside x kids below =
    cond_both (is_character_data x.label.kind) _ _ Some_whole (λ _. record { many = length x.body.text; whole = whole-units x.number 0 x.body.text }) (λ _. below)

whole-children : (n i : ℕ) (f : Forest Content) → Some_whole (child_tokens no_marks n i f)
whole-children n i empty = record { many = 0; whole = whole-none }
whole-children n i (node x kids rest) =
    let below = whole-inside x kids (whole-children x.number 0 kids) in
    let later = whole-children n (suc i) rest in
    record {
      many = 1 + later.many;
      whole = subst (Whole (1 + later.many)) (sym (own-then no_marks x kids (child_tokens no_marks n (suc i) rest)))
          (whole-append 1 later.many (own no_marks x kids) (child_tokens no_marks n (suc i) rest) (whole-node x.number below.many (inside no_marks x kids) below.whole) later.whole);
    }

pub whole-own : (x : Node Content) (kids : Forest Content) → Whole 1 (own no_marks x kids)
whole-own x kids = let below = whole-inside x kids (whole-children x.number 0 kids) in whole-node x.number below.many (inside no_marks x kids) below.whole

-- the gap behind so many nodes or units of a node that is opened here alone
pub gap-behind : (ahead : List Token) (n k : ℕ) (front back : List Token) → Whole k front → 0 < length back → opened n ahead ≡ 0 → opened n front ≡ 0 → tokens_ahead (point n k) [] (ahead ++ (Open n ∷ (front ++ back))) ≡ Some (length ahead + suc (length front))
gap-behind ahead n k front [] x l first inner = absurd (omega arith)
gap-behind ahead n k front (b ∷ back) x l first inner =
    let away = Away-walk n ahead [] first tt in
    let z : 0 + k ≡ k = omega arith in
    let there : walk front (point n 0 ∷ walk ahead []) ≡ point n k ∷ walk ahead [] = x.walks n 0 (walk ahead []) ∙ ap (λ j. point n j ∷ walk ahead []) z in
    let here : tokens_ahead (point n k) (walk front (point n 0 ∷ walk ahead [])) (b ∷ back) ≡ Some 0 = rw there (rw (eq-eqb n n refl, eq-eqb k k refl) refl) in
    let e : length front + 0 ≡ length front = omega arith in
    let past = ahead-past (point n k) (point n 0 ∷ walk ahead []) front (b ∷ back) 0 (x.misses (point n k) n 0 (walk ahead []) inner (λ j l g. rw (eq-eqb n n refl, ne_eqb k j (λ d. omega arith)) refl)) here in
    ahead-past (point n k) [] ahead (Open n ∷ (front ++ (b ∷ back))) (suc (length front)) (Misses-away (point n k) ahead [] first tt)
    (rw (stands-away (point n k) (walk ahead []) away) (ap (option_map (λ j. suc j)) (past ∙ ap (λ j. Some j) e)))

pub nodes-append : (f : Forest Content) (ns ms : List ℕ) → nodes_tokens f (ns ++ ms) ≡ nodes_tokens f ns ++ nodes_tokens f ms
nodes-append f ns ms = flat_map-append (λ n. tokens_among n (token_texts no_marks f)) ns ms

-- The tokens of the nodes of a forest in which each number stands once, and nodes with data have no children.
module _ (f : Forest Content) (o : (m : ℕ) → occurs m f ≤ 1) (c : Childless f) where
  pub tokens-own : (n : ℕ) (t : Top n f (entry_in f n)) → tokens_among n (token_texts no_marks f) ≡ own no_marks t.top t.kids
  tokens-own n t =
      ap (λ m. tokens_among m (token_texts no_marks f)) (sym t.named)
      ∙ node-tokens no_marks no_mark t.top t.kids f o c (ap (λ m. tree_at m f) t.named ∙ t.at)

  pub whole-tokens : (n : ℕ) → 0 < occurs n f → Whole 1 (tokens_among n (token_texts no_marks f))
  whole-tokens n h = let t = top_of None n f o h in subst (Whole 1) (sym (tokens-own n t)) (whole-own t.top t.kids)

  pub whole-nodes : (ns : List ℕ) → ((m : ℕ) → 0 < hits m ns → 0 < occurs m f) → Whole (length ns) (nodes_tokens f ns)
  whole-nodes [] h = whole-none
  whole-nodes (n ∷ ns) h =
      let e : 1 + length ns ≡ suc (length ns) = omega arith in
      subst (λ k. Whole k (nodes_tokens f (n ∷ ns))) e
      (whole-append 1 (length ns) (tokens_among n (token_texts no_marks f)) (nodes_tokens f ns)
      (whole-tokens n (h n (hits-first n ns))) (whole-nodes ns (λ m k. h m (omega arith))))

  -- the tops of a part of the forest
  nodes-children : (n i : ℕ) (g : Forest Content) → ((m : ℕ) → occurs m g ≤ 1) → ((m : ℕ) → 0 < hits m (tops g) → tree_at m f ≡ tree_at m g) → nodes_tokens f (tops g) ≡ child_tokens no_marks n i g
  nodes-children n i empty og h = refl
  nodes-children n i (node x kids rest) og h =
      ap (λ ts. ts ++ nodes_tokens f (tops rest)) (node-tokens no_marks no_mark x kids f o c (h x.number (hits-first x.number (tops rest)) ∙ alone))
      ∙ ap (λ ts. own no_marks x kids ++ ts) (nodes-children n (suc i) rest (λ m. let a = og m in omega arith) later)
      ∙ sym (own-then no_marks x kids (child_tokens no_marks n (suc i) rest))
    where
      alone : tree_at x.number (node x kids rest) ≡ node x kids empty
      alone = let t = eq-eqb x.number x.number refl in let a = rw t at (og x.number) in rw (t, tree_at-absent x.number rest (omega arith)) refl

      later : (m : ℕ) → 0 < hits m (tops rest) → tree_at m f ≡ tree_at m rest
      later m k =
          let a = og m in
          let b = hits-tops m rest in
          elim (same_or x.number m) [
            | same d t ↦ absurd (let a2 = rw t at a in omega arith)
            | apart ne t ↦
                let z : occurs m kids ≡ 0 = omega arith in
                h m (omega arith) ∙ (rw (t, tree_at-absent m kids z) refl)
          ]

  pub children-tokens : (n : ℕ) (t : Top n f (entry_in f n)) → nodes_tokens f (children_of f n) ≡ child_tokens no_marks n 0 t.kids
  children-tokens n t =
      let at : tree_at t.top.number f ≡ node t.top t.kids empty = ap (λ m. tree_at m f) t.named ∙ t.at in
      let apart_from = not_inside f o t.top t.kids at in
      (rw t.told refl)
      ∙ nodes-children n 0 t.kids once_below
      (λ m k.
      let b = hits-tops m t.kids in
      let far : (t.top.number == m) ≡ false = ne_eqb t.top.number m (λ d. let e = ap (λ i. occurs i t.kids) d in omega arith) in
      let inner : 0 < occurs m (tree_at n f) = rw t.at (omega arith) in
      sym (tree_within n m f o inner) ∙ ap (tree_at m) t.at ∙ (rw far (beside-empty (tree_at m t.kids))))
    where
      once_below : (m : ℕ) → occurs m t.kids ≤ 1
      once_below m = let a = total-tree_at (one_at m) n f in let b = ap (occurs m) t.at in let e = o m in omega arith

  -- a node's own tokens, by its data or its children
  abbrev pub inner_of : ℕ → List Token
  inner_of n = if kind_passes is_character_data f n then unit_tokens no_marks n 0 (content_in (entry_in f n)).text else nodes_tokens f (children_of f n)

  pub tokens-shape : (n : ℕ) → 0 < occurs n f → tokens_among n (token_texts no_marks f) ≡ Open n ∷ (inner_of n ++ (Close ∷ []))
  tokens-shape n h =
      let t = top_of None n f o h in
      tokens-own n t
      ∙ ap (λ m. Open m ∷ (inside no_marks t.top t.kids ++ (Close ∷ []))) t.named
      ∙ ap (λ ts. Open n ∷ (ts ++ (Close ∷ []))) (elim (cases_Bool (is_character_data t.top.label.kind)) [
        | inl e ↦
            let k : kind_passes is_character_data f n ≡ true = rw t.told e in
            let u : (content_in (entry_in f n)).text ≡ t.top.body.text = rw t.told refl in
            rw (e, k, u) (ap (λ m. unit_tokens no_marks m 0 t.top.body.text) t.named)
        | inr e ↦
            let k : kind_passes is_character_data f n ≡ false = rw t.told e in
            rw (e, k) (ap (λ m. child_tokens no_marks m 0 t.kids) t.named ∙ sym (children-tokens n t))
      ])
