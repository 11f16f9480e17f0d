-- Pieces of the token text of a tree: points that they miss, that they close what they open, and that they stay where their markers do.
use Rattle.std.proofs.Common.{◌≡◌, ℕ, suc, ◌+◌, ◌<◌, ◌≤◌, ◌==◌, false, List, [], ◌∷◌, ◌++◌, length, refl, ap, sym, ◌∙◌, subst, arith, append_assoc, append-nil, map, not, inl, inr}
use Rattle.std.proofs.lemmas.{List.Elements.filter-append, Bool.Decides.nat_tests, Bool.cases_Bool, Bool.cond_both, Bool.ne_eqb, Bool.eq-eqb}
use Rattle.dom_model.specs.Definitions.{is_character_data, Node, Forest, empty, node, occurs, Content, Point, Token, Open, Close, OneUnit, point, same_point, stands_at, unit_tokens, child_tokens, token_texts, through_close, past_close, unmarked, no_marks, is_mark}
use Rattle.dom_model.proofs.TokenText.{Pieces.TextWalks.walk, Pieces.TokenLists.AreMarks, Pieces.TokenLists.through_close-marks, Pieces.TokenLists.past_close-marks, Pieces.TokenLists.unmarked-marks, Pieces.TextWalks.walk-marks, Pieces.TextWalks.Misses, Pieces.TextWalks.Misses-append, Pieces.TextWalks.Misses-marks, Pieces.TextParts.breadth, Pieces.TextParts.inside, Pieces.TextParts.own, Pieces.TextParts.child_front, Pieces.TextParts.unit_front, Pieces.TextParts.own-then, Pieces.TextParts.child_tokens-front, Pieces.TextParts.unit_tokens-front, Pieces.TextParts.walk-units, Pieces.TextParts.walk-inside, Pieces.TextParts.walk-own, Pieces.TextParts.walk-children, Pieces.TextParts.walk-all_children}

-- The tokens open and close alike: a search for a close ahead of which something is open passes over them.
pub record Closes (ts : List Token) : Type 0 where
  pub through : (depth : ℕ) (us : List Token) → through_close (suc depth) (ts ++ us) ≡ ts ++ through_close (suc depth) us
  pub past : (depth : ℕ) (us : List Token) → past_close (suc depth) (ts ++ us) ≡ past_close (suc depth) us

pub Closes-append : (xs ys : List Token) → Closes xs → Closes ys → Closes (xs ++ ys)
Closes-append xs ys h k = record {
  through = λ depth us.
      ap (through_close (suc depth)) (append_assoc xs ys us) ∙ h.through depth (ys ++ us) ∙ ap (λ (ts : List Token). xs ++ ts) (k.through depth us) ∙ sym (append_assoc xs ys (through_close (suc depth) us));
  past = λ depth us. ap (past_close (suc depth)) (append_assoc xs ys us) ∙ h.past depth (ys ++ us) ∙ k.past depth us;
}

pub Closes-marks : (ms : List Token) → AreMarks ms → Closes ms
Closes-marks ms h = record { through = λ depth us. through_close-marks (suc depth) ms us h; past = λ depth us. past_close-marks (suc depth) ms us h }

Closes-unit : (u : ℕ) (ts : List Token) → Closes ts → Closes (OneUnit u ∷ ts)
Closes-unit u ts h = record { through = λ depth us. ap (λ (vs : List Token). OneUnit u ∷ vs) (h.through depth us); past = λ depth us. h.past depth us }

Closes-node : (n : ℕ) (ts : List Token) → Closes ts → Closes (Open n ∷ (ts ++ (Close ∷ [])))
Closes-node n ts h = record {
  through = λ depth us.
      ap (λ (vs : List Token). Open n ∷ vs)
      (ap (through_close (suc (suc depth))) (append_assoc ts (Close ∷ []) us) ∙ h.through (suc depth) (Close ∷ us) ∙ sym (append_assoc ts (Close ∷ []) (through_close (suc depth) us)));
  past = λ depth us. ap (past_close (suc (suc depth))) (append_assoc ts (Close ∷ []) us) ∙ h.past (suc depth) (Close ∷ us);
}

-- what opens last is closed first
pub through-node : (n : ℕ) (ts us : List Token) → Closes ts → through_close 0 (Open n ∷ (ts ++ (Close ∷ us))) ≡ Open n ∷ (ts ++ (Close ∷ []))
through-node n ts us h = ap (λ (vs : List Token). Open n ∷ vs) (h.through 0 (Close ∷ us))

pub past-node : (n : ℕ) (ts us : List Token) → Closes ts → past_close 0 (Open n ∷ (ts ++ (Close ∷ us))) ≡ us
past-node n ts us h = h.past 0 (Close ∷ us)

module _ (marks : Point → List Token) (only : (p : Point) → AreMarks (marks p)) where
  Closes-units : (n i : ℕ) (us : List ℕ) → Closes (unit_tokens marks n i us)
  Closes-units n i [] = Closes-marks (marks (point n i)) (only (point n i))
  Closes-units n i (u ∷ us) = Closes-append (marks (point n i)) (OneUnit u ∷ unit_tokens marks n (suc i) us) (Closes-marks (marks (point n i)) (only (point n i))) (Closes-unit u (unit_tokens marks n (suc i) us) (Closes-units n (suc i) us))

  inside-closes : (x : Node Content) (kids : Forest Content) → Closes (child_tokens marks x.number 0 kids) → Closes (inside marks x kids)
  inside-closes x kids h =
      cond_both (is_character_data x.label.kind) (unit_tokens marks x.number 0 x.body.text) (child_tokens marks x.number 0 kids) Closes
      (λ e. Closes-units x.number 0 x.body.text) (λ e. h)

  pub Closes-children : (n i : ℕ) (f : Forest Content) → Closes (child_tokens marks n i f)
  Closes-children n i empty = Closes-marks (marks (point n i)) (only (point n i))
  Closes-children n i (node x kids rest) =
      Closes-append (marks (point n i)) (Open x.number ∷ (inside marks x kids ++ (Close ∷ child_tokens marks n (suc i) rest))) (Closes-marks (marks (point n i)) (only (point n i)))
      (subst Closes (sym (own-then marks x kids (child_tokens marks n (suc i) rest)))
      (Closes-append (own marks x kids) (child_tokens marks n (suc i) rest)
      (Closes-node x.number (inside marks x kids) (inside-closes x kids (Closes-children x.number 0 kids)))
      (Closes-children n (suc i) rest)))

  pub Closes-inside : (x : Node Content) (kids : Forest Content) → Closes (inside marks x kids)
  Closes-inside x kids = inside-closes x kids (Closes-children x.number 0 kids)

  -- Points that a piece misses.

  pub Misses-units : (p : Point) (n i : ℕ) (us : List ℕ) (around : List Point) → ((j : ℕ) → i ≤ j → j < i + length us → same_point p (point n j) ≡ false) → Misses p (unit_front marks n i us) (point n i ∷ around)
  Misses-units p n i [] around h = tt
  Misses-units p n i (u ∷ us) around h =
      let here = point n i ∷ around in
      let e : suc i ≡ i + 1 = omega arith in
      let s : same_point p (point n i) ≡ false = h i (omega arith) (omega arith) in
      Misses-append p (marks (point n i)) (OneUnit u ∷ unit_front marks n (suc i) us) here (Misses-marks p (marks (point n i)) here (only (point n i)) s)
      (rw (walk-marks (marks (point n i)) here (only (point n i)))
      (s, subst (λ k. Misses p (unit_front marks n (suc i) us) (point n k ∷ around)) e (Misses-units p n (suc i) us around (λ j a b. h j (omega arith) (omega arith)))))

  -- and the markers behind a piece are missed where the walk has come to
  then-marks : (p q : Point) (front : List Token) (here there : List Point) → walk front here ≡ there → stands_at p there ≡ false → Misses p front here → Misses p (front ++ marks q) here
  then-marks p q front here there e h m = Misses-append p front (marks q) here m (rw e (Misses-marks p (marks q) there (only q) h))

  Misses-all_units : (p : Point) (n : ℕ) (us : List ℕ) (around : List Point) → (p.node == n) ≡ false → Misses p (unit_tokens marks n 0 us) (point n 0 ∷ around)
  Misses-all_units p n us around h =
      let end = point n (0 + length us) in
      rw (unit_tokens-front marks n 0 us)
      (then-marks p end (unit_front marks n 0 us) (point n 0 ∷ around) (end ∷ around) (walk-units marks only n 0 us around) (rw h refl) (Misses-units p n 0 us around (λ j a b. rw h refl)))

  missed_inside : (p : Point) (x : Node Content) (kids : Forest Content) (here : List Point) → (p.node == x.number) ≡ false → Misses p (child_tokens marks x.number 0 kids) (point x.number 0 ∷ here) → Misses p (inside marks x kids) (point x.number 0 ∷ here)
  missed_inside p x kids here h m =
      let missed = Misses-all_units p x.number x.body.text here h in
      cond_both (is_character_data x.label.kind) (unit_tokens marks x.number 0 x.body.text) (child_tokens marks x.number 0 kids)
      (λ ts. Misses p ts (point x.number 0 ∷ here)) (λ e. missed) (λ e. m)

  front_then-missed : (p : Point) (n : ℕ) (f : Forest Content) (around : List Point) → (p.node == n) ≡ false → Misses p (child_front marks n 0 f) (point n 0 ∷ around) → Misses p (child_tokens marks n 0 f) (point n 0 ∷ around)
  front_then-missed p n f around h m =
      let end = point n (0 + breadth f) in
      rw (child_tokens-front marks n 0 f) (then-marks p end (child_front marks n 0 f) (point n 0 ∷ around) (end ∷ around) (walk-children marks only n 0 f around) (rw h refl) m)

  missed_own : (p : Point) (x : Node Content) (kids : Forest Content) (here : List Point) → (p.node == x.number) ≡ false → stands_at p here ≡ false → Misses p (child_tokens marks x.number 0 kids) (point x.number 0 ∷ here) → Misses p (own marks x kids) here
  missed_own p x kids here h s m =
      let i = walk-inside marks only x kids here (walk-all_children marks only x.number 0 kids here) in (
        s,
        Misses-append p (inside marks x kids) (Close ∷ []) (point x.number 0 ∷ here) (missed_inside p x kids here h m)
            (subst (λ there. Misses p (Close ∷ []) there) (sym i.1) (rw h refl, tt)),
      )

  -- no gap of a node is in a forest without it
  pub Misses-children : (p : Point) (n i : ℕ) (f : Forest Content) (around : List Point) → occurs p.node f ≡ 0 → ((j : ℕ) → i ≤ j → j < i + breadth f → same_point p (point n j) ≡ false) → Misses p (child_front marks n i f) (point n i ∷ around)
  Misses-children p n i empty around o h = tt
  Misses-children p n i (node x kids rest) around o h =
      let here = point n i ∷ around in
      let e : suc i ≡ i + 1 = omega arith in
      let s : same_point p (point n i) ≡ false = h i (omega arith) (omega arith) in
      let t : (p.node == x.number) ≡ false = ne_eqb p.node x.number (λ d. absurd (let t2 = rw (eq-eqb x.number p.node (sym d)) at o in omega arith)) in
      let kids_missed = front_then-missed p x.number kids here t (Misses-children p x.number 0 kids here (omega arith) (λ j a b. rw t refl)) in
      Misses-append p (marks (point n i)) (own marks x kids ++ child_front marks n (suc i) rest) here (Misses-marks p (marks (point n i)) here (only (point n i)) s)
      (rw (walk-marks (marks (point n i)) here (only (point n i)))
      (Misses-append p (own marks x kids) (child_front marks n (suc i) rest) here (missed_own p x kids here t s kids_missed)
      (rw (walk-own marks only x kids here)
      (subst (λ k. Misses p (child_front marks n (suc i) rest) (point n k ∷ around)) e (Misses-children p n (suc i) rest around (omega arith) (λ j a b. h j (omega arith) (omega arith)))))))

  -- Without its markers a text is the one that has none.

  unmarked-then : (p : Point) (ts : List Token) → unmarked (marks p ++ ts) ≡ unmarked ts
  unmarked-then p ts = unmarked-marks (marks p) ts (only p)

  unmarked-one : (p : Point) → unmarked (marks p) ≡ []
  unmarked-one p = ap unmarked (sym (append-nil (marks p))) ∙ unmarked-marks (marks p) [] (only p)

  unmarked-units : (n i : ℕ) (us : List ℕ) → unmarked (unit_tokens marks n i us) ≡ unit_tokens no_marks n i us
  unmarked-units n i [] = unmarked-one (point n i)
  unmarked-units n i (u ∷ us) = unmarked-then (point n i) (OneUnit u ∷ unit_tokens marks n (suc i) us) ∙ ap (λ (ts : List Token). OneUnit u ∷ ts) (unmarked-units n (suc i) us)

  unmarked_inside : (x : Node Content) (kids : Forest Content) → unmarked (child_tokens marks x.number 0 kids) ≡ child_tokens no_marks x.number 0 kids → unmarked (inside marks x kids) ≡ inside no_marks x kids
  unmarked_inside x kids h =
      elim (cases_Bool (is_character_data x.label.kind)) [
        | inl e ↦ rw e (unmarked-units x.number 0 x.body.text)
        | inr e ↦ rw e h
      ]

  unmarked_around : (x : Node Content) (kids : Forest Content) (ts us : List Token) → unmarked (child_tokens marks x.number 0 kids) ≡ child_tokens no_marks x.number 0 kids → unmarked ts ≡ us → unmarked (Open x.number ∷ (inside marks x kids ++ (Close ∷ ts))) ≡ Open x.number ∷ (inside no_marks x kids ++ (Close ∷ us))
  unmarked_around x kids ts us h k =
      ap (λ (vs : List Token). Open x.number ∷ vs)
      (filter-append (λ t. not (is_mark t)) (inside marks x kids) (Close ∷ ts) ∙ (rw (unmarked_inside x kids h, k) refl))

  pub unmarked-children : (n i : ℕ) (f : Forest Content) → unmarked (child_tokens marks n i f) ≡ child_tokens no_marks n i f
  unmarked-children n i empty = unmarked-one (point n i)
  unmarked-children n i (node x kids rest) =
      unmarked-then (point n i) (Open x.number ∷ (inside marks x kids ++ (Close ∷ child_tokens marks n (suc i) rest)))
      ∙ unmarked_around x kids (child_tokens marks n (suc i) rest) (child_tokens no_marks n (suc i) rest) (unmarked-children x.number 0 kids) (unmarked-children n (suc i) rest)

  pub unmarked-own : (x : Node Content) (kids : Forest Content) → unmarked (own marks x kids) ≡ own no_marks x kids
  unmarked-own x kids = unmarked_around x kids [] [] (unmarked-children x.number 0 kids) refl

  pub unmarked-texts : (f : Forest Content) → map unmarked (token_texts marks f) ≡ token_texts no_marks f
  unmarked-texts empty = refl
  unmarked-texts (node x kids rest) = rw (unmarked-own x kids, unmarked-texts rest) refl

-- A piece stays where the markers in its gaps do; it may move among the children or the units of its node.
module _ (marks marks' : Point → List Token) where
  pub unit_front-same : (n i i' : ℕ) (us : List ℕ) → ((j j' : ℕ) → j' + i ≡ j + i' → i ≤ j → j < i + length us → marks' (point n j') ≡ marks (point n j)) → unit_front marks' n i' us ≡ unit_front marks n i us
  unit_front-same n i i' [] h = refl
  unit_front-same n i i' (u ∷ us) h =
      rw (h i i' (omega arith) (omega arith) (omega arith), unit_front-same n (suc i) (suc i') us (λ j j' e a b. h j j' (omega arith) (omega arith) (omega arith))) refl

  pub units-same : (n n' i i' : ℕ) (us : List ℕ) → ((j j' : ℕ) → j' + i ≡ j + i' → i ≤ j → j ≤ i + length us → marks' (point n' j') ≡ marks (point n j)) → unit_tokens marks' n' i' us ≡ unit_tokens marks n i us
  units-same n n' i i' [] h = h i i' (omega arith) (omega arith) (omega arith)
  units-same n n' i i' (u ∷ us) h =
      rw (h i i' (omega arith) (omega arith) (omega arith), units-same n n' (suc i) (suc i') us (λ j j' e a b. h j j' (omega arith) (omega arith) (omega arith))) refl

  within_same : (x : Node Content) → ((j : ℕ) → marks' (point x.number j) ≡ marks (point x.number j)) → (l : ℕ) (j j' : ℕ) → j' + 0 ≡ j + 0 → 0 ≤ j → j ≤ l → marks' (point x.number j') ≡ marks (point x.number j)
  within_same x h l j j' e a b = let d : j ≡ j' = omega arith in subst (λ m. marks' (point x.number m) ≡ marks (point x.number j)) d (h j)

  same_inside : (x : Node Content) (kids : Forest Content) → ((j : ℕ) → marks' (point x.number j) ≡ marks (point x.number j)) → child_tokens marks' x.number 0 kids ≡ child_tokens marks x.number 0 kids → inside marks' x kids ≡ inside marks x kids
  same_inside x kids h k =
      elim (cases_Bool (is_character_data x.label.kind)) [
        | inl e ↦ rw e (units-same x.number x.number 0 0 x.body.text (within_same x h (0 + length x.body.text)))
        | inr e ↦ rw e k
      ]

  at_top : (x : Node Content) (kids rest : Forest Content) → ((q : Point) → 0 < occurs q.node (node x kids rest) → marks' q ≡ marks q) → (j : ℕ) → marks' (point x.number j) ≡ marks (point x.number j)
  at_top x kids rest k j = k (point x.number j) (grind (arith, nat_tests))

  pub children-same : (n i i' : ℕ) (f : Forest Content) → ((j j' : ℕ) → j' + i ≡ j + i' → i ≤ j → j ≤ i + breadth f → marks' (point n j') ≡ marks (point n j)) → ((q : Point) → 0 < occurs q.node f → marks' q ≡ marks q) → child_tokens marks' n i' f ≡ child_tokens marks n i f
  children-same n i i' empty h k = h i i' (omega arith) (omega arith) (omega arith)
  children-same n i i' (node x kids rest) h k =
      let t = at_top x kids rest k in
      let inner = same_inside x kids t (children-same x.number 0 0 kids (within_same x t (0 + breadth kids)) (λ q o. k q (omega (arith, o)))) in
      rw (h i i' (omega arith) (omega arith) (omega arith), inner, children-same n (suc i) (suc i') rest (λ j j' e a b. h j j' (omega arith) (omega arith) (omega arith)) (λ q o. k q (omega (arith, o)))) refl

  pub inside-same : (x : Node Content) (kids : Forest Content) → ((q : Point) → 0 < occurs q.node (node x kids empty) → marks' q ≡ marks q) → inside marks' x kids ≡ inside marks x kids
  inside-same x kids k =
      let t = at_top x kids empty k in
      same_inside x kids t (children-same x.number 0 0 kids (within_same x t (0 + breadth kids)) (λ q o. k q (omega (arith, o))))

  pub own-same : (x : Node Content) (kids : Forest Content) → ((q : Point) → 0 < occurs q.node (node x kids empty) → marks' q ≡ marks q) → own marks' x kids ≡ own marks x kids
  own-same x kids k = ap (λ (ts : List Token). Open x.number ∷ (ts ++ (Close ∷ []))) (inside-same x kids k)

  pub child_front-same : (n i i' : ℕ) (f : Forest Content) → ((j j' : ℕ) → j' + i ≡ j + i' → i ≤ j → j < i + breadth f → marks' (point n j') ≡ marks (point n j)) → ((q : Point) → 0 < occurs q.node f → marks' q ≡ marks q) → child_front marks' n i' f ≡ child_front marks n i f
  child_front-same n i i' empty h k = refl
  child_front-same n i i' (node x kids rest) h k =
      let s : (q : Point) → 0 < occurs q.node (node x kids empty) → marks' q ≡ marks q = λ q o. k q (let u : 0 < occurs q.node (node x kids empty) = o in omega arith) in
      rw (h i i' (omega arith) (omega arith) (omega arith), inside-same x kids s, child_front-same n (suc i) (suc i') rest (λ j j' e a b. h j j' (omega arith) (omega arith) (omega arith)) (λ q o. k q (omega (arith, o)))) refl

  pub texts-same : (f : Forest Content) → ((q : Point) → 0 < occurs q.node f → marks' q ≡ marks q) → token_texts marks' f ≡ token_texts marks f
  texts-same empty k = refl
  texts-same (node x kids rest) k =
      let s : (q : Point) → 0 < occurs q.node (node x kids empty) → marks' q ≡ marks q = λ q o. k q (let u : 0 < occurs q.node (node x kids empty) = o in omega arith) in
      rw (inside-same x kids s, texts-same rest (λ q o. k q (omega (arith, o)))) refl
