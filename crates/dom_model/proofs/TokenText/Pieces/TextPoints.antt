-- The gap of a point among a node's own tokens: what stands ahead of it, its markers, and what stands behind them.
use Rattle.std.proofs.Common.{◌≡◌, ℕ, zero, suc, ◌+◌, ◌<◌, ◌≤◌, ◌==◌, true, false, List, [], ◌∷◌, ◌++◌, length, refl, ap, sym, ◌∙◌, subst, arith, append-nil, inl, inr}
use Rattle.std.proofs.lemmas.Bool.{and_right, and_left, ne_eqb, cases_Bool}
use Rattle.dom_model.specs.Definitions.{is_character_data, Node, Forest, empty, node, occurs, one_at, beside, Content, Point, Token, Open, Close, OneUnit, point, same_point, unit_tokens, child_tokens}
use Rattle.dom_model.proofs.Forests.Totals.{total-beside}
use Rattle.dom_model.proofs.TokenText.{Pieces.TokenLists.AreMarks, Pieces.TextWalks.walk, Pieces.TextWalks.Misses, Pieces.TextParts.breadth, Pieces.TextParts.inside, Pieces.TextParts.child_front, Pieces.TextParts.unit_front, Pieces.TextParts.child_tokens-beside, Pieces.TextParts.unit_tokens-append, Pieces.TextParts.walk-units, Pieces.TextParts.walk-children, Pieces.TextPieces.Misses-units, Pieces.TextPieces.Misses-children, Pieces.TextPieces.unit_front-same, Pieces.TextPieces.units-same, Pieces.TextPieces.child_front-same, Pieces.TextPieces.children-same, Pieces.TextPieces.inside-same, Pieces.TextCounts.measure_of}

-- the units of a node from offset i on, without the markers in the gap ahead of them
abbrev pub unit_back : (Point → List Token) → ℕ → ℕ → List ℕ → List Token
unit_back marks n i [] = []
unit_back marks n i (u ∷ units) = OneUnit u ∷ unit_tokens marks n (suc i) units

-- the children of a node from index i on, without the markers in the gap ahead of them
abbrev pub child_back : (Point → List Token) → ℕ → ℕ → Forest Content → List Token
child_back marks n i empty = []
child_back marks n i (node x kids rest) = Open x.number ∷ (inside marks x kids ++ (Close ∷ child_tokens marks n (suc i) rest))

pub unit_tokens-back : (marks : (Point → List Token)) (n i : ℕ) (us : List ℕ) → unit_tokens marks n i us ≡ marks (point n i) ++ unit_back marks n i us
unit_tokens-back marks n i [] = sym (append-nil (marks (point n i)))
unit_tokens-back marks n i (u ∷ us) = refl

pub child_tokens-back : (marks : (Point → List Token)) (n i : ℕ) (f : Forest Content) → child_tokens marks n i f ≡ marks (point n i) ++ child_back marks n i f
child_tokens-back marks n i empty = sym (append-nil (marks (point n i)))
child_tokens-back marks n i (node x kids rest) = refl

module _ (marks marks' : Point → List Token) where
  pub unit_back-same : (n n' i i' : ℕ) (us : List ℕ) → ((j j' : ℕ) → j' + i ≡ j + i' → i < j → j ≤ i + length us → marks' (point n' j') ≡ marks (point n j)) → unit_back marks' n' i' us ≡ unit_back marks n i us
  unit_back-same n n' i i' [] h = refl
  unit_back-same n n' i i' (u ∷ us) h = ap (λ (ts : List Token). OneUnit u ∷ ts) (units-same marks marks' n n' (suc i) (suc i') us (λ j j' e a b. h j j' (omega arith) (omega arith) (omega arith)))

  pub child_back-same : (n i i' : ℕ) (f : Forest Content) → ((j j' : ℕ) → j' + i ≡ j + i' → i < j → j ≤ i + breadth f → marks' (point n j') ≡ marks (point n j)) → ((q : Point) → 0 < occurs q.node f → marks' q ≡ marks q) → child_back marks' n i' f ≡ child_back marks n i f
  child_back-same n i i' empty h k = refl
  child_back-same n i i' (node x kids rest) h k =
      let s : (q : Point) → 0 < occurs q.node (node x kids empty) → marks' q ≡ marks q = λ q o. k q (let u : 0 < occurs q.node (node x kids empty) = o in omega arith) in
      rw (inside-same marks marks' x kids s, children-same marks marks' n (suc i) (suc i') rest (λ j j' e a b. h j j' (omega arith) (omega arith) (omega arith)) (λ q o. k q (omega (arith, o)))) refl

-- A list and a forest parted at an offset.

pub record Parted (o : ℕ) (us : List ℕ) : Type 0 where
  pub first : List ℕ
  pub last : List ℕ
  pub whole : us ≡ first ++ last
  pub long : length first ≡ o

pub parted : (o : ℕ) (us : List ℕ) → o ≤ length us → Parted o us
parted zero us h = record { first = []; last = us; whole = refl; long = refl }
parted (suc o) [] h = absurd (omega arith)
parted (suc o) (u ∷ us) h =
    let i = parted o us (omega arith) in
    record { first = u ∷ i.first; last = i.last; whole = ap (λ (vs : List ℕ). u ∷ vs) i.whole; long = ap suc i.long }

pub record TreesParted (o : ℕ) (f : Forest Content) : Type 0 where
  pub first : Forest Content
  pub last : Forest Content
  pub whole : f ≡ beside first last
  pub long : breadth first ≡ o

pub trees_parted : (o : ℕ) (f : Forest Content) → o ≤ breadth f → TreesParted o f
trees_parted zero f h = record { first = empty; last = f; whole = refl; long = refl }
trees_parted (suc o) empty h = absurd (omega arith)
trees_parted (suc o) (node x kids rest) h =
    let i = trees_parted o rest (omega arith) in
    record { first = node x kids i.first; last = i.last; whole = ap (node x kids) i.whole; long = ap suc i.long }

-- The gap of a point: what stands ahead of it and behind its markers stays where the markers of other points do.
pub record Gap (marks : Point → List Token) (y : Node Content) (ys : Forest Content) (o : ℕ) : Type 0 where
  pub front : List Token
  pub back : List Token
  pub spelt : (marks' : Point → List Token) → ((q : Point) → same_point (point y.number o) q ≡ false → marks' q ≡ marks q) → inside marks' y ys ≡ front ++ (marks' (point y.number o) ++ back)
  pub comes : (around : List Point) → walk front (point y.number 0 ∷ around) ≡ point y.number o ∷ around
  pub misses : (around : List Point) → Misses (point y.number o) front (point y.number 0 ∷ around)

pub apart_offset : (n o j : ℕ) → (o ≡ j → ⊥) → same_point (point n o) (point n j) ≡ false
apart_offset n o j h = and_right (n == n) (o == j) (ne_eqb o j h)

none_in_parts : (n o : ℕ) (f : Forest Content) (p : TreesParted o f) → occurs n f ≡ 0 → occurs n p.first + occurs n p.last ≡ 0
none_in_parts n o f p z = sym (total-beside (one_at n) p.first p.last) ∙ sym (ap (occurs n) p.whole) ∙ z

pub first_none : (n o : ℕ) (f : Forest Content) (p : TreesParted o f) → occurs n f ≡ 0 → occurs n p.first ≡ 0
first_none n o f p z = let b = none_in_parts n o f p z in omega arith

pub last_none : (n o : ℕ) (f : Forest Content) (p : TreesParted o f) → occurs n f ≡ 0 → occurs n p.last ≡ 0
last_none n o f p z = let b = none_in_parts n o f p z in omega arith

pub apart_node : (n o : ℕ) (f : Forest Content) → occurs n f ≡ 0 → (q : Point) → 0 < occurs q.node f → same_point (point n o) q ≡ false
apart_node n o f e q h = and_left (n == q.node) (o == q.offset) (ne_eqb n q.node (λ d. absurd (let k : occurs q.node f ≡ 0 = subst (λ m. occurs m f ≡ 0) d e in omega arith)))

module _ (marks : Point → List Token) (only : (p : Point) → AreMarks (marks p)) where
  abbrev pub gap_in_units : (y : Node Content) (ys : Forest Content) (o : ℕ) → is_character_data y.label.kind ≡ true → Parted o y.body.text → Gap marks y ys o
  gap_in_units y ys o v p = record {
    front = unit_front marks y.number 0 p.first;
    back = unit_back marks y.number o p.last;
    spelt = λ marks' a.
        let s : inside marks' y ys ≡ unit_tokens marks' y.number 0 y.body.text = rw v refl in
        let e : 0 + length p.first ≡ o = omega (arith, p.long) in
        s ∙ ap (unit_tokens marks' y.number 0) p.whole ∙ unit_tokens-append marks' y.number 0 p.first p.last
        ∙ ap (λ k. unit_front marks' y.number 0 p.first ++ unit_tokens marks' y.number k p.last) e
        ∙ ap (λ (ts : List Token). unit_front marks' y.number 0 p.first ++ ts) (unit_tokens-back marks' y.number o p.last)
        ∙ ap (λ (ts : List Token). ts ++ (marks' (point y.number o) ++ unit_back marks' y.number o p.last))
        (unit_front-same marks marks' y.number 0 0 p.first (λ j j' d b c. let f : j ≡ j' = omega arith in subst (λ l. marks' (point y.number l) ≡ marks (point y.number j)) f (a (point y.number j) (apart_offset y.number o j (λ k. absurd (omega arith))))))
        ∙ ap (λ (ts : List Token). unit_front marks y.number 0 p.first ++ (marks' (point y.number o) ++ ts))
        (unit_back-same marks marks' y.number y.number o o p.last (λ j j' d b c. let f : j ≡ j' = omega arith in subst (λ l. marks' (point y.number l) ≡ marks (point y.number j)) f (a (point y.number j) (apart_offset y.number o j (λ k. absurd (omega arith))))));
    comes = λ around. let e : 0 + length p.first ≡ o = omega (arith, p.long) in walk-units marks only y.number 0 p.first around ∙ ap (λ k. point y.number k ∷ around) e;
    misses = λ around. Misses-units marks only (point y.number o) y.number 0 p.first around (λ j a b. apart_offset y.number o j (λ k. absurd (omega (arith, p.long))));
  }

  abbrev pub gap_in_children : (y : Node Content) (ys : Forest Content) (o : ℕ) → is_character_data y.label.kind ≡ false → occurs y.number ys ≡ 0 → TreesParted o ys → Gap marks y ys o
  gap_in_children y ys o v z p = record {
    front = child_front marks y.number 0 p.first;
    back = child_back marks y.number o p.last;
    spelt = λ marks' a.
        let s : inside marks' y ys ≡ child_tokens marks' y.number 0 ys = rw v refl in
        let e : 0 + breadth p.first ≡ o = omega (arith, p.long) in
        s ∙ ap (child_tokens marks' y.number 0) p.whole ∙ child_tokens-beside marks' y.number 0 p.first p.last
        ∙ ap (λ k. child_front marks' y.number 0 p.first ++ child_tokens marks' y.number k p.last) e
        ∙ ap (λ (ts : List Token). child_front marks' y.number 0 p.first ++ ts) (child_tokens-back marks' y.number o p.last)
        ∙ ap (λ (ts : List Token). ts ++ (marks' (point y.number o) ++ child_back marks' y.number o p.last))
        (child_front-same marks marks' y.number 0 0 p.first (λ j j' d b c. let f : j ≡ j' = omega arith in subst (λ l. marks' (point y.number l) ≡ marks (point y.number j)) f (a (point y.number j) (apart_offset y.number o j (λ k. absurd (omega (arith, p.long)))))) (λ q b. a q (apart_node y.number o p.first (first_none y.number o ys p z) q b)))
        ∙ ap (λ (ts : List Token). child_front marks y.number 0 p.first ++ (marks' (point y.number o) ++ ts))
        (child_back-same marks marks' y.number o o p.last (λ j j' d b c. let f : j ≡ j' = omega arith in subst (λ l. marks' (point y.number l) ≡ marks (point y.number j)) f (a (point y.number j) (apart_offset y.number o j (λ k. absurd (omega arith))))) (λ q b. a q (apart_node y.number o p.last (last_none y.number o ys p z) q b)));
    comes = λ around. let e : 0 + breadth p.first ≡ o = omega (arith, p.long) in walk-children marks only y.number 0 p.first around ∙ ap (λ k. point y.number k ∷ around) e;
    misses = λ around. Misses-children marks only (point y.number o) y.number 0 p.first around (first_none y.number o ys p z) (λ j a b. apart_offset y.number o j (λ k. absurd (omega (arith, p.long))));
  }

  -- each offset up to the measure has its gap
  pub gap_inside : (y : Node Content) (ys : Forest Content) (o : ℕ) → occurs y.number ys ≡ 0 → o ≤ measure_of y ys → Gap marks y ys o
  gap_inside y ys o z h =
      elim (cases_Bool (is_character_data y.label.kind)) [
        | inl e ↦ gap_in_units y ys o e (parted o y.body.text (rw e at h))
        | inr e ↦ gap_in_children y ys o e z (trees_parted o ys (rw e at h))
      ]
