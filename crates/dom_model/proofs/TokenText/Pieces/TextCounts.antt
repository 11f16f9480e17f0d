-- How many open tokens and how many markers stand in the token texts of a forest.
use Rattle.std.proofs.Common.{◌≡◌, ℕ, zero, suc, ◌+◌, ◌<◌, ◌≤◌, ◌==◌, Bool, true, false, if◌then◌else◌, List, [], ◌∷◌, ◌++◌, length, refl, ap, ◌∙◌, subst, arith, inl, inr}
use Rattle.std.proofs.lemmas.{Bool.cases_lt, Bool.cases_Bool, Bool.eqb-false, Bool.Decides.nat_tests}
use Rattle.dom_model.specs.Definitions.{is_character_data, Node, Forest, empty, node, occurs, one_at, tree_at, Content, Point, Token, Open, Close, OneUnit, is_open, is_mark_of, point, unit_tokens, child_tokens, token_texts, Childless}
use Rattle.dom_model.proofs.TokenText.{Pieces.TokenLists.tallies, Pieces.TokenLists.marked, Pieces.TokenLists.opened, Pieces.TokenLists.tally-append, Pieces.TokenLists.AreMarks, Pieces.TokenLists.opened-marks, Pieces.TextParts.breadth, Pieces.TextParts.inside, Pieces.TextParts.own, AlikeTrees.WaysToTrees.to_tree}

-- how many units or children a node has
abbrev pub measure_of : Node Content → Forest Content → ℕ
measure_of x kids = if is_character_data x.label.kind then length x.body.text else breadth kids

-- the sum of a weight over the gaps of a node from an offset on
abbrev pub spread : (Point → ℕ) → ℕ → ℕ → ℕ → ℕ
spread weight n i zero = weight (point n i)
spread weight n i (suc l) = weight (point n i) + spread weight n (suc i) l

-- and over all gaps of a forest
abbrev pub gap_sum : (Point → ℕ) → Forest Content → ℕ
gap_sum weight empty = 0
gap_sum weight (node x kids rest) = spread weight x.number 0 (measure_of x kids) + (gap_sum weight kids + gap_sum weight rest)

pub spread-none : (weight : (Point → ℕ)) (n i l : ℕ) → ((j : ℕ) → i ≤ j → j ≤ i + l → weight (point n j) ≡ 0) → spread weight n i l ≡ 0
spread-none weight n i zero h = h i (omega arith) (omega arith)
spread-none weight n i (suc l) h = rw (h i (omega arith) (omega arith), spread-none weight n (suc i) l (λ j a b. h j (omega arith) (omega arith))) refl

pub spread-one : (weight : (Point → ℕ)) (n i l o : ℕ) → i ≤ o → o ≤ i + l → weight (point n o) ≡ 1 → ((j : ℕ) → (j ≡ o → ⊥) → weight (point n j) ≡ 0) → spread weight n i l ≡ 1
spread-one weight n i zero o a b h k = let e : o ≡ i = omega arith in subst (λ m. weight (point n m) ≡ 1) e h
spread-one weight n i (suc l) o a b h k =
    elim (cases_lt i o) [
      | inl lt ↦ rw (k i (λ e. absurd (omega arith)), spread-one weight n (suc i) l o (omega arith) (omega arith) h k) refl
      | inr le ↦
          let e : o ≡ i = omega arith in
          rw (← e) (rw (h, spread-none weight n (suc o) l (λ j c d. k j (λ f. absurd (omega arith)))) refl)
    ]

pub gap_sum-none : (weight : (Point → ℕ)) (f : Forest Content) → ((p : Point) → 0 < occurs p.node f → weight p ≡ 0) → gap_sum weight f ≡ 0
gap_sum-none weight empty h = refl
gap_sum-none weight (node x kids rest) h =
    let z : spread weight x.number 0 (measure_of x kids) ≡ 0 = spread-none weight x.number 0 (measure_of x kids) (λ j a b. h (point x.number j) (grind (arith, nat_tests))) in
    let k : gap_sum weight kids ≡ 0 = gap_sum-none weight kids (λ p o. h p (omega (arith, o))) in
    let r : gap_sum weight rest ≡ 0 = gap_sum-none weight rest (λ p o. h p (omega (arith, o))) in
    rw (z, k, r) refl

-- a weight of the gaps of one node
pub gap_sum-one : (weight : (Point → ℕ)) (n : ℕ) (y : Node Content) (ys : Forest Content) (f : Forest Content) → ((m : ℕ) → occurs m f ≤ 1) → tree_at n f ≡ node y ys empty → ((p : Point) → (p.node ≡ n → ⊥) → weight p ≡ 0) → gap_sum weight f ≡ spread weight n 0 (measure_of y ys)
gap_sum-one weight n y ys f o e h =
    to_tree n y ys (λ g. gap_sum weight g ≡ spread weight n 0 (measure_of y ys))
    (λ rest o d t k z. rw (d, off ys k, off rest z) (omega arith))
    (λ x kids rest o t l z e i. rw (far x kids t, i, off rest z) (omega arith))
    (λ x kids rest o t k e i. rw (far x kids t, off kids k, i) (omega arith)) f o e
  where
    off : (g : Forest Content) → occurs n g ≡ 0 → gap_sum weight g ≡ 0
    off g z = gap_sum-none weight g (λ p a. h p (λ q. absurd (let b : 0 < occurs n g = subst (λ m. 0 < occurs m g) q a in omega arith)))

    far : (x : Node Content) (kids : Forest Content) → (x.number == n) ≡ false → spread weight x.number 0 (measure_of x kids) ≡ 0
    far x kids t = spread-none weight x.number 0 (measure_of x kids) (λ j a b. h (point x.number j) (eqb-false x.number n t))

pub spread-same : (weight weight' : (Point → ℕ)) (n i l : ℕ) → ((p : Point) → weight p ≡ weight' p) → spread weight n i l ≡ spread weight' n i l
spread-same weight weight' n i zero h = h (point n i)
spread-same weight weight' n i (suc l) h = rw (h (point n i), spread-same weight weight' n (suc i) l h) refl

pub gap_sum-same : (weight weight' : (Point → ℕ)) (f : Forest Content) → ((p : Point) → weight p ≡ weight' p) → gap_sum weight f ≡ gap_sum weight' f
gap_sum-same weight weight' empty h = refl
gap_sum-same weight weight' (node x kids rest) h = rw (spread-same weight weight' x.number 0 (measure_of x kids) h, gap_sum-same weight weight' kids h, gap_sum-same weight weight' rest h) refl

module _ (marks : Point → List Token) (r : ℕ) (side : Bool) where
  abbrev pub marked_at : Point → ℕ
  marked_at p = marked r side (marks p)

  marked-units : (n i : ℕ) (us : List ℕ) → marked r side (unit_tokens marks n i us) ≡ spread marked_at n i (length us)
  marked-units n i [] = refl
  marked-units n i (u ∷ us) = tally-append (is_mark_of r side) (marks (point n i)) (OneUnit u ∷ unit_tokens marks n (suc i) us) ∙ (omega (arith, marked-units n (suc i) us))

  marked_inside : (x : Node Content) (kids : Forest Content) → (is_character_data x.label.kind ≡ true → kids ≡ empty) → marked r side (child_tokens marks x.number 0 kids) ≡ spread marked_at x.number 0 (breadth kids) + gap_sum marked_at kids → marked r side (inside marks x kids) ≡ spread marked_at x.number 0 (measure_of x kids) + gap_sum marked_at kids
  marked_inside x kids c h =
      elim (cases_Bool (is_character_data x.label.kind)) [
        | inl e ↦ rw e (omega (arith, marked-units x.number 0 x.body.text, ap (gap_sum marked_at) (c e)))
        | inr e ↦ rw e h
      ]

  marked_around : (x : Node Content) (kids : Forest Content) (ts : List Token) (k : ℕ) → marked r side (inside marks x kids) ≡ k → marked r side (Open x.number ∷ (inside marks x kids ++ (Close ∷ ts))) ≡ k + marked r side ts
  marked_around x kids ts k h = omega (arith, tally-append (is_mark_of r side) (inside marks x kids) (Close ∷ ts), h)

  pub marked-children : (n i : ℕ) (f : Forest Content) → Childless f → marked r side (child_tokens marks n i f) ≡ spread marked_at n i (breadth f) + gap_sum marked_at f
  marked-children n i empty c = omega arith
  marked-children n i (node x kids rest) c =
      let a = marked_inside x kids c.0 (marked-children x.number 0 kids c.1) in
      let b = marked_around x kids (child_tokens marks n (suc i) rest) (spread marked_at x.number 0 (measure_of x kids) + gap_sum marked_at kids) a in
      tally-append (is_mark_of r side) (marks (point n i)) (Open x.number ∷ (inside marks x kids ++ (Close ∷ child_tokens marks n (suc i) rest)))
      ∙ (omega (arith, b, marked-children n (suc i) rest c.2))

  pub marked-own : (x : Node Content) (kids : Forest Content) → Childless (node x kids empty) → marked r side (own marks x kids) ≡ gap_sum marked_at (node x kids empty)
  marked-own x kids c = marked_around x kids [] (spread marked_at x.number 0 (measure_of x kids) + gap_sum marked_at kids) (marked_inside x kids c.0 (marked-children x.number 0 kids c.1)) ∙ (omega arith)

  pub marked-texts : (f : Forest Content) → Childless f → tallies (is_mark_of r side) (token_texts marks f) ≡ gap_sum marked_at f
  marked-texts empty c = refl
  marked-texts (node x kids rest) c = omega (arith, marked-own x kids (c.0, c.1, tt), marked-texts rest c.2)

module _ (marks : Point → List Token) (only : (p : Point) → AreMarks (marks p)) (m : ℕ) where
  opened-units : (n i : ℕ) (us : List ℕ) → opened m (unit_tokens marks n i us) ≡ 0
  opened-units n i [] = opened-marks m (marks (point n i)) (only (point n i))
  opened-units n i (u ∷ us) = tally-append (is_open m) (marks (point n i)) (OneUnit u ∷ unit_tokens marks n (suc i) us) ∙ (omega (arith, opened-marks m (marks (point n i)) (only (point n i)), opened-units n (suc i) us))

  opened_inside : (x : Node Content) (kids : Forest Content) → (is_character_data x.label.kind ≡ true → kids ≡ empty) → opened m (child_tokens marks x.number 0 kids) ≡ occurs m kids → opened m (inside marks x kids) ≡ occurs m kids
  opened_inside x kids c h =
      elim (cases_Bool (is_character_data x.label.kind)) [
        | inl e ↦ rw (e, c e) (opened-units x.number 0 x.body.text)
        | inr e ↦ rw e h
      ]

  opened_around : (x : Node Content) (kids : Forest Content) (ts : List Token) → opened m (inside marks x kids) ≡ occurs m kids → opened m (Open x.number ∷ (inside marks x kids ++ (Close ∷ ts))) ≡ one_at m x.number + (occurs m kids + opened m ts)
  opened_around x kids ts h = omega (arith, tally-append (is_open m) (inside marks x kids) (Close ∷ ts), h)

  pub opened-children : (n i : ℕ) (f : Forest Content) → Childless f → opened m (child_tokens marks n i f) ≡ occurs m f
  opened-children n i empty c = opened-marks m (marks (point n i)) (only (point n i))
  opened-children n i (node x kids rest) c =
      let b = opened_around x kids (child_tokens marks n (suc i) rest) (opened_inside x kids c.0 (opened-children x.number 0 kids c.1)) in
      tally-append (is_open m) (marks (point n i)) (Open x.number ∷ (inside marks x kids ++ (Close ∷ child_tokens marks n (suc i) rest)))
      ∙ (omega (arith, b, opened-marks m (marks (point n i)) (only (point n i)), opened-children n (suc i) rest c.2))

  pub opened-inside : (x : Node Content) (kids : Forest Content) → Childless (node x kids empty) → opened m (inside marks x kids) ≡ occurs m kids
  opened-inside x kids c = opened_inside x kids c.0 (opened-children x.number 0 kids c.1)

  pub opened-own : (x : Node Content) (kids : Forest Content) → Childless (node x kids empty) → opened m (own marks x kids) ≡ occurs m (node x kids empty)
  opened-own x kids c = opened_around x kids [] (opened_inside x kids c.0 (opened-children x.number 0 kids c.1))

  pub opened-texts : (f : Forest Content) → Childless f → tallies (is_open m) (token_texts marks f) ≡ occurs m f
  opened-texts empty c = refl
  opened-texts (node x kids rest) c = omega (arith, opened-own x kids (c.0, c.1, tt), opened-texts rest c.2)
