-- A change in a gap of a tree is one among the node's own tokens, and the marker of an end is found there.
use Rattle.std.proofs.Common.{◌≡◌, ℕ, ◌+◌, ◌<◌, ◌≤◌, Bool, if◌then◌else◌, List, [], ◌∷◌, ◌++◌, Some, None, refl, ap, sym, ◌∙◌, arith}
use Rattle.std.proofs.lemmas.List.{map-append}
use Rattle.dom_model.specs.Definitions.{Node, Forest, empty, node, occurs, one_at, tree_at, Content, Point, Token, Open, Close, is_open, is_mark_of, point, token_texts, at_gap, in_gap, gap_of, gap_among, Childless}
use Rattle.dom_model.proofs.TokenText.{Pieces.TokenLists.tally, Pieces.TokenLists.tallies, Pieces.TokenLists.marked, Pieces.TokenLists.opened, Pieces.TokenLists.tally-append, Pieces.TokenLists.tallies-append, Pieces.TokenLists.AreMarks, Pieces.TextWalks.walk, Pieces.TextWalks.Away-walk, Pieces.TextWalks.stands-away, Pieces.TextWalks.Misses-away, Pieces.TextWalks.at_gap-skips, Pieces.TextWalks.in_gap-away, Pieces.TextWalks.gap_of-skips, Pieces.TextWalks.gap_of-none, Pieces.TextParts.inside, Pieces.TextCounts.opened-inside, Pieces.TextCounts.opened-texts, Pieces.TextContexts.Around, Pieces.TextContexts.with_root-itself}

-- none of the tokens around pass the test
pub record Free (test : Token → Bool) (above : List (List Token)) (ahead behind : List Token) (below : List (List Token)) : Type 0 where
  pub above_it : tallies test above ≡ 0
  pub ahead_of_it : tally test ahead ≡ 0
  pub behind_it : tally test behind ≡ 0
  pub below_it : tallies test below ≡ 0

-- what passes a test is counted part by part
pub counted : (test : Token → Bool) (above : List (List Token)) (ahead middle : List Token) (below : List (List Token)) (n : ℕ) (behind : List Token) → tallies test (above ++ ((ahead ++ (Open n ∷ (middle ++ (Close ∷ behind)))) ∷ below)) ≡ tallies test above + (tally test ahead + ((if test (Open n) then 1 else 0) + (tally test middle + ((if test Close then 1 else 0) + tally test behind))) + tallies test below)
counted test above ahead middle below n behind =
    omega (arith, tallies-append test above ((ahead ++ (Open n ∷ (middle ++ (Close ∷ behind)))) ∷ below), tally-append test ahead (Open n ∷ (middle ++ (Close ∷ behind))), tally-append test middle (Close ∷ behind))

module _ (above : List (List Token)) (ahead : List Token) (n : ℕ) (rest : List Token) (below : List (List Token)) where
  -- a change in a gap that no token around opens
  pub in_gap-around : (p : Point) (change : (List Token → List Token)) → tallies (is_open p.node) above ≡ 0 → opened p.node ahead ≡ 0 → tallies (is_open p.node) below ≡ 0 → in_gap p change (above ++ ((ahead ++ (Open n ∷ rest)) ∷ below)) ≡ above ++ ((ahead ++ (Open n ∷ at_gap p change (point n 0 ∷ walk ahead []) rest)) ∷ below)
  in_gap-around p change a b c =
      let away = Misses-away p ahead [] b tt in
      map-append (at_gap p change []) above ((ahead ++ (Open n ∷ rest)) ∷ below)
      ∙ (rw (in_gap-away p change above a, in_gap-away p change below c, at_gap-skips p change ahead (Open n ∷ rest) [] away)
      (rw (stands-away p (walk ahead []) (Away-walk p.node ahead [] b tt)) refl))

  gap_among-above : (r : ℕ) (side : Bool) (texts : List (List Token)) (others : List (List Token)) → tallies (is_mark_of r side) texts ≡ 0 → gap_among r side (texts ++ others) ≡ gap_among r side others
  gap_among-above r side [] others h = refl
  gap_among-above r side (text ∷ texts) others h = rw (gap_of-none r side text [] (omega arith)) (gap_among-above r side texts others (omega arith))

  -- the marker of an end that stands in no token around
  pub gap_among-around : (r : ℕ) (side : Bool) (p : Point) → tallies (is_mark_of r side) above ≡ 0 → marked r side ahead ≡ 0 → gap_of r side (point n 0 ∷ walk ahead []) rest ≡ Some p → gap_among r side (above ++ ((ahead ++ (Open n ∷ rest)) ∷ below)) ≡ Some p
  gap_among-around r side p a b c =
      gap_among-above r side above ((ahead ++ (Open n ∷ rest)) ∷ below) a ∙ (rw (gap_of-skips r side ahead (Open n ∷ rest) [] b, c) refl)

pub gap_among-none : (r : ℕ) (side : Bool) (texts : List (List Token)) → tallies (is_mark_of r side) texts ≡ 0 → gap_among r side texts ≡ None
gap_among-none r side [] h = refl
gap_among-none r side (text ∷ texts) h = rw (gap_of-none r side text [] (omega arith)) (gap_among-none r side texts (omega arith))

-- A node with its children in a forest: the token texts around it, and that they open nothing that the node's tree opens.
module _ (marks : Point → List Token) (only : (p : Point) → AreMarks (marks p)) (n : ℕ) (y : Node Content) (ys : Forest Content) (named : y.number ≡ n) (f : Forest Content) (o : (m : ℕ) → occurs m f ≤ 1) (c : Childless f) (e : tree_at n f ≡ node y ys empty) (w : Around marks n (node y ys empty) f) where
  pub around-spells : token_texts marks f ≡ w.above ++ ((w.ahead ++ (Open n ∷ (inside marks y ys ++ (Close ∷ w.behind)))) ∷ w.below)
  around-spells = ap (token_texts marks) (sym (with_root-itself n y ys f o e)) ∙ w.spelt marks y ys named (λ q h. refl)

  pub around-free : Childless (node y ys empty) → (k : ℕ) → 0 < occurs k (node y ys empty) → Free (is_open k) w.above w.ahead w.behind w.below
  around-free d k h =
      let a = opened-texts marks only k f c in
      let b = ap (tallies (is_open k)) around-spells in
      let i = counted (is_open k) w.above w.ahead (inside marks y ys) w.below n w.behind in
      let j = opened-inside marks only k y ys d in
      let l = o k in
      let g : one_at k y.number ≡ one_at k n = ap (one_at k) named in
      record { above_it = omega arith; ahead_of_it = omega arith; behind_it = omega arith; below_it = omega arith }
