-- Texts that stand for a world: without markers the token texts of its forest, and each marker in the gap of its end.
use Rattle.std.proofs.Common.{◌≡◌, ℕ, ◌<◌, ◌≤◌, Bool, true, if◌then◌else◌, List, [], ◌∷◌, ◌++◌, map, Option, Some, None, refl, ap, sym, ◌∙◌, subst, arith, append_assoc, eq-eqb}
use Rattle.std.proofs.lemmas.Bool.Decides.{nat_tests}
use Rattle.dom_model.specs.Definitions.{Node, Forest, empty, node, occurs, one_at, tree_at, Content, Point, World, Token, Close, is_mark_of, point, same_point, no_marks, token_texts, unmarked, gap_of, gap_among, end_at}
use Rattle.dom_model.proofs.Forests.Totals.{total-tree_at}
use Rattle.dom_model.proofs.TokenText.{Pieces.TokenLists.tallies, Pieces.TokenLists.marked, Pieces.TokenLists.tally-append, Pieces.TokenLists.AreMarks, Pieces.TextWalks.walk, Pieces.TextWalks.gap_of-skips, Pieces.TextWalks.gap_of-marks, Pieces.TextParts.inside, Pieces.TextPieces.unmarked-texts, Pieces.TextCounts.measure_of, Pieces.TextCounts.gap_sum, Pieces.TextCounts.spread-one, Pieces.TextCounts.gap_sum-one, Pieces.TextCounts.gap_sum-none, Pieces.TextCounts.gap_sum-same, Pieces.TextCounts.marked_at, Pieces.TextCounts.marked-texts, Pieces.TextContexts.around_texts, Pieces.TextPoints.Gap, Pieces.TextPoints.gap_inside, Pieces.TextGaps.counted, Pieces.TextGaps.gap_among-around, Pieces.TextGaps.gap_among-none, Pieces.TextGaps.around-spells, AlikeTrees.TreesAlike.Alike}

-- how many markers an end has in a gap
abbrev pub stands : Option Point → Point → ℕ
stands None p = 0
stands (Some q) p = if same_point q p then 1 else 0

-- The texts are those of the world: `trees` are its trees in the order of the texts, and `marks` has the markers of each gap.
pub record Marked (texts : List (List Token)) (w : World) : Type 0 where
  pub trees : Forest Content
  pub marks : Point → List Token
  pub spelt : texts ≡ token_texts marks trees
  pub alike : Alike trees w.forest
  pub only : (p : Point) → AreMarks (marks p)
  pub standing : (r : ℕ) (side : Bool) (p : Point) → marked r side (marks p) ≡ stands (end_at w.ranges r side) p

-- the point is one of the forest: its node stands there, and its offset is within the node's length
pub record HasPoint (f : Forest Content) (p : Point) : Type 0 where
  pub top : Node Content
  pub kids : Forest Content
  pub named : top.number ≡ p.node
  pub at : tree_at p.node f ≡ node top kids empty
  pub within : p.offset ≤ measure_of top kids

-- to show something of a point of the forest
pub at_point : (f : Forest Content) (P : (Point → Type 0)) → ((y : Node Content) (ys : Forest Content) (o : ℕ) → tree_at y.number f ≡ node y ys empty → o ≤ measure_of y ys → P (point y.number o)) → (p : Point) → HasPoint f p → P p
at_point f P h p i = subst (λ n. P (point n p.offset)) i.named (h i.top i.kids p.offset (ap (λ n. tree_at n f) i.named ∙ i.at) i.within)

-- a node does not stand under itself
pub not_inside : (f : Forest Content) → ((m : ℕ) → occurs m f ≤ 1) → (y : Node Content) (ys : Forest Content) → tree_at y.number f ≡ node y ys empty → occurs y.number ys ≡ 0
not_inside f o y ys e =
    let a = total-tree_at (one_at y.number) y.number f in
    let b = rw (eq-eqb y.number y.number refl) at (ap (occurs y.number) e) in
    let c = o y.number in
    omega arith

pub not_twice : (f : Forest Content) → ((m : ℕ) → occurs m f ≤ 1) → (y : Node Content) (ys : Forest Content) → tree_at y.number f ≡ node y ys empty → 0 < occurs y.number f
not_twice f o y ys e =
    let a = total-tree_at (one_at y.number) y.number f in
    let b = rw (eq-eqb y.number y.number refl) at (ap (occurs y.number) e) in
    omega arith

pub same_itself : (p : Point) → same_point p p ≡ true
same_itself p = grind (arith, nat_tests)

-- a point of a forest has one gap there
pub one_gap : (f : Forest Content) → ((m : ℕ) → occurs m f ≤ 1) → (y : Node Content) (ys : Forest Content) (o : ℕ) → tree_at y.number f ≡ node y ys empty → o ≤ measure_of y ys → gap_sum (stands (Some (point y.number o))) f ≡ 1
one_gap f once y ys o e h =
    gap_sum-one (stands (Some (point y.number o))) y.number y ys f once e (λ q ne. grind (arith, nat_tests))
    ∙ spread-one (stands (Some (point y.number o))) y.number 0 (measure_of y ys) o (omega arith) (omega (arith, h)) (rw (same_itself (point y.number o)) refl) (λ j ne. grind (arith, nat_tests))

module _ (texts : List (List Token)) (w : World) (m : Marked texts w) (once : (n : ℕ) → occurs n w.forest ≤ 1) where
  pub trees_once : (n : ℕ) → occurs n m.trees ≤ 1
  trees_once n = let a = m.alike.numbers n in let b = once n in omega arith

  pub markers : (r : ℕ) (side : Bool) → tallies (is_mark_of r side) texts ≡ gap_sum (stands (end_at w.ranges r side)) m.trees
  markers r side = ap (tallies (is_mark_of r side)) m.spelt ∙ marked-texts m.marks r side m.trees m.alike.childless ∙ gap_sum-same (marked_at m.marks r side) (stands (end_at w.ranges r side)) m.trees (m.standing r side)

  -- no end, no marker
  pub no_marker : (r : ℕ) (side : Bool) → end_at w.ranges r side ≡ None → tallies (is_mark_of r side) texts ≡ 0
  no_marker r side e = markers r side ∙ gap_sum-none (stands (end_at w.ranges r side)) m.trees (λ p h. ap (λ (q : Option Point). stands q p) e)

  pub no_gap : (r : ℕ) (side : Bool) → end_at w.ranges r side ≡ None → gap_among r side texts ≡ None
  no_gap r side e = gap_among-none r side texts (no_marker r side e)

  -- an end has one marker
  pub one_marker : (r : ℕ) (side : Bool) (p : Point) → end_at w.ranges r side ≡ Some p → HasPoint m.trees p → tallies (is_mark_of r side) texts ≡ 1
  one_marker r side p e h =
      markers r side ∙ ap (λ q. gap_sum (stands q) m.trees) e
      ∙ at_point m.trees (λ q. gap_sum (stands (Some q)) m.trees ≡ 1) (λ y ys o at within. one_gap m.trees trees_once y ys o at within) p h

  gap_there : (r : ℕ) (side : Bool) (y : Node Content) (ys : Forest Content) (o : ℕ) → tree_at y.number m.trees ≡ node y ys empty → o ≤ measure_of y ys → end_at w.ranges r side ≡ Some (point y.number o) → gap_among r side texts ≡ Some (point y.number o)
  gap_there r side y ys o at within e =
      let a = around_texts m.marks y.number (node y ys empty) m.trees trees_once m.alike.childless (not_twice m.trees trees_once y ys at) at in
      let g = gap_inside m.marks m.only y ys o (not_inside m.trees trees_once y ys at) within in
      let s = m.spelt ∙ around-spells m.marks m.only y.number y ys refl m.trees trees_once m.alike.childless at a in
      let k = g.spelt m.marks (λ q h. refl) in
      let c = one_marker r side (point y.number o) e (record { top = y; kids = ys; named = refl; at = at; within = within }) in
      let d = sym (ap (tallies (is_mark_of r side)) s) ∙ c in
      let b = counted (is_mark_of r side) a.above a.ahead (inside m.marks y ys) a.below y.number a.behind in
      let one : marked r side (m.marks (point y.number o)) ≡ 1 = m.standing r side (point y.number o) ∙ ap (λ (q : Option Point). stands q (point y.number o)) e ∙ (rw (same_itself (point y.number o)) refl) in
      let j = ap (marked r side) k ∙ tally-append (is_mark_of r side) g.front (m.marks (point y.number o) ++ g.back) in
      let l = tally-append (is_mark_of r side) (m.marks (point y.number o)) g.back in
      let i : gap_of r side (point y.number 0 ∷ walk a.ahead []) (inside m.marks y ys ++ (Close ∷ a.behind)) ≡ Some (point y.number o) = found g a.behind (walk a.ahead []) k (omega arith) (omega arith) in
      ap (gap_among r side) s ∙ gap_among-around a.above a.ahead y.number (inside m.marks y ys ++ (Close ∷ a.behind)) a.below r side (point y.number o) (omega arith) (omega arith) i
    where
      found : (g : Gap m.marks y ys o) (behind : List Token) (around : List Point) → inside m.marks y ys ≡ g.front ++ (m.marks (point y.number o) ++ g.back) → marked r side g.front ≡ 0 → 0 < marked r side (m.marks (point y.number o)) → gap_of r side (point y.number 0 ∷ around) (inside m.marks y ys ++ (Close ∷ behind)) ≡ Some (point y.number o)
      found g behind around k z l =
          ap (λ (ts : List Token). gap_of r side (point y.number 0 ∷ around) (ts ++ (Close ∷ behind))) k
          ∙ ap (gap_of r side (point y.number 0 ∷ around)) (append_assoc g.front (m.marks (point y.number o) ++ g.back) (Close ∷ behind) ∙ ap (λ (ts : List Token). g.front ++ ts) (append_assoc (m.marks (point y.number o)) g.back (Close ∷ behind)))
          ∙ gap_of-skips r side g.front (m.marks (point y.number o) ++ (g.back ++ (Close ∷ behind))) (point y.number 0 ∷ around) z
          ∙ ap (λ here. gap_of r side here (m.marks (point y.number o) ++ (g.back ++ (Close ∷ behind)))) (g.comes around)
          ∙ gap_of-marks r side (m.marks (point y.number o)) (g.back ++ (Close ∷ behind)) (point y.number o ∷ around) (m.only (point y.number o)) l

  -- the marker of an end stands in the gap of its point
  pub marker-stands : (r : ℕ) (side : Bool) (p : Point) → end_at w.ranges r side ≡ Some p → HasPoint m.trees p → gap_among r side texts ≡ Some p
  marker-stands r side p e h = at_point m.trees (λ q. end_at w.ranges r side ≡ Some q → gap_among r side texts ≡ Some q) (λ y ys o at within. gap_there r side y ys o at within) p h e

  -- and without their markers the texts are those of the trees
  pub unmarked-trees : map unmarked texts ≡ token_texts no_marks m.trees
  unmarked-trees = ap (map unmarked) m.spelt ∙ unmarked-texts m.marks m.only m.trees
