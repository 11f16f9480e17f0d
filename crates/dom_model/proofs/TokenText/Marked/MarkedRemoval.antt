-- Texts stay those of the world where a node leaves its parent.
use Rattle.std.proofs.Common.{◌≡◌, ℕ, suc, ◌+◌, ◌<◌, ◌≤◌, nat_lt, Bool, true, false, List, [], ◌∷◌, ◌++◌, Option, Some, None, refl, ap, sym, ◌∙◌, subst, arith}
use Rattle.std.proofs.lemmas.{Bool.lt-ltb, Bool.le-ltb, Bool.Decides.nat_tests}
use Rattle.dom_model.specs.Definitions.{hits, among, place_in, Node, Forest, empty, node, occurs, one_at, beside, tree_at, without, parent_of, index_of, ancestors, inclusive_descendants, Content, Point, World, after_removal, Token, Open, Close, point, child_tokens, token_texts, no_marks, unmarked, marks_in, on_texts, Removal, on_world, removal_from, Childless, end_at, IsReady}
use Rattle.dom_model.proofs.Forests.{Totals.total-tree_at, Climbing.among-hits, Climbing.not_among-hits, TreeOrder.Flattened.hits-numbers, Indices.child-listed, Indices.index-child, Paths.parent-path}
use Rattle.dom_model.proofs.Soundness.SoundWorlds.{child_there}
use Rattle.dom_model.proofs.TokenText.{Pieces.TokenLists.marked, Pieces.TokenLists.AreMarks, Pieces.TokenLists.AreMarks-marks_in, Pieces.TokenLists.marked-marks_in, Pieces.TextParts.breadth, Pieces.TextParts.inside, Pieces.TextParts.own, Pieces.TextParts.child_front, Pieces.TextParts.child_tokens-beside, Pieces.TextPieces.Closes-inside, Pieces.TextPieces.unmarked-own, Pieces.TextPieces.own-same, Pieces.TextPieces.child_front-same, Pieces.TextCounts.marked-own, Pieces.TextCounts.gap_sum, Pieces.TextCounts.gap_sum-none, Pieces.TextCounts.gap_sum-same, Pieces.TextCounts.marked_at, Pieces.TextContexts.AgreeOff, Pieces.TextContexts.with_root, Pieces.TextPoints.child_back, Pieces.TextPoints.child_tokens-back, Pieces.TextPoints.child_back-same, AlikeTrees.TreesAlike.Childless-tree_at, AlikeTrees.TreesAlikeAfter.alike-inside, AlikeTrees.TreesAlikeAfter.alike-cut, AlikeTrees.TreesPlaced.left_between, AlikeTrees.TreesPlaced.with_root-left, AlikeTrees.TreesWithin.Child, AlikeTrees.TreesWithin.child_of, AlikeTrees.TreesWithin.tree_within, Pieces.RootTexts.texts-beside, Marked.MarkedTexts.stands, Marked.MarkedTexts.Marked, Marked.MarkedTexts.trees_once, Marked.MarkedTexts.HasPoint, Marked.MarkedTexts.at_point, Marked.MarkedTexts.one_gap, Marked.MarkedEnds.point_of, Marked.GapOpened.end_at-moved, Marked.GapOpened.different, Marked.GapClosed.gap_closed, Marked.GapClosed.Inner, Marked.GapClosed.standing-closed, Marked.GapClosed.AreMarks-closed, Marked.MarkedInsertion.Stands, Marked.MarkedInsertion.stands_in, Pieces.TextsClosedUp.removed-there, Pieces.TextsClosedUp.joined_then, Pieces.TextSiblings.Siblings, Pieces.TextSiblings.siblings}

-- The texts after a node left its parent.
module _ (marks : Point → List Token) (only : (p : Point) → AreMarks (marks p)) (g : Forest Content) (og : (n : ℕ) → occurs n g ≤ 1) (cg : Childless g) (k : ℕ) (y z : Node Content) (ys zs fs bs : Forest Content)
    (at : tree_at y.number g ≡ node y ys empty) (s : Siblings marks g k y z ys zs fs bs) (whole : ys ≡ beside fs (node z zs bs)) (long : breadth fs ≡ k)
    (gone : ℕ → Bool) (inside_of : (m : ℕ) → gone m ≡ nat_lt 0 (occurs m (node z zs empty))) where
  abbrev marks' : Point → List Token
  marks' q = gap_closed gone y.number k (marks_in (own marks z zs)) marks q

  inside_parent : 0 < occurs z.number ys
  inside_parent = let a = s.parts z.number in let b = s.itself in omega arith

  stays : (m : ℕ) → occurs m (node z zs empty) ≡ 0 → gone m ≡ false
  stays m h = inside_of m ∙ le-ltb 0 (occurs m (node z zs empty)) (omega arith)

  away : (q : Point) → gone q.node ≡ false → (q.node ≡ y.number → ⊥) → marks' q ≡ marks q
  away q h ne = rw (h, different q.node y.number ne) refl

  pub parent_stays : gone y.number ≡ false
  parent_stays = stays y.number (let a = s.parts y.number in let b = s.parent_above in omega arith)

  away_from : (f : Forest Content) → ((m : ℕ) → 0 < occurs m f → occurs m (node z zs empty) ≡ 0) → occurs y.number f ≡ 0 → (q : Point) → 0 < occurs q.node f → marks' q ≡ marks q
  away_from f h e q o = away q (stays q.node (h q.node o)) (λ d. absurd (let b : occurs q.node f ≡ 0 = subst (λ n. occurs n f ≡ 0) (sym d) e in omega arith))

  at_first : (o o' : ℕ) → o ≡ o' → o < k → marks' (point y.number o) ≡ marks (point y.number o')
  at_first o o' e h = let g = parent_stays in grind (arith, nat_tests)

  at_last : (o o' : ℕ) → suc o ≡ o' → k < o → marks' (point y.number o) ≡ marks (point y.number o')
  at_last o o' e h = let g = parent_stays in grind (arith, nat_tests)

  at_seam : marks' (point y.number k) ≡ marks (point y.number k) ++ (marks_in (own marks z zs) ++ marks (point y.number (suc k)))
  at_seam = let g = parent_stays in grind (arith, nat_tests)

  abbrev front : List Token
  front = child_front marks y.number 0 fs

  abbrev back : List Token
  back = child_back marks y.number (suc k) bs

  after : inside marks' y (beside fs bs) ≡ front ++ ((marks (point y.number k) ++ (marks_in (own marks z zs) ++ marks (point y.number (suc k)))) ++ back)
  after =
      let e2 : inside marks' y (beside fs bs) ≡ child_tokens marks' y.number 0 (beside fs bs) = rw s.kind refl in
      let e : 0 + breadth fs ≡ k = omega (arith, long) in
      let zf : occurs y.number fs ≡ 0 = let a = s.parts y.number in let b = s.parent_above in omega arith in
      let zb : occurs y.number bs ≡ 0 = let a = s.parts y.number in let b = s.parent_above in omega arith in
      let f : child_front marks' y.number 0 fs ≡ front = child_front-same marks marks' y.number 0 0 fs (λ j j' d a b. at_first j' j (omega arith) (omega (arith, long))) (away_from fs (λ m h. let a = s.parts m in let b = s.below_parent m in omega arith) zf) in
      let b : child_back marks' y.number k bs ≡ back = child_back-same marks marks' y.number (suc k) k bs (λ j j' d a c. at_last j' j (omega arith) (omega arith)) (away_from bs (λ m h. let a = s.parts m in let c = s.below_parent m in omega arith) zb) in
      e2 ∙ (rw (child_tokens-beside marks' y.number 0 fs bs, e, f, child_tokens-back marks' y.number k bs, at_seam, b) refl)

  agree : AgreeOff (node y ys empty) marks marks'
  agree q h =
      let a = s.parts q.node in
      let b = stays q.node in
      grind (arith, nat_tests)

  left : without z.number g ≡ with_root y.number y (beside fs bs) g
  left =
      with_root-left y.number z.number y ys g og at inside_parent
      ∙ ap (λ (t : Forest Content). with_root y.number y (without z.number t) g) whole
      ∙ ap (λ (t : Forest Content). with_root y.number y t g) (left_between z zs fs bs (λ m. let c = ap (occurs m) whole in let b = s.below_parent m in omega arith))

  emptied : (q : Point) → 0 < occurs q.node (node z zs empty) → marks' q ≡ no_marks q
  emptied q h = rw (inside_of q.node ∙ lt-ltb 0 (occurs q.node (node z zs empty)) h) refl

  pub removed-texts : on_texts (Removal z.number) (token_texts marks g) ≡ token_texts marks' (beside (without z.number g) (tree_at z.number g))
  removed-texts =
      ap (on_texts (Removal z.number)) s.spells
      ∙ removed-there z.number s.around.above s.around.below (s.around.ahead ++ (Open y.number ∷ (front ++ marks (point y.number k)))) (inside marks z zs) (child_tokens marks y.number (suc k) bs ++ (Close ∷ s.around.behind)) (s.free z.number inside_parent).above_it s.ahead_free (s.free z.number inside_parent).below_it (Closes-inside marks only z zs)
      ∙ ap (λ (ts : List Token). (s.around.above ++ (((s.around.ahead ++ (Open y.number ∷ (front ++ marks (point y.number k)))) ++ (marks_in (own marks z zs) ++ (ts ++ (Close ∷ s.around.behind)))) ∷ s.around.below)) ++ (unmarked (own marks z zs) ∷ [])) (child_tokens-back marks y.number (suc k) bs)
      ∙ ap (λ (ts : List Token). (s.around.above ++ (ts ∷ s.around.below)) ++ (unmarked (own marks z zs) ∷ [])) (joined_then s.around.ahead y.number front (marks (point y.number k)) (marks_in (own marks z zs)) (marks (point y.number (suc k))) back (Close ∷ s.around.behind))
      ∙ ap (λ (ts : List (List Token)). ts ++ (unmarked (own marks z zs) ∷ [])) (sym first)
      ∙ ap (λ (ts : List Token). token_texts marks' (without z.number g) ++ (ts ∷ [])) (unmarked-own marks only z zs ∙ sym (own-same no_marks marks' z zs emptied))
      ∙ ap (λ (t : Forest Content). token_texts marks' (without z.number g) ++ token_texts marks' t) (sym s.tree)
      ∙ sym (texts-beside marks' (without z.number g) (tree_at z.number g))
    where
      first : token_texts marks' (without z.number g) ≡ s.around.above ++ ((s.around.ahead ++ (Open y.number ∷ ((front ++ ((marks (point y.number k) ++ (marks_in (own marks z zs) ++ marks (point y.number (suc k)))) ++ back)) ++ (Close ∷ s.around.behind)))) ∷ s.around.below)
      first =
          ap (token_texts marks') left ∙ s.around.spelt marks' y (beside fs bs) refl agree
          ∙ ap (λ (ts : List Token). s.around.above ++ ((s.around.ahead ++ (Open y.number ∷ (ts ++ (Close ∷ s.around.behind)))) ∷ s.around.below)) after

-- The markers inside the tree that leaves.
module _ (texts : List (List Token)) (w : World) (m : Marked texts w) (ready : IsReady w) (n : ℕ) (z : Node Content) (zs : Forest Content) (at : tree_at n m.trees ≡ node z zs empty) where
  tree-once : (i : ℕ) → occurs i (node z zs empty) ≤ 1
  tree-once i = let a = total-tree_at (one_at i) n m.trees in let b = ap (occurs i) at in let c = trees_once texts w m ready.once i in omega arith

  inner-count : (r : ℕ) (side : Bool) → marked r side (marks_in (own m.marks z zs)) ≡ gap_sum (stands (end_at w.ranges r side)) (node z zs empty)
  inner-count r side =
      marked-marks_in r side (own m.marks z zs)
      ∙ marked-own m.marks r side z zs (subst Childless at (Childless-tree_at n m.trees m.alike.childless))
      ∙ gap_sum-same (marked_at m.marks r side) (stands (end_at w.ranges r side)) (node z zs empty) (m.standing r side)

  inner_point : (p : Point) → HasPoint m.trees p → 0 < occurs p.node (node z zs empty) → gap_sum (stands (Some p)) (node z zs empty) ≡ 1
  inner_point p h i = at_point m.trees (λ q. 0 < occurs q.node (node z zs empty) → gap_sum (stands (Some q)) (node z zs empty) ≡ 1)
      (λ y ys o there within j.
      let s : tree_at y.number (tree_at n m.trees) ≡ tree_at y.number m.trees = tree_within n y.number m.trees (trees_once texts w m ready.once) (subst (λ (t : Forest Content). 0 < occurs y.number t) (sym at) j) in
      one_gap (node z zs empty) tree-once y ys o (sym (ap (tree_at y.number) at) ∙ s ∙ there) within)
      p h i

  pub inner-markers : (descendants : List ℕ) (parent k : ℕ) (outside : among parent descendants ≡ false) → ((i : ℕ) → among i descendants ≡ nat_lt 0 (occurs i (node z zs empty))) → Inner descendants parent k outside (marks_in (own m.marks z zs)) (end_at w.ranges)
  inner-markers descendants parent k outside same_as = record {
    there = λ r side p e g. inner-count r side ∙ ap (λ (o : Option Point). gap_sum (stands o) (node z zs empty)) e ∙ inner_point p (point_of texts w m ready p (ready.points r side p e)) (inside_tree p g);
    away = λ r side p e g. inner-count r side ∙ ap (λ (o : Option Point). gap_sum (stands o) (node z zs empty)) e ∙ gap_sum-none (stands (Some p)) (node z zs empty) (λ q h. apart_from p q g h);
    none = λ r side e. inner-count r side ∙ ap (λ (o : Option Point). gap_sum (stands o) (node z zs empty)) e ∙ gap_sum-none (stands None) (node z zs empty) (λ q h. refl);
  }
    where
      inside_tree : (p : Point) → among p.node descendants ≡ true → 0 < occurs p.node (node z zs empty)
      inside_tree p g = let s = same_as p.node in grind (arith, nat_tests)

      apart_from : (p q : Point) → among p.node descendants ≡ false → 0 < occurs q.node (node z zs empty) → stands (Some p) q ≡ 0
      apart_from p q g h = let s = same_as p.node in let t = same_as q.node in grind (arith, nat_tests)

pub among-there : (n : ℕ) (xs : List ℕ) → among n xs ≡ nat_lt 0 (hits n xs)
among-there n xs = let a = among-hits n xs in let b = not_among-hits n xs in grind (arith, nat_tests)

-- a node leaves its parent
pub marked-removal : (texts : List (List Token)) (w : World) → Marked texts w → IsReady w → (n parent : ℕ) → parent_of w.forest n ≡ Some parent → Marked (on_texts (Removal n) texts) (on_world (Removal n) w)
marked-removal texts w m ready n parent par =
    subst (λ o. Marked (on_texts (Removal n) texts) (removal_from n o w)) (sym par)
    (result (stands_in m.trees w.forest m.alike ready.once parent above.0))
  where
    there : 0 < occurs n w.forest
    there = child_there w.forest n parent par

    above : (0 < occurs parent w.forest) × (ancestors n w.forest ≡ n ∷ ancestors parent w.forest)
    above = parent-path w.forest ready.once n parent there par

    result : Stands m.trees w.forest parent → Marked (on_texts (Removal n) texts) (removal_from n (Some parent) w)
    result y = with_child (child_of n y.kids (subst (λ c. 0 < hits n c) (sym y.children) (child-listed w.forest ready.once n parent there par)))
      where
        with_child : Child n y.kids → Marked (on_texts (Removal n) texts) (removal_from n (Some parent) w)
        with_child c = record {
          trees = beside (without n m.trees) (tree_at n m.trees);
          marks = gap_closed gone parent k (marks_in (own m.marks c.top c.kids)) m.marks;
          spelt = ap (on_texts (Removal n)) m.spelt ∙ texts_at;
          alike = alike-cut m.trees w.forest m.alike ready.once n;
          only = AreMarks-closed (inclusive_descendants w.forest n) parent k outside (marks_in (own m.marks c.top c.kids)) (AreMarks-marks_in (own m.marks c.top c.kids)) m.marks m.only;
          standing = λ r side q.
              standing-closed (inclusive_descendants w.forest n) parent k outside m.marks (end_at w.ranges) m.standing (marks_in (own m.marks c.top c.kids))
              (inner-markers texts w m ready n c.top c.kids tree (inclusive_descendants w.forest n) parent k outside same_as) r side q
              ∙ ap (λ (e : Option Point). stands e q) (sym (end_at-moved (after_removal (inclusive_descendants w.forest n) parent k) w.ranges r side));
        }
          where
            k : ℕ
            k = index_of w.forest n

            gone : ℕ → Bool
            gone i = among i (inclusive_descendants w.forest n)

            place : breadth c.ahead ≡ k
            place = c.place ∙ ap (place_in n) y.children ∙ sym (index-child w.forest n parent par)

            at : tree_at y.top.number m.trees ≡ node y.top y.kids empty
            at = ap (λ i. tree_at i m.trees) y.named ∙ y.at

            around : Siblings m.marks m.trees k y.top c.top y.kids c.kids c.ahead c.behind
            around = siblings m.marks m.only m.trees (trees_once texts w m ready.once) m.alike.childless k y.top c.top y.kids c.kids c.ahead c.behind at c.whole place

            tree : tree_at n m.trees ≡ node c.top c.kids empty
            tree = ap (λ i. tree_at i m.trees) (sym c.named) ∙ around.tree

            same_as : (i : ℕ) → gone i ≡ nat_lt 0 (occurs i (node c.top c.kids empty))
            same_as i =
                among-there i (inclusive_descendants w.forest n)
                ∙ ap (λ j. nat_lt 0 j) (hits-numbers i (tree_at n w.forest) ∙ sym (alike-inside m.trees w.forest m.alike ready.once n i) ∙ ap (occurs i) tree)

            outside : gone parent ≡ false
            outside = ap gone (sym y.named) ∙ parent_stays m.marks m.only m.trees (trees_once texts w m ready.once) m.alike.childless k y.top c.top y.kids c.kids c.ahead c.behind at around c.whole place gone same_as

            texts_at : on_texts (Removal n) (token_texts m.marks m.trees) ≡ token_texts (gap_closed gone parent k (marks_in (own m.marks c.top c.kids)) m.marks) (beside (without n m.trees) (tree_at n m.trees))
            texts_at =
                ap (λ i. on_texts (Removal i) (token_texts m.marks m.trees)) (sym c.named)
                ∙ removed-texts m.marks m.only m.trees (trees_once texts w m ready.once) m.alike.childless k y.top c.top y.kids c.kids c.ahead c.behind at around c.whole place gone same_as
                ∙ ap (λ i. token_texts (gap_closed gone y.top.number k (marks_in (own m.marks c.top c.kids)) m.marks) (beside (without i m.trees) (tree_at i m.trees))) c.named
                ∙ ap (λ i. token_texts (gap_closed gone i k (marks_in (own m.marks c.top c.kids)) m.marks) (beside (without n m.trees) (tree_at n m.trees))) y.named
