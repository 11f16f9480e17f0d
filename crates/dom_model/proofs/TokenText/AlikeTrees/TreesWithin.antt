-- Trees within trees, and a child among its siblings.
use Rattle.std.proofs.Common.{◌≡◌, ℕ, ◌+◌, ◌<◌, ◌≤◌, ◌==◌, false, length, inl, inr, refl, ap, ◌∙◌, arith}
use Rattle.std.proofs.lemmas.{Bool.cases_lt, Bool.eq-eqb, Bool.Decides.nat_tests}
use Rattle.dom_model.specs.Definitions.{hits, place_in, Node, Forest, empty, node, occurs, one_at, tops, beside, tree_at}
use Rattle.dom_model.proofs.TokenText.AlikeTrees.WaysToTrees.{along}
use Rattle.dom_model.proofs.PlainLists.Numbers.{same_or, same, apart}
use Rattle.dom_model.proofs.Forests.{Totals.total-beside, Totals.total-tree_at, Totals.tree_at-absent, Totals.beside-empty, Undone.tree_at-beside}

-- a child, the trees ahead of it and those behind it
pub record Child {X : Type 0} (c : ℕ) (f : Forest X) : Type 0 where
  pub ahead : Forest X
  pub top : Node X
  pub kids : Forest X
  pub behind : Forest X
  pub named : top.number ≡ c
  pub whole : f ≡ beside ahead (node top kids behind)
  pub place : length (tops ahead) ≡ place_in c (tops f)

module _ {X : Type 0} where
  pub child_of : (c : ℕ) (f : Forest X) → 0 < hits c (tops f) → Child c f
  child_of c empty h = absurd (omega arith)
  child_of c (node x kids rest) h =
      elim (same_or x.number c) [
        | same d t ↦ record { ahead = empty; top = x; kids = kids; behind = rest; named = d; whole = refl; place = rw t refl }
        | apart ne t ↦ further c x kids rest t (child_of c rest (let k = rw t at h in omega arith))
      ]
    where
      further : (c : ℕ) (x : Node X) (kids rest : Forest X) → (x.number == c) ≡ false → Child c rest → Child c (node x kids rest)
      further c x kids rest t i = record {
        ahead = node x kids i.ahead;
        top = i.top;
        kids = i.kids;
        behind = i.behind;
        named = i.named;
        whole = ap (node x kids) i.whole;
        place = rw t (omega (arith, i.place));
      }

  -- of numbers that stand once, the tree of one inside another tree is its own
  pub tree_within : (n m : ℕ) (f : Forest X) → ((k : ℕ) → occurs k f ≤ 1) → 0 < occurs m (tree_at n f) → tree_at m (tree_at n f) ≡ tree_at m f
  tree_within n m f o h =
      along n (tree_at n f) (λ g. tree_at m (tree_at n f) ≡ tree_at m g)
      (λ x kids rest o d t k z e. rw (← e) (rw (tree_at-absent m rest (let b = o m in let i = rw (← e) at h in omega arith)) refl))
      (λ x kids rest o t l z e i.
      let zm : occurs m rest ≡ 0 = (let b = o m in let c = inside m kids e in omega arith) in
      rw (not_top x kids rest o (let c = inside m kids e in omega arith), tree_at-absent m rest zm, beside-empty (tree_at m kids)) i)
      (λ x kids rest o t k e i.
      let zm : occurs m kids ≡ 0 = (let b = o m in let c = inside m rest e in omega arith) in
      rw (not_top x kids rest o (let c = inside m rest e in omega arith), tree_at-absent m kids zm) i) f o there refl
    where
      inside : (m : ℕ) (g : Forest X) → tree_at n g ≡ tree_at n f → occurs m (tree_at n f) ≤ occurs m g
      inside m g e = let a = total-tree_at (one_at m) n g in let b = ap (occurs m) e in omega arith

      there : 0 < occurs n f
      there = elim (cases_lt 0 (occurs n f)) [ inl lt ↦ lt | inr le ↦ absurd (let k = rw (tree_at-absent n f (omega arith)) at h in omega arith) ]

      not_top : (x : Node X) (kids rest : Forest X) → ((k : ℕ) → occurs k (node x kids rest) ≤ 1) → 0 < occurs m kids + occurs m rest → (x.number == m) ≡ false
      not_top x kids rest o h = let k = o m in grind (arith, nat_tests)

  -- a tree among others
  pub tree_at-between : (z : Node X) (zs fs bs : Forest X) → ((k : ℕ) → occurs k (beside fs (node z zs bs)) ≤ 1) → tree_at z.number (beside fs (node z zs bs)) ≡ node z zs empty
  tree_at-between z zs fs bs o =
      let a = rw (eq-eqb z.number z.number refl) at (total-beside (one_at z.number) fs (node z zs bs)) in
      let b = o z.number in
      tree_at-beside z.number fs (node z zs bs) ∙ (rw (tree_at-absent z.number fs (omega arith), eq-eqb z.number z.number refl, tree_at-absent z.number bs (omega arith)) refl)
