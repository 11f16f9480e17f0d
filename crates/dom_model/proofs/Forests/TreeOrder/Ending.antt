-- The last of the inclusive descendants.
use Rattle.std.proofs.Common.{◌≡◌, ℕ, ◌<◌, ◌≤◌, ◌∷◌, Some, None, refl, ap, sym, ◌∙◌, subst, arith, append-nil}
use Rattle.dom_model.specs.Definitions.{last_of, parent_in, Node, Forest, empty, node, Grove, occurs, size, one_at, tops, numbers, tree_at, entry_in, HasNode, children_of, inclusive_descendants, IsForest, Lies}
use Rattle.dom_model.proofs.PlainLists.{Numbers.same_or, Numbers.same, Numbers.apart, Members.hits-last_of}
use Rattle.dom_model.proofs.Forests.{Totals.total-tree_at, Totals.tree_at-absent, Totals.beside-empty, Tops.hits-tops, Entries.occurs-HasNode, Entries.HasNode-occurs, Entries.Lies-entry_in, TreeOrder.Ordering.Single, TreeOrder.Ordering.single, TreeOrder.Ordering.tree_at-single, TreeOrder.Ordering.Lies-tree_at}
use Rattle.dom_model.proofs.BoundaryPoints.RootsKept.{last_of-behind}
use Rattle.dom_model.proofs.Traversal.IteratorsStay.{tree_at-inside}

module _ {X : Type 0} where
  -- the last number is the last one's of the last tree
  pub last-tree : (m : ℕ) (f : Forest X) → ((k : ℕ) → occurs k f ≤ 1) → last_of (tops f) ≡ Some m → last_of (numbers f) ≡ last_of (numbers (tree_at m f))
  last-tree m empty o e = refl
  last-tree m (node x kids empty) o e = grind arith
  last-tree m (node x kids (node y ks r)) o e =
      grind (arith, hits-last_of, hits-tops {X = X}, last-tree m (node y ks r), tree_at-absent m kids, last_of-behind (x.number ∷ numbers kids))

  tops-none : (f : Forest X) → last_of (tops f) ≡ None → f ≡ empty
  tops-none empty e = refl
  tops-none (node x kids empty) e = absurd (cc e)
  tops-none (node x kids (node y ks r)) e = absurd (let z = tops-none (node y ks r) e in cc z)

module _ {X : Type 0} {g : Grove X} (s : IsForest g) where
  there : (n : ℕ) → HasNode g.forest n → Single n (tree_at n g.forest)
  there n h = tree_at-single n g.forest (omega (arith, occurs-HasNode g.forest n h, s.once n))

  -- a node without children is the last in its tree
  pub last-leaf : (n : ℕ) → HasNode g.forest n → last_of (children_of g.forest n) ≡ None → Some n ≡ last_of (inclusive_descendants g.forest n)
  last-leaf n h e = grind (arith, there n h, Lies-tree_at (entry_in g.forest) n None g.forest (Lies-entry_in g.forest s.once), tops-none)

  -- the last child's tree ends where the node's tree ends
  pub last-down : (n m : ℕ) → HasNode g.forest n → last_of (children_of g.forest n) ≡ Some m → (last_of (inclusive_descendants g.forest m) ≡ last_of (inclusive_descendants g.forest n)) × ((size (tree_at m g.forest) < size (tree_at n g.forest)) × HasNode g.forest m)
  last-down n m h e = from (there n h)
    where
      from : Single n (tree_at n g.forest) → (last_of (inclusive_descendants g.forest m) ≡ last_of (inclusive_descendants g.forest n)) × ((size (tree_at m g.forest) < size (tree_at n g.forest)) × HasNode g.forest m)
      from (single x kids d t) =
          let l = subst (λ (u : Forest X). Lies (entry_in g.forest) (parent_in (entry_in g.forest n)) u) t (Lies-tree_at (entry_in g.forest) n None g.forest (Lies-entry_in g.forest s.once)) in
          let c : children_of g.forest n ≡ tops kids = subst (λ k. children_of g.forest k ≡ tops kids) d (rw l.0 refl) in
          let e2 : last_of (tops kids) ≡ Some m = let k = rw c at e in k in
          let on : 0 < occurs m kids = omega (arith, hits-last_of (tops kids) m e2, hits-tops m kids) in
          let ot : (k : ℕ) → occurs k (node x kids empty) ≤ 1 = λ k. subst (λ (u : Forest X). occurs k u ≤ 1) t (omega (arith, total-tree_at (one_at k) n g.forest, s.once k)) in
          let om = ot m in
          let inner : 0 < occurs m (tree_at n g.forest) = rw t (omega arith) in
          let same_tree = sym (tree_at-inside m n g.forest s.once inner) in
          let shape : tree_at m (node x kids empty) ≡ tree_at m kids =
          elim (same_or x.number m) [
            | same i v ↦ absurd (let w = rw v at om in omega arith)
            | apart _ v ↦ rw v (beside-empty (tree_at m kids))
          ] in
          let whole : tree_at m g.forest ≡ tree_at m kids = same_tree ∙ ap (tree_at m) t ∙ shape in
          let lt = last-tree m kids (λ k. let w = ot k in omega arith) e2 in
          let all : last_of (numbers (node x kids empty)) ≡ last_of (numbers kids) = last_nodes x kids e2 in (
            ap (λ (u : Forest X). last_of (numbers u)) whole ∙ sym lt ∙ sym all ∙ ap (λ (u : Forest X). last_of (numbers u)) (sym t),
            (
              rw (whole, t) (omega (arith, total-tree_at (λ _. 1) m kids)),
              HasNode-occurs g.forest m (omega (arith, total-tree_at (one_at m) n g.forest)),
            ),
          )
        where
          last_nodes : (x : Node X) (kids : Forest X) → last_of (tops kids) ≡ Some m → last_of (numbers (node x kids empty)) ≡ last_of (numbers kids)
          last_nodes x empty z = absurd (cc z)
          last_nodes x (node y ks r) z = ap (λ l. last_of (x.number ∷ l)) (append-nil (numbers (node y ks r)))
