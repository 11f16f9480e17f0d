-- Tree order among the inclusive descendants of a node, step by step.
use Rattle.std.proofs.Common.{◌≡◌, ℕ, ◌<◌, ◌≤◌, nat_lt, true, [], Option, Some, None, IsSome, IfSome, refl, ap, sym, ◌∙◌, subst, arith, ⊎_elim, append-nil}
use Rattle.std.proofs.lemmas.{Bool.cases_lt, Bool.lt-ltb, Bool.Decides.nat_tests}
use Rattle.dom_model.specs.Definitions.{head_of, after, or_else, Entry, parent_in, next_in, Node, Forest, empty, node, Grove, occurs, one_at, numbers, entry_in, HasNode, parent_of, children_of, next_of, root_of, tree_at, inclusive_descendants, IsForest, Lies}
use Rattle.dom_model.proofs.PlainLists.Numbers.{same_or, same, apart}
use Rattle.dom_model.proofs.Forests.{Totals.total-tree_at, Totals.tree_at-absent, Entries.Lies-entry_in, PutBack.hits-after, TreeOrder.Flattened.hits-numbers, TreeOrder.Ordering.past, TreeOrder.Ordering.after-numbers, TreeOrder.Ordering.past-next, TreeOrder.Ordering.past-up, TreeOrder.Ordering.Up, TreeOrder.Ordering.over, TreeOrder.Ordering.up, TreeOrder.Ordering.Single, TreeOrder.Ordering.single, TreeOrder.Ordering.tree_at-single, TreeOrder.Ordering.Lies-tree_at, ToTheRoot.IfSome-from, ToTheRoot.root-parent, ToTheRoot.inside-root}

-- a parent in the tree, with the same past
pub data Rise {X : Type 0} (n : ℕ) (parent : Option ℕ) (t : Forest X) : Type 0 where
  rise : (q : ℕ) → parent ≡ Some q → 0 < occurs q t → past None n t ≡ past None q t → Rise n parent t

module _ {X : Type 0} where
  single-top : (x : Node X) (kids : Forest X) (n : ℕ) → x.number ≡ n → past None n (node x kids empty) ≡ None
  single-top x kids n e = elim (same_or x.number n) [ same _ t ↦ rw t refl | apart ne t ↦ absurd (ne e) ]

  single-below : (x : Node X) (kids : Forest X) (n : ℕ) → (x.number ≡ n → ⊥) → 0 < occurs n (node x kids empty) → (0 < occurs n kids) × (past None n (node x kids empty) ≡ past None n kids)
  single-below x kids n ne h =
      elim (same_or x.number n) [
        | same e t ↦ absurd (ne e)
        | apart _ t ↦
            let k = rw t at h in
            let lt : 0 < occurs n kids = omega arith in
            let v : nat_lt 0 (occurs n kids) ≡ true = lt-ltb 0 (occurs n kids) lt in
            (lt, rw (t, v) refl)
      ]

  single-next : (at : (ℕ → Option (Entry (Node X)))) (q : Option ℕ) (x : Node X) (kids : Forest X) (n m : ℕ) → ((k : ℕ) → occurs k (node x kids empty) ≤ 1) → Lies at q (node x kids empty) → (x.number ≡ n → ⊥) → 0 < occurs n (node x kids empty) → next_in at n ≡ Some m → past None n (node x kids empty) ≡ Some m
  single-next at q x kids n m o l ne h e = grind (arith, past-next at (Some x.number) None n m kids)

  single-up : (at : (ℕ → Option (Entry (Node X)))) (q : Option ℕ) (x : Node X) (kids : Forest X) (n : ℕ) → ((k : ℕ) → occurs k (node x kids empty) ≤ 1) → Lies at q (node x kids empty) → (x.number ≡ n → ⊥) → 0 < occurs n (node x kids empty) → next_in at n ≡ None → Rise n (parent_in (at n)) (node x kids empty)
  single-up at q x kids n o l ne h e =
      let b = single-below x kids n ne h in
      from b.1 (past-up at (Some x.number) None n kids (λ k. let w = o k in omega arith) l.1 (λ j _. ap (after j) (rw l.0 refl)) b.0 e)
    where
      from : past None n (node x kids empty) ≡ past None n kids → Up (Some x.number) None n (parent_in (at n)) kids → Rise n (parent_in (at n)) (node x kids empty)
      from b (over a c) = rise x.number a (grind (arith, nat_tests)) (b ∙ c ∙ sym (single-top x kids x.number refl))
      from b (up p a op c) =
          let far : x.number ≡ p → ⊥ = λ d. let w = o p in grind (arith, nat_tests) in
          let there : 0 < occurs p (node x kids empty) = omega arith in
          rise p a there (b ∙ c ∙ sym (single-below x kids p far there).1)

module _ {X : Type 0} {g : Grove X} (s : IsForest g) where
  lies : (r : ℕ) → Lies (entry_in g.forest) (parent_of g.forest r) (tree_at r g.forest)
  lies r = Lies-tree_at (entry_in g.forest) r None g.forest (Lies-entry_in g.forest s.once)

  once_inside : (r m : ℕ) → occurs m (tree_at r g.forest) ≤ 1
  once_inside r m = omega (arith, total-tree_at (one_at m) r g.forest, s.once m)

  tree : (r n : ℕ) → 0 < occurs n (tree_at r g.forest) → Single r (tree_at r g.forest)
  tree r n h =
      tree_at-single r g.forest
      (⊎_elim
      (λ (lt : 0 < occurs r g.forest). omega (arith, s.once r))
      (λ (le : occurs r g.forest ≤ 0).
      absurd (let z : tree_at r g.forest ≡ empty = tree_at-absent r g.forest (omega arith) in let k = rw z at h in omega arith))
      (cases_lt 0 (occurs r g.forest)))

  pub tree-after : (r n : ℕ) → 0 < occurs n (tree_at r g.forest) → after n (inclusive_descendants g.forest r) ≡ or_else (head_of (children_of g.forest n)) (past None n (tree_at r g.forest))
  tree-after r n h =
      ap (after n) (sym (append-nil (numbers (tree_at r g.forest)))) ∙ after-numbers (entry_in g.forest) (parent_of g.forest r) n (tree_at r g.forest) [] (once_inside r) (lies r) h

  pub first-after : (r n c : ℕ) → 0 < occurs n (tree_at r g.forest) → head_of (children_of g.forest n) ≡ Some c → Some c ≡ after n (inclusive_descendants g.forest r)
  first-after r n c h e = sym (tree-after r n h ∙ ap (λ o. or_else o (past None n (tree_at r g.forest))) e)

  pub none-after : (r n : ℕ) → 0 < occurs n (tree_at r g.forest) → head_of (children_of g.forest n) ≡ None → after n (inclusive_descendants g.forest r) ≡ past None n (tree_at r g.forest)
  none-after r n h e = tree-after r n h ∙ ap (λ o. or_else o (past None n (tree_at r g.forest))) e

  pub tree-top : (r n : ℕ) → 0 < occurs n (tree_at r g.forest) → n ≡ r → past None n (tree_at r g.forest) ≡ None
  tree-top r n h e = grind (arith, tree r n h)

  pub tree-next : (r n m : ℕ) → 0 < occurs n (tree_at r g.forest) → (n ≡ r → ⊥) → next_of g.forest n ≡ Some m → past None n (tree_at r g.forest) ≡ Some m
  tree-next r n m h ne e = from (tree r n h)
    where
      from : Single r (tree_at r g.forest) → past None n (tree_at r g.forest) ≡ Some m
      from (single x kids d t) =
          rw t (single-next (entry_in g.forest) (parent_of g.forest r) x kids n m
          (λ k. subst (λ (u : Forest X). occurs k u ≤ 1) t (once_inside r k))
          (subst (λ (u : Forest X). Lies (entry_in g.forest) (parent_of g.forest r) u) t (lies r))
          (λ i. ne (sym i ∙ d))
          (subst (λ (u : Forest X). 0 < occurs n u) t h)
          e)

  tree-rise : (r n : ℕ) → 0 < occurs n (tree_at r g.forest) → (n ≡ r → ⊥) → next_of g.forest n ≡ None → Rise n (parent_of g.forest n) (tree_at r g.forest)
  tree-rise r n h ne e = from (tree r n h)
    where
      from : Single r (tree_at r g.forest) → Rise n (parent_of g.forest n) (tree_at r g.forest)
      from (single x kids d t) =
          subst (λ (u : Forest X). Rise n (parent_of g.forest n) u) (sym t)
          (single-up (entry_in g.forest) (parent_of g.forest r) x kids n
          (λ k. subst (λ (u : Forest X). occurs k u ≤ 1) t (once_inside r k))
          (subst (λ (u : Forest X). Lies (entry_in g.forest) (parent_of g.forest r) u) t (lies r))
          (λ i. ne (sym i ∙ d))
          (subst (λ (u : Forest X). 0 < occurs n u) t h)
          e)

  pub tree-parent : (r n : ℕ) → 0 < occurs n (tree_at r g.forest) → (n ≡ r → ⊥) → next_of g.forest n ≡ None → IsSome (parent_of g.forest n)
  tree-parent r n h ne e = from (tree-rise r n h ne e)
    where
      from : Rise n (parent_of g.forest n) (tree_at r g.forest) → IsSome (parent_of g.forest n)
      from (rise q a oq b) = rw a refl

  pub tree-up : (r n q : ℕ) → 0 < occurs n (tree_at r g.forest) → (n ≡ r → ⊥) → next_of g.forest n ≡ None → parent_of g.forest n ≡ Some q → (0 < occurs q (tree_at r g.forest)) × (past None n (tree_at r g.forest) ≡ past None q (tree_at r g.forest))
  tree-up r n q h ne e p = from (tree-rise r n h ne e)
    where
      from : Rise n (parent_of g.forest n) (tree_at r g.forest) → (0 < occurs q (tree_at r g.forest)) × (past None n (tree_at r g.forest) ≡ past None q (tree_at r g.forest))
      from (rise k a ok b) =
          let d : Some k ≡ Some q = sym a ∙ p in
          let i : k ≡ q = cc d in
          (subst (λ m. 0 < occurs m (tree_at r g.forest)) i ok, b ∙ ap (λ m. past None m (tree_at r g.forest)) i)

  -- what follows in the tree stands in it
  pub after-inside : (r n m : ℕ) → after n (inclusive_descendants g.forest r) ≡ Some m → 0 < occurs m (tree_at r g.forest)
  after-inside r n m e = omega (arith, hits-numbers m (tree_at r g.forest), hits-after n (numbers (tree_at r g.forest)) m e)

  -- the same for the root's tree, whatever the root is
  pub order-first : (n c : ℕ) → head_of (children_of g.forest n) ≡ Some c → IfSome (root_of g.forest n) (λ r. Some c ≡ after n (inclusive_descendants g.forest r))
  order-first n c e = IfSome-from (root_of g.forest n) _ (λ r h. first-after r n c (inside-root s n r h) e)

-- how far a walk in tree order has come, from n
abbrev pub Past : {X : Type 0} → Forest X → ℕ → ℕ → Type 0
Past f n here =
    (r : ℕ) → root_of f n ≡ Some r → (0 < occurs here (tree_at r f)) × (after n (inclusive_descendants f r) ≡ past None here (tree_at r f))

module _ {X : Type 0} {g : Grove X} (s : IsForest g) where
  pub Past-start : (n : ℕ) → head_of (children_of g.forest n) ≡ None → Past g.forest n n
  Past-start n e = λ r h. (inside-root s n r h, none-after s r n (inside-root s n r h) e)

  pub Past-next : (n here m : ℕ) → HasNode g.forest n → Past g.forest n here → next_of g.forest here ≡ Some m → IfSome (root_of g.forest n) (λ r. Some m ≡ after n (inclusive_descendants g.forest r))
  Past-next n here m i p e = grind (arith, root-parent s n, tree-next s)

  pub Past-up : (n here q : ℕ) → HasNode g.forest n → Past g.forest n here → next_of g.forest here ≡ None → parent_of g.forest here ≡ Some q → Past g.forest n q
  Past-up n here q i p e a =
      λ r h.
      let t = root-parent s n r i h in
      let ne : here ≡ r → ⊥ = λ d. (let y : None ≡ Some q = sym t ∙ ap (parent_of g.forest) (sym d) ∙ a in cc y) in
      let k = tree-up s r here q (p r h).0 ne e a in
      (k.0, (p r h).1 ∙ k.1)

  pub Past-end : (n here : ℕ) → HasNode g.forest n → Past g.forest n here → next_of g.forest here ≡ None → parent_of g.forest here ≡ None → IfSome (root_of g.forest n) (λ r. None ≡ after n (inclusive_descendants g.forest r))
  Past-end n here i p e a = grind (arith, tree-top s, tree-parent s)
