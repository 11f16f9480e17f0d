-- What comes past a node's whole tree is the first that follows the node and does not stand inside it.
use Rattle.std.proofs.Common.{◌≡◌, ℕ, nat_lt, ◌<◌, Bool, true, false, not, List, [], ◌∷◌, ◌++◌, filter, Option, None, refl, ap, sym, ◌∙◌, arith, append_assoc, append-nil}
use Rattle.std.proofs.lemmas.Bool.{lt-ltb, le-ltb}
use Rattle.dom_model.specs.Definitions.{hits, among, head_of, or_else, past as rest_past, Forest, empty, node, occurs, tops, numbers, tree_at, inclusive_descendants, following_outside}
use Rattle.dom_model.proofs.PlainLists.Numbers.{same_or, same, apart}
use Rattle.dom_model.proofs.Forests.{Totals.IsOnce, TreeOrder.Flattened.hits-numbers, Climbing.hits-first, Climbing.hits-among, Climbing.hits-not_among, Standing.top, Standing.inside, Standing.beyond, Standing.whereabouts, Below.tree-top, Below.tree-inside, Below.tree-beyond, Below.occurs-tree, TreeOrder.Ordering.past}
use Rattle.dom_model.proofs.Traversal.IteratorsStay.{tree_at-inside}

rest_past-front : (n : ℕ) (ns ms : List ℕ) → hits n ns ≡ 0 → rest_past n (ns ++ ms) ≡ rest_past n ms
rest_past-front n [] ms h = refl
rest_past-front n (m ∷ ns) ms h =
    elim (same_or m n) [
      | same e t ↦ absurd (let k = rw t at h in omega arith)
      | apart ne t ↦ (let k = rw t at h in rw t (rest_past-front n ns ms (omega arith)))
    ]

-- the first that passes, of two lists one after the other: none of the first list passes
filter-none : (p : ℕ → Bool) (ns ms : List ℕ) → ((m : ℕ) → 0 < hits m ns → p m ≡ false) → filter p (ns ++ ms) ≡ filter p ms
filter-none p [] ms h = refl
filter-none p (n ∷ ns) ms h =
    let e = h n (let i = hits-first n ns in i) in
    rw e (filter-none p ns ms (λ m k. h m (omega arith)))

module _ {X : Type 0} (p : ℕ → Bool) where
  -- the first that passes, where all of the trees do
  head_of-filter : (g : Forest X) (tail : List ℕ) → ((m : ℕ) → 0 < occurs m g → p m ≡ true) → head_of (filter p (numbers g ++ tail)) ≡ or_else (head_of (tops g)) (head_of (filter p tail))
  head_of-filter empty tail h = refl
  head_of-filter (node x kids rest) tail h =
      let e = h x.number (elim (same_or x.number x.number) [ same _ t ↦ rw t (omega arith) | apart ne _ ↦ absurd (ne refl) ]) in
      rw e refl

  -- the test fails inside the tree of n, and holds elsewhere
  following-passed : (n : ℕ) (g : Forest X) (tail : List ℕ) → IsOnce g → occurs n g ≡ 1 → ((m : ℕ) → 0 < occurs m (tree_at n g) → p m ≡ false) → ((m : ℕ) → 0 < occurs m g → occurs m (tree_at n g) ≡ 0 → p m ≡ true) → head_of (filter p (rest_past n (numbers g ++ tail))) ≡ past (head_of (filter p tail)) n g
  following-passed n empty tail o h fails holds = absurd (omega arith)
  following-passed n (node x kids rest) tail o h fails holds =
      elim (whereabouts n x kids rest h) [
        | top e t zk zr ↦
            let whole = tree-top n x kids rest o e in
            let in_kids : (m : ℕ) → 0 < hits m (numbers kids) → p m ≡ false = λ m k. fails m (let i = hits-numbers m kids in rw whole (omega arith)) in
            let in_rest : (m : ℕ) → 0 < occurs m rest → p m ≡ true = λ m k. holds m (omega arith) (let i = o m in rw whole (omega arith)) in
            rw t (ap (λ ns. head_of (filter p ns)) (append_assoc (numbers kids) (numbers rest) tail)
            ∙ ap head_of (filter-none p (numbers kids) (numbers rest ++ tail) in_kids)
            ∙ head_of-filter rest tail in_rest)
        | inside ne t ok zr ↦
            let part : tree_at n (node x kids rest) ≡ tree_at n kids = tree-inside n x kids rest o (omega arith) in
            let in_rest : (m : ℕ) → 0 < occurs m rest → p m ≡ true = λ m k. holds m (omega arith) (let i = o m in let j = occurs-tree m n kids in rw part (omega arith)) in
            past_kids ne ok (ap (λ ns. head_of (filter p (rest_past n ns))) (append_assoc (numbers kids) (numbers rest) tail)
            ∙ following-passed n kids (numbers rest ++ tail) (λ m. let i = o m in omega arith) ok (λ m k. fails m (rw part k)) (λ m j k. holds m (omega arith) (rw part k))
            ∙ ap (λ (q : Option ℕ). past q n kids) (head_of-filter rest tail in_rest))
        | beyond ne t zk or ↦
            let part : tree_at n (node x kids rest) ≡ tree_at n rest = tree-beyond n x kids rest o (omega arith) in
            past_rest ne zk (ap (λ ns. head_of (filter p (rest_past n ns))) (append_assoc (numbers kids) (numbers rest) tail)
            ∙ ap (λ ns. head_of (filter p ns)) (rest_past-front n (numbers kids) (numbers rest ++ tail) (hits-numbers n kids ∙ zk))
            ∙ following-passed n rest tail (λ m. let i = o m in omega arith) or (λ m k. fails m (rw part k)) (λ m j k. holds m (omega arith) (rw part k)))
      ]
    where
      past_kids : (x.number ≡ n → ⊥) → occurs n kids ≡ 1 → head_of (filter p (rest_past n ((numbers kids ++ numbers rest) ++ tail))) ≡ past (or_else (head_of (tops rest)) (head_of (filter p tail))) n kids → head_of (filter p (rest_past n (numbers (node x kids rest) ++ tail))) ≡ past (head_of (filter p tail)) n (node x kids rest)
      past_kids ne ok e =
          let v : nat_lt 0 (occurs n kids) ≡ true = lt-ltb 0 (occurs n kids) (omega arith) in
          elim (same_or x.number n) [ same d t ↦ absurd (ne d) | apart _ t ↦ rw (t, v) e ]

      past_rest : (x.number ≡ n → ⊥) → occurs n kids ≡ 0 → head_of (filter p (rest_past n ((numbers kids ++ numbers rest) ++ tail))) ≡ past (head_of (filter p tail)) n rest → head_of (filter p (rest_past n (numbers (node x kids rest) ++ tail))) ≡ past (head_of (filter p tail)) n (node x kids rest)
      past_rest ne zk e =
          let v : nat_lt 0 (occurs n kids) ≡ false = le-ltb 0 (occurs n kids) (omega arith) in
          elim (same_or x.number n) [ same d t ↦ absurd (ne d) | apart _ t ↦ rw (t, v) e ]

-- the node that follows all of n's tree inside c
module _ {X : Type 0} (f : Forest X) (o : IsOnce f) where
  pub following-past : (n c : ℕ) → 0 < occurs n (tree_at c f) → head_of (following_outside n (inclusive_descendants f n) (inclusive_descendants f c)) ≡ past None n (tree_at c f)
  following-past n c h =
      sym (ap (λ ns. head_of (filter outside (rest_past n ns))) (append-nil (numbers (tree_at c f))))
      ∙ following-passed outside n (tree_at c f) [] (λ m. let i = o m in let j = occurs-tree m c f in omega arith) (let i = o n in let j = occurs-tree n c f in omega arith)
      (λ m k. ap not (hits-among m (numbers (tree_at n f)) (let i = hits-numbers m (tree_at n f) in let j = rw part at k in omega arith)))
      (λ m j k. ap not (hits-not_among m (numbers (tree_at n f)) (hits-numbers m (tree_at n f) ∙ sym (ap (occurs m) part) ∙ k)))
    where
      outside : ℕ → Bool
      outside m = not (among m (inclusive_descendants f n))

      part : tree_at n (tree_at c f) ≡ tree_at n f
      part = tree_at-inside n c f o h
