-- The points at the front of nodes stand in tree order. DOM Standard, "Trees", "Boundary points".
use Rattle.std.proofs.Common.{◌≡◌, ℕ, zero, suc, ◌+◌, ◌<◌, ◌≤◌, nat_lt, true, false, [], ◌∷◌, ◌++◌, length, Some, None, refl, ap, sym, ◌∙◌, subst, arith, Less}
use Rattle.std.proofs.lemmas.Bool.{false≢true, lt-ltb, le-ltb}
use Rattle.dom_model.specs.Definitions.{hits, head_of, after, Grove, IsForest, one_at, occurs, parent_of, children_of, next_of, index_of, ancestors, tree_at, inclusive_descendants, order_of}
use Rattle.dom_model.proofs.PlainLists.Numbers.{same_or, same, apart}
use Rattle.dom_model.proofs.Forests.{Changes.seen, Changes.nothing, Changes.just, Totals.total-tree_at, PutBack.hits-head_of, Climbing.hits-append, Climbing.hits-self, Climbing.ancestors-there, Paths.parent-path, Indices.child-parent, Indices.child-once, Indices.index-child, Indices.path-child, Indices.parent-there, Siblings.next-listed, ToTheRoot.next-root, TreeOrder.Ordering.past, TreeOrder.Preceding.place-after, TreeOrder.Stepping.first-after, TreeOrder.Stepping.none-after, TreeOrder.Stepping.tree-top, TreeOrder.Stepping.tree-next, TreeOrder.Stepping.tree-parent, TreeOrder.Stepping.tree-up}
use Rattle.dom_model.proofs.BoundaryPoints.{PointOrder.order-above, OrderByWays.path-through, OrderByWays.order-beside, RemovalOrder.ancestors-split}

module _ {X : Type 0} (g : Grove X) (s : IsForest g) (r n : ℕ) (hn : 0 < occurs n g.forest) where
  -- the point at the front of one node comes before that of another
  abbrev pub IsAhead : ℕ → Type 0
  IsAhead m = order_of g.forest (record { node = n; offset = 0 }) (record { node = m; offset = 0 }) ≡ Less

  ahead-child : (c : ℕ) → parent_of g.forest c ≡ Some n → IsAhead c
  ahead-child c e =
      let i = index_of g.forest c in
      let no : nat_lt i 0 ≡ false = le-ltb i 0 (omega arith) in
      order-above g.forest n c i 0 0 [] (path-child g.forest s.once c n (parent-there g.forest c n e) e) ∙ rw no refl

  -- the next sibling of an inclusive ancestor
  ahead-next : (u v c : ℕ) → 0 < occurs u g.forest → 0 < hits u (ancestors n g.forest) → parent_of g.forest u ≡ Some c → next_of g.forest u ≡ Some v → IsAhead v
  ahead-next u v c hu a e k =
      let listed = next-listed g.forest s.once u c hu e v k in
      let pv = child-parent g.forest s.once v c listed in
      let hv = parent-there g.forest v c pv in
      let among_children : next_of g.forest u ≡ after u (children_of g.forest c) = rw e refl in
      let at = place-after u v (children_of g.forest c) (λ m. child-once g.forest s.once m c) (sym among_children ∙ k) in
      let i = index-child g.forest u c e in
      let j = index-child g.forest v c pv in
      let way = path-through g.forest s.once n c u hn a e in
      let less : nat_lt (index_of g.forest u) (index_of g.forest v) ≡ true = lt-ltb (index_of g.forest u) (index_of g.forest v) (omega arith) in
      let far : index_of g.forest u ≡ index_of g.forest v → ⊥ = λ d. omega arith in
      order-beside g.forest n v c (index_of g.forest u) (index_of g.forest v) 0 0 way.0 [] way.1 (path-child g.forest s.once v c hv pv) far
      ∙ rw less refl

  climbed : (k u m : ℕ) → length (ancestors u g.forest) ≤ k → 0 < occurs u (tree_at r g.forest) → 0 < hits u (ancestors n g.forest) → past None u (tree_at r g.forest) ≡ Some m → IsAhead m
  climbed zero u m l h a e =
      let hu : 0 < occurs u g.forest = omega (arith, total-tree_at (one_at u) r g.forest) in
      absurd (let i = ancestors-there u g.forest hu in let j = rw i.1 at l in omega arith)
  climbed (suc k) u m l h a e =
      let hu : 0 < occurs u g.forest = omega (arith, total-tree_at (one_at u) r g.forest) in
      elim (same_or u r) [
        | same d t ↦ absurd (let z : None ≡ Some m = sym (tree-top s r u h d) ∙ e in cc z)
        | apart ne t ↦
            elim (seen (parent_of g.forest u)) [
              | nothing p ↦ absurd (orphan p ne)
              | just c p ↦
                  elim (seen (next_of g.forest u)) [
                    | just v x ↦
                        let z : Some v ≡ Some m = sym (tree-next s r u v h ne x) ∙ e in
                        let w : v ≡ m = cc z in
                        subst IsAhead w (ahead-next u v c hu a p x)
                    | nothing x ↦
                        let up = tree-up s r u c h ne x p in
                        let i = parent-path g.forest s.once u c hu p in
                        let l2 = rw i.1 at l in
                        climbed k c m (omega arith) up.0 (above u c hu a p) (sym up.1 ∙ e)
                  ]
            ]
      ]
    where
      orphan : parent_of g.forest u ≡ None → (u ≡ r → ⊥) → ⊥
      orphan p ne =
          let k = tree-parent s r u h ne (next-root g.forest u p) in
          let j = rw p at k in
          false≢true j

      above : (u c : ℕ) → 0 < occurs u g.forest → 0 < hits u (ancestors n g.forest) → parent_of g.forest u ≡ Some c → 0 < hits c (ancestors n g.forest)
      above u c hu a p =
          let i = ancestors-split g.forest s.once u n hn a in
          let w = parent-path g.forest s.once u c hu p in
          let d : ancestors n g.forest ≡ i.0 ++ u ∷ ancestors c g.forest = i.1 ∙ ap (λ ms. i.0 ++ ms) w.1 in
          let e : hits c (ancestors n g.forest) ≡ hits c i.0 + hits c (u ∷ ancestors c g.forest) = ap (hits c) d ∙ hits-append c i.0 (u ∷ ancestors c g.forest) in
          let j = hits-self c c g.forest refl w.0 in
          omega arith

  -- the next in tree order
  pub ahead-after : 0 < occurs n (tree_at r g.forest) → (m : ℕ) → after n (inclusive_descendants g.forest r) ≡ Some m → IsAhead m
  ahead-after h m e =
      elim (seen (head_of (children_of g.forest n))) [
        | just c z ↦
            let d : Some c ≡ Some m = first-after s r n c h z ∙ e in
            let w : c ≡ m = cc d in
            subst IsAhead w (ahead-child c (child-parent g.forest s.once c n (hits-head_of (children_of g.forest n) c z)))
        | nothing z ↦ climbed (length (ancestors n g.forest)) n m (omega arith) h (hits-self n n g.forest refl hn) (sym (none-after s r n h z) ∙ e)
      ]
