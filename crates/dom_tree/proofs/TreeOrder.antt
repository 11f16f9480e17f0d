-- Where the nodes of a tree stand in tree order: as one block, its children in their order.
use Rattle.std.proofs.Common.{◌≡◌, ℕ, zero, suc, ◌+◌, ◌<◌, ◌≤◌, nat_lt, true, false, [], ◌∷◌, ◌++◌, length, Some, None, refl, ap, sym, ◌∙◌, subst, arith, ◌⊎◌, inl, inr, ⊎_elim, length-append}
use Rattle.std.proofs.lemmas.Bool.{cases_lt, lt-ltb, le-ltb, cases_Bool}
use Rattle.dom_model.specs.Definitions.{hits, among, place_in, parent_in, Lies, Node, Forest, empty, node, Grove, occurs, one_at, size, tops, numbers, tree_at, entry_in, HasNode, parent_of, children_of, index_of, ancestors, IsForest}
use Rattle.dom_model.proofs.PlainLists.{Numbers.same_or, Numbers.same, Numbers.apart, Places.place-there}
use Rattle.dom_model.proofs.Forests.{Changes.seen, Changes.nothing, Changes.just, Totals.total-tree_at, Totals.tree_at-absent, Totals.beside-empty, Tops.hits-tops, TreeOrder.Flattened.hits-numbers, Climbing.ancestors-there, Climbing.hits-ancestors, Climbing.among-hits, Climbing.hits-among, Climbing.not_among-hits, Climbing.hits-self, Paths.parent-path, Paths.root-path, WaysMeeting.above-apart, WaysMeeting.above-higher, Indices.child-listed, Indices.index-child, Entries.occurs-HasNode, Entries.HasNode-occurs, Entries.Lies-entry_in, TreeOrder.Ordering.Single, TreeOrder.Ordering.single, TreeOrder.Ordering.tree_at-single, TreeOrder.Ordering.Lies-tree_at, TreeOrder.Preceding.place-front, Listed.place-behind}
use Rattle.dom_model.proofs.Traversal.IteratorsStay.{tree_at-inside}

module _ {X : Type 0} where
  pub length-numbers : (f : Forest X) → length (numbers f) ≡ size f
  length-numbers empty = refl
  length-numbers (node x kids rest) =
      omega (arith, length-append (numbers kids) (numbers rest), length-numbers kids, length-numbers rest)

-- the places of a tree's nodes: the tree's own, after the top's; all others stand before or behind
pub record IsBlock {X : Type 0} (p : ℕ) (f : Forest X) : Type 0 where
  pub inner : (m : ℕ) → 0 < occurs m (tree_at p f) → place_in m (numbers f) ≡ place_in p (numbers f) + place_in m (numbers (tree_at p f))
  pub outer : (b : ℕ) → 0 < occurs b f → occurs b (tree_at p f) ≡ 0 → (place_in b (numbers f) < place_in p (numbers f)) ⊎ (place_in p (numbers f) + size (tree_at p f) ≤ place_in b (numbers f))
  pub fits : place_in p (numbers f) + size (tree_at p f) ≤ size f

module _ {X : Type 0} (x : Node X) (kids rest : Forest X) where
  place-kids : (n : ℕ) → (x.number ≡ n → ⊥) → 0 < occurs n kids → place_in n (numbers (node x kids rest)) ≡ 1 + place_in n (numbers kids)
  place-kids n ne h =
      elim (same_or x.number n) [
        | same e t ↦ absurd (ne e)
        | apart _ t ↦ rw t (ap (λ i. 1 + i) (place-front n (numbers kids) (numbers rest) (omega (arith, hits-numbers n kids))))
      ]

  place-rest : (n : ℕ) → (x.number ≡ n → ⊥) → occurs n kids ≡ 0 → place_in n (numbers (node x kids rest)) ≡ 1 + (size kids + place_in n (numbers rest))
  place-rest n ne z =
      elim (same_or x.number n) [
        | same e t ↦ absurd (ne e)
        | apart _ t ↦ rw t (ap (λ i. 1 + i) (place-behind n (numbers kids) (numbers rest) (hits-numbers n kids ∙ z) ∙ ap (λ i. i + place_in n (numbers rest)) (length-numbers kids)))
      ]

  place-top : (n : ℕ) → x.number ≡ n → place_in n (numbers (node x kids rest)) ≡ 0
  place-top n e = elim (same_or x.number n) [ same _ t ↦ rw t refl | apart ne t ↦ absurd (ne e) ]

module _ {X : Type 0} where
  place-within : (n : ℕ) (f : Forest X) → 0 < occurs n f → place_in n (numbers f) < size f
  place-within n f h = omega (arith, place-there n (numbers f) (omega (arith, hits-numbers n f)), length-numbers f)

  block-top : (p : ℕ) (x : Node X) (kids rest : Forest X) → ((m : ℕ) → occurs m (node x kids rest) ≤ 1) → x.number ≡ p → IsBlock p (node x kids rest)
  block-top p x kids rest o e =
      record {
        inner = λ m h. rw (tree, place-top x kids rest p e) (let h2 : 0 < occurs m (node x kids empty) = rw tree at h in whole m h2);
        outer = λ b h z. (let z2 : occurs b (node x kids empty) ≡ 0 = rw tree at z in
            elim (same_or x.number b) [
              | same d t ↦ absurd (let z3 = rw t at z2 in omega arith)
              | apart ne t ↦
                  let z3 = rw t at z2 in
                  inr (rw (tree, place-top x kids rest p e) (omega (arith, place-rest x kids rest b ne (omega arith))))
            ]);
        fits = rw (tree, place-top x kids rest p e) (omega arith);
      }
    where
      gone : occurs p rest ≡ 0
      gone = elim (same_or x.number p) [ same _ t ↦ (let w = o p in let k = rw t at w in omega arith) | apart ne t ↦ absurd (ne e) ]

      tree : tree_at p (node x kids rest) ≡ node x kids empty
      tree = elim (same_or x.number p) [ same _ t ↦ rw t (rw (tree_at-absent p rest gone) refl) | apart ne t ↦ absurd (ne e) ]

      whole : (m : ℕ) → 0 < occurs m (node x kids empty) → place_in m (numbers (node x kids rest)) ≡ 0 + place_in m (numbers (node x kids empty))
      whole m h =
          elim (same_or x.number m) [
            | same d t ↦ place-top x kids rest m d ∙ sym (ap (λ i. 0 + i) (place-top x kids empty m d))
            | apart ne t ↦
                let k = rw t at h in
                omega (arith, place-kids x kids rest m ne (omega arith), place-kids x kids empty m ne (omega arith))
          ]

  block-kids : (p : ℕ) (x : Node X) (kids rest : Forest X) → ((m : ℕ) → occurs m (node x kids rest) ≤ 1) → (x.number ≡ p → ⊥) → 0 < occurs p kids → IsBlock p kids → IsBlock p (node x kids rest)
  block-kids p x kids rest o ne hp w =
      record {
        inner = λ m h. (let h2 : 0 < occurs m (tree_at p kids) = rw tree at h in
            let hm : 0 < occurs m kids = omega (arith, total-tree_at (one_at m) p kids) in
            rw tree (omega (arith, w.inner m h2, place-kids x kids rest m (far m hm) hm, at_p)));
        outer = λ b h z. (let z2 : occurs b (tree_at p kids) ≡ 0 = rw tree at z in
            elim (same_or x.number b) [
              | same d t ↦ inl (omega (arith, place-top x kids rest b d, at_p))
              | apart nb t ↦
                  let h2 = rw t at h in
                  ⊎_elim
                  (λ (lt : 0 < occurs b kids).
                  let pb = place-kids x kids rest b nb lt in
                  ⊎_elim
                  (λ (l : place_in b (numbers kids) < place_in p (numbers kids)). inl (omega (arith, pb, at_p)))
                  (λ (r : place_in p (numbers kids) + size (tree_at p kids) ≤ place_in b (numbers kids)). inr (rw tree (omega (arith, pb, at_p))))
                  (w.outer b lt z2))
                  (λ (le : occurs b kids ≤ 0). inr (rw tree (let f = w.fits in omega (arith, place-rest x kids rest b nb (omega arith), at_p))))
                  (cases_lt 0 (occurs b kids))
            ]);
        fits = rw tree (let f = w.fits in omega (arith, at_p));
      }
    where
      gone : occurs p rest ≡ 0
      gone = elim (same_or x.number p) [ same e t ↦ absurd (ne e) | apart _ t ↦ (let i = o p in let k = rw t at i in omega arith) ]

      tree : tree_at p (node x kids rest) ≡ tree_at p kids
      tree = elim (same_or x.number p) [ same e t ↦ absurd (ne e) | apart _ t ↦ rw t (rw (tree_at-absent p rest gone) (beside-empty (tree_at p kids))) ]

      at_p : place_in p (numbers (node x kids rest)) ≡ 1 + place_in p (numbers kids)
      at_p = place-kids x kids rest p ne hp

      far : (m : ℕ) → 0 < occurs m kids → x.number ≡ m → ⊥
      far m h e = elim (same_or x.number m) [ same _ t ↦ (let i = o m in let k = rw t at i in omega arith) | apart n t ↦ n e ]

  block-rest : (p : ℕ) (x : Node X) (kids rest : Forest X) → ((m : ℕ) → occurs m (node x kids rest) ≤ 1) → (x.number ≡ p → ⊥) → occurs p kids ≡ 0 → 0 < occurs p rest → IsBlock p rest → IsBlock p (node x kids rest)
  block-rest p x kids rest o ne zp hp w =
      record {
        inner = λ m h. (let h2 : 0 < occurs m (tree_at p rest) = rw tree at h in
            let hm : 0 < occurs m rest = omega (arith, total-tree_at (one_at m) p rest) in
            let f = far m hm in
            rw tree (omega (arith, w.inner m h2, place-rest x kids rest m f.0 f.1, at_p)));
        outer = λ b h z. (let z2 : occurs b (tree_at p rest) ≡ 0 = rw tree at z in
            elim (same_or x.number b) [
              | same d t ↦ inl (omega (arith, place-top x kids rest b d, at_p))
              | apart nb t ↦
                  let h2 = rw t at h in
                  ⊎_elim
                  (λ (lt : 0 < occurs b kids). inl (omega (arith, place-kids x kids rest b nb lt, place-within b kids lt, at_p)))
                  (λ (le : occurs b kids ≤ 0).
                  let pb = place-rest x kids rest b nb (omega arith) in
                  ⊎_elim
                  (λ (l : place_in b (numbers rest) < place_in p (numbers rest)). inl (omega (arith, pb, at_p)))
                  (λ (r : place_in p (numbers rest) + size (tree_at p rest) ≤ place_in b (numbers rest)). inr (rw tree (omega (arith, pb, at_p))))
                  (w.outer b (omega arith) z2))
                  (cases_lt 0 (occurs b kids))
            ]);
        fits = rw tree (let f = w.fits in omega (arith, at_p));
      }
    where
      tree : tree_at p (node x kids rest) ≡ tree_at p rest
      tree = elim (same_or x.number p) [ same e t ↦ absurd (ne e) | apart _ t ↦ rw t (rw (tree_at-absent p kids zp) refl) ]

      at_p : place_in p (numbers (node x kids rest)) ≡ 1 + (size kids + place_in p (numbers rest))
      at_p = place-rest x kids rest p ne zp

      far : (m : ℕ) → 0 < occurs m rest → (x.number ≡ m → ⊥) × (occurs m kids ≡ 0)
      far m h = elim (same_or x.number m) [ same _ t ↦ absurd (let i = o m in let k = rw t at i in omega arith) | apart n t ↦ (n, (let i = o m in let k = rw t at i in omega arith)) ]

  pub block : (p : ℕ) (f : Forest X) → ((m : ℕ) → occurs m f ≤ 1) → 0 < occurs p f → IsBlock p f
  block p empty o h = absurd (omega arith)
  block p (node x kids rest) o h =
      elim (same_or x.number p) [
        | same e t ↦ block-top p x kids rest o e
        | apart ne t ↦
            let k = rw t at h in
            ⊎_elim
            (λ (lt : 0 < occurs p kids). block-kids p x kids rest o ne lt (block p kids (λ m. let w = o m in omega arith) lt))
            (λ (le : occurs p kids ≤ 0). block-rest p x kids rest o ne (omega arith) (omega arith) (block p rest (λ m. let w = o m in omega arith) (omega arith)))
            (cases_lt 0 (occurs p kids))
      ]

  -- tops stand in tree order as in their list
  order-tops : (a b : ℕ) (f : Forest X) → ((m : ℕ) → occurs m f ≤ 1) → 0 < hits a (tops f) → 0 < hits b (tops f) → nat_lt (place_in a (numbers f)) (place_in b (numbers f)) ≡ nat_lt (place_in a (tops f)) (place_in b (tops f))
  order-tops a b empty o ha hb = absurd (omega arith)
  order-tops a b (node x kids rest) o ha hb =
      elim (same_or x.number a) [
        | same ea ta ↦
            elim (same_or x.number b) [
              | same eb tb ↦ rw (ta, tb) refl
              | apart nb tb ↦ rw (ta, tb) (lt-ltb 0 (1 + place_in b (numbers kids ++ numbers rest)) (omega arith) ∙ sym (lt-ltb 0 (1 + place_in b (tops rest)) (omega arith)))
            ]
        | apart na ta ↦
            elim (same_or x.number b) [
              | same eb tb ↦ rw (ta, tb) (le-ltb (1 + place_in a (numbers kids ++ numbers rest)) 0 (omega arith) ∙ sym (le-ltb (1 + place_in a (tops rest)) 0 (omega arith)))
              | apart nb tb ↦
                  let ka = rw ta at ha in
                  let kb = rw tb at hb in
                  let oa = o a in
                  let ob = o b in
                  let wa = rw ta at oa in
                  let wb = rw tb at ob in
                  let za : occurs a kids ≡ 0 = omega (arith, hits-tops a rest) in
                  let zb : occurs b kids ≡ 0 = omega (arith, hits-tops b rest) in
                  let pa = place-behind a (numbers kids) (numbers rest) (hits-numbers a kids ∙ za) in
                  let pb = place-behind b (numbers kids) (numbers rest) (hits-numbers b kids ∙ zb) in
                  let ih = order-tops a b rest (λ m. let w = o m in omega arith) (omega arith) (omega arith) in
                  rw (ta, tb, pa, pb)
                  (shifted (1 + length (numbers kids)) (place_in a (numbers rest)) (place_in b (numbers rest)) (1 + (length (numbers kids) + place_in a (numbers rest))) (1 + (length (numbers kids) + place_in b (numbers rest))) (omega arith) (omega arith)
                  ∙ ih ∙ sym (shifted 1 (place_in a (tops rest)) (place_in b (tops rest)) (1 + place_in a (tops rest)) (1 + place_in b (tops rest)) (omega arith) (omega arith)))
            ]
      ]
    where
      shifted : (k m n m2 n2 : ℕ) → m2 ≡ k + m → n2 ≡ k + n → nat_lt m2 n2 ≡ nat_lt m n
      shifted k m n m2 n2 em en =
          ⊎_elim
          (λ (lt : m < n). lt-ltb m2 n2 (omega arith) ∙ sym (lt-ltb m n lt))
          (λ (le : n ≤ m). le-ltb m2 n2 (omega arith) ∙ sym (le-ltb m n le))
          (cases_lt m n)

same_order : (a b c d : ℕ) → (a < b → c < d) → (b ≤ a → d ≤ c) → nat_lt a b ≡ nat_lt c d
same_order a b c d h k =
    ⊎_elim
    (λ (lt : a < b). lt-ltb a b lt ∙ sym (lt-ltb c d (h lt)))
    (λ (le : b ≤ a). le-ltb a b le ∙ sym (le-ltb c d (k le)))
    (cases_lt a b)

module _ {X : Type 0} {g : Grove X} (s : IsForest g) where
  there : (n : ℕ) → HasNode g.forest n → 0 < occurs n g.forest
  there n h = occurs-HasNode g.forest n h

  within : (n m : ℕ) → among n (ancestors m g.forest) ≡ true → 0 < occurs m (tree_at n g.forest)
  within n m h = omega (arith, hits-ancestors n m g.forest s.once, among-hits n (ancestors m g.forest) h)

  -- an ancestor is there
  pub top-there : (n m : ℕ) → among n (ancestors m g.forest) ≡ true → HasNode g.forest n
  top-there n m h =
      HasNode-occurs g.forest n (⊎_elim
      (λ (lt : 0 < occurs n g.forest). lt)
      (λ (le : occurs n g.forest ≤ 0). absurd (let z : tree_at n g.forest ≡ empty = tree_at-absent n g.forest (omega arith) in let w = within n m h in let w2 = rw z at w in omega arith))
      (cases_lt 0 (occurs n g.forest)))

  outside : (n m : ℕ) → among n (ancestors m g.forest) ≡ false → occurs m (tree_at n g.forest) ≡ 0
  outside n m h = sym (hits-ancestors n m g.forest s.once) ∙ not_among-hits n (ancestors m g.forest) h

  -- a node of a tree stands, to a node outside, as the tree's top does
  pub order-left : (p m b : ℕ) → HasNode g.forest p → among p (ancestors m g.forest) ≡ true → HasNode g.forest b → among p (ancestors b g.forest) ≡ false → nat_lt (place_in p (numbers g.forest)) (place_in b (numbers g.forest)) ≡ nat_lt (place_in m (numbers g.forest)) (place_in b (numbers g.forest))
  order-left p m b hp hm hb nb =
      let w = block p g.forest s.once (there p hp) in
      let i = w.inner m (within p m hm) in
      let j = place-within m (tree_at p g.forest) (within p m hm) in
      ⊎_elim
      (λ (l : place_in b (numbers g.forest) < place_in p (numbers g.forest)). same_order _ _ _ _ (λ lt. omega arith) (λ le. omega arith))
      (λ (r : place_in p (numbers g.forest) + size (tree_at p g.forest) ≤ place_in b (numbers g.forest)). same_order _ _ _ _ (λ lt. omega arith) (λ le. omega arith))
      (w.outer b (there b hb) (outside p b nb))

  pub order-right : (p m b : ℕ) → HasNode g.forest p → among p (ancestors m g.forest) ≡ true → HasNode g.forest b → among p (ancestors b g.forest) ≡ false → nat_lt (place_in b (numbers g.forest)) (place_in p (numbers g.forest)) ≡ nat_lt (place_in b (numbers g.forest)) (place_in m (numbers g.forest))
  order-right p m b hp hm hb nb =
      let w = block p g.forest s.once (there p hp) in
      let i = w.inner m (within p m hm) in
      let j = place-within m (tree_at p g.forest) (within p m hm) in
      ⊎_elim
      (λ (l : place_in b (numbers g.forest) < place_in p (numbers g.forest)). same_order _ _ _ _ (λ lt. omega arith) (λ le. omega arith))
      (λ (r : place_in p (numbers g.forest) + size (tree_at p g.forest) ≤ place_in b (numbers g.forest)). same_order _ _ _ _ (λ lt. omega arith) (λ le. omega arith))
      (w.outer b (there b hb) (outside p b nb))

  -- an ancestor comes first
  pub order-above : (p m : ℕ) → HasNode g.forest p → among p (ancestors m g.forest) ≡ true → (p ≡ m → ⊥) → place_in p (numbers g.forest) < place_in m (numbers g.forest)
  order-above p m hp hm ne =
      let w = block p g.forest s.once (there p hp) in
      omega (arith, w.inner m (within p m hm), first (tree_at-single p g.forest (omega (arith, there p hp, s.once p))))
    where
      first : Single p (tree_at p g.forest) → 0 < place_in m (numbers (tree_at p g.forest))
      first (single x kids e t) = rw t (elim (same_or x.number m) [ same d v ↦ absurd (ne (sym e ∙ d)) | apart _ v ↦ rw v (omega arith) ])

  -- children of one parent stand in tree order as by their indices
  pub order-children : (q a b : ℕ) → HasNode g.forest a → HasNode g.forest b → parent_of g.forest a ≡ Some q → parent_of g.forest b ≡ Some q → nat_lt (index_of g.forest a) (index_of g.forest b) ≡ nat_lt (place_in a (numbers g.forest)) (place_in b (numbers g.forest))
  order-children q a b ha hb pa pb = from (tree_at-single q g.forest (omega (arith, hq, s.once q)))
    where
      hq : 0 < occurs q g.forest
      hq = (parent-path g.forest s.once a q (there a ha) pa).0

      la : 0 < hits a (children_of g.forest q)
      la = child-listed g.forest s.once a q (there a ha) pa

      lb : 0 < hits b (children_of g.forest q)
      lb = child-listed g.forest s.once b q (there b hb) pb

      from : Single q (tree_at q g.forest) → nat_lt (index_of g.forest a) (index_of g.forest b) ≡ nat_lt (place_in a (numbers g.forest)) (place_in b (numbers g.forest))
      from (single x kids e t) =
          let l = subst (λ (u : Forest X). Lies (entry_in g.forest) (parent_in (entry_in g.forest q)) u) t (Lies-tree_at (entry_in g.forest) q None g.forest (Lies-entry_in g.forest s.once)) in
          let c : children_of g.forest q ≡ tops kids = subst (λ k. children_of g.forest k ≡ tops kids) e (rw l.0 refl) in
          let ot : (k : ℕ) → occurs k (node x kids empty) ≤ 1 = λ k. subst (λ (u : Forest X). occurs k u ≤ 1) t (omega (arith, total-tree_at (one_at k) q g.forest, s.once k)) in
          let ta : 0 < hits a (tops kids) = rw c at la in
          let tb : 0 < hits b (tops kids) = rw c at lb in
          let ka : 0 < occurs a kids = omega (arith, hits-tops a kids) in
          let kb : 0 < occurs b kids = omega (arith, hits-tops b kids) in
          let w = block q g.forest s.once hq in
          let ia : 0 < occurs a (tree_at q g.forest) = rw t (omega arith) in
          let ib : 0 < occurs b (tree_at q g.forest) = rw t (omega arith) in
          let wa = w.inner a ia in
          let wb = w.inner b ib in
          let sa = ap (λ (u : Forest X). place_in a (numbers u)) t ∙ place-kids x kids empty a (far ot a ka) ka in
          let sb = ap (λ (u : Forest X). place_in b (numbers u)) t ∙ place-kids x kids empty b (far ot b kb) kb in
          (λ i. nat_lt (index-child g.forest a q pa i) (index-child g.forest b q pb i))
          ∙ (λ i. nat_lt (place_in a (c i)) (place_in b (c i)))
          ∙ sym (order-tops a b kids (λ k. let z = ot k in omega arith) ta tb)
          ∙ same_order _ _ _ _ (λ lt. omega (arith, wa, wb, sa, sb)) (λ le. omega (arith, wa, wb, sa, sb))
        where
          far : ((k : ℕ) → occurs k (node x kids empty) ≤ 1) → (m : ℕ) → 0 < occurs m kids → x.number ≡ m → ⊥
          far o m h d = elim (same_or x.number m) [ same _ v ↦ (let i = o m in let k = rw v at i in omega arith) | apart n v ↦ n d ]

  -- another ancestor is higher
  deeper : (fuel p n : ℕ) → length (ancestors n g.forest) ≤ fuel → HasNode g.forest n → among p (ancestors n g.forest) ≡ true → (p ≡ n → ⊥) → length (ancestors p g.forest) < length (ancestors n g.forest)
  deeper zero p n b h a ne = absurd (let i = ancestors-there n g.forest (there n h) in let k : length (ancestors n g.forest) ≡ length (n ∷ i.0) = ap length i.1 in omega arith)
  deeper (suc less) p n b h a ne =
      elim (seen (parent_of g.forest n)) [
        | nothing e ↦
            let r = root-path g.forest s.once n (there n h) e in
            absurd (let k : among p (n ∷ []) ≡ true = subst (λ l. among p l ≡ true) r a in let j = among-hits p (n ∷ []) k in elim (same_or n p) [ same d _ ↦ ne (sym d) | apart _ t ↦ (let j2 = rw t at j in omega arith) ])
        | just q e ↦
            let r = parent-path g.forest s.once n q (there n h) e in
            let long : length (ancestors n g.forest) ≡ suc (length (ancestors q g.forest)) = ap length r.1 in
            let k : 0 < hits p (n ∷ ancestors q g.forest) = among-hits p (n ∷ ancestors q g.forest) (subst (λ l. among p l ≡ true) r.1 a) in
            elim (same_or n p) [
              | same d _ ↦ absurd (ne (sym d))
              | apart _ t ↦
                  let k2 = rw t at k in
                  elim (same_or p q) [
                    | same d _ ↦ omega (arith, long, ap (λ m. length (ancestors m g.forest)) d)
                    | apart nq _ ↦ omega (arith, long, deeper less p q (omega arith) (HasNode-occurs g.forest q r.0) (hits-among p (ancestors q g.forest) (omega arith)) nq)
                  ]
            ]
      ]

  pub higher : (p n : ℕ) → HasNode g.forest n → among p (ancestors n g.forest) ≡ true → (p ≡ n → ⊥) → length (ancestors p g.forest) < length (ancestors n g.forest)
  higher p n = deeper (length (ancestors n g.forest)) p n (omega arith)

  -- an inclusive ancestor's ancestors are one's own
  pub among-through : (p q n : ℕ) → among q (ancestors n g.forest) ≡ true → among p (ancestors q g.forest) ≡ true → among p (ancestors n g.forest) ≡ true
  among-through p q n a b =
      let i = within q n a in
      let j = within p q b in
      let e = tree_at-inside q p g.forest s.once j in
      let k : 0 < occurs n (tree_at q (tree_at p g.forest)) = rw e i in
      hits-among p (ancestors n g.forest) (omega (arith, hits-ancestors p n g.forest s.once, total-tree_at (one_at n) q (tree_at p g.forest)))

  pub among-self : (n : ℕ) → HasNode g.forest n → among n (ancestors n g.forest) ≡ true
  among-self n h = hits-among n (ancestors n g.forest) (hits-self n n g.forest refl (there n h))

  pub among-parent : (n q : ℕ) → HasNode g.forest n → parent_of g.forest n ≡ Some q → among q (ancestors n g.forest) ≡ true
  among-parent n q h e =
      let r = parent-path g.forest s.once n q (there n h) e in
      let k = hits-self q q g.forest refl r.0 in
      hits-among q (ancestors n g.forest) (subst (λ l. 0 < hits q l) (sym r.1) (omega (arith, k)))

  not_above : (p q : ℕ) → HasNode g.forest q → (p ≡ q → ⊥) → length (ancestors p g.forest) ≡ length (ancestors q g.forest) → among p (ancestors q g.forest) ≡ false
  not_above p q h ne e =
      elim (cases_Bool (among p (ancestors q g.forest))) [
        | inl t ↦ absurd (let k = higher p q h t ne in omega arith)
        | inr t ↦ t
      ]

  pub depth-child : (n q : ℕ) → HasNode g.forest n → parent_of g.forest n ≡ Some q → (length (ancestors n g.forest) ≡ suc (length (ancestors q g.forest))) × HasNode g.forest q
  depth-child n q h e = (let r = parent-path g.forest s.once n q (there n h) e in (ap length r.1, HasNode-occurs g.forest q r.0))

  -- two nodes below two children of one node stand as these do
  pub met-beside : (a b q l r : ℕ) → HasNode g.forest a → HasNode g.forest b → parent_of g.forest l ≡ Some q → parent_of g.forest r ≡ Some q → among l (ancestors a g.forest) ≡ true → among r (ancestors b g.forest) ≡ true → (l ≡ r → ⊥) → nat_lt (index_of g.forest l) (index_of g.forest r) ≡ nat_lt (place_in a (numbers g.forest)) (place_in b (numbers g.forest))
  met-beside a b q l r ha hb el er la rb ne =
      order-children q l r hl hr el er
      ∙ order-right r b l hr rb hl (not_above r l hl (λ d. ne (sym d)) (sym level))
      ∙ order-left l a b hl la hb aside
    where
      hl : HasNode g.forest l
      hl = top-there l a la

      hr : HasNode g.forest r
      hr = top-there r b rb

      level : length (ancestors l g.forest) ≡ length (ancestors r g.forest)
      level = omega (arith, (depth-child l q hl el).0, (depth-child r q hr er).0)

      aside : among l (ancestors b g.forest) ≡ false
      aside =
          elim (cases_Bool (among l (ancestors b g.forest))) [
            | inl t ↦ absurd (ne (above-apart g.forest s.once l r b (there b hb) (there l hl) (there r hr) (among-hits l (ancestors b g.forest) t) (among-hits r (ancestors b g.forest) rb) level))
            | inr t ↦ t
          ]

  -- a node stands ahead of those below a child of it
  pub met-above : (a b c : ℕ) → HasNode g.forest b → among a (ancestors b g.forest) ≡ true → parent_of g.forest c ≡ Some a → among c (ancestors b g.forest) ≡ true → true ≡ nat_lt (place_in a (numbers g.forest)) (place_in b (numbers g.forest))
  met-above a b c hb ab e cb =
      sym (lt-ltb (place_in a (numbers g.forest)) (place_in b (numbers g.forest)) (order-above a b (top-there a b ab) ab apart_from))
    where
      apart_from : a ≡ b → ⊥
      apart_from d =
          let low = above-higher g.forest s.once c b (there b hb) (among-hits c (ancestors b g.forest) cb) in
          omega (arith, low, (depth-child c a (top-there c b cb) e).0, ap (λ m. length (ancestors m g.forest)) d)

  -- and not behind one above it
  pub met-below : (a b : ℕ) → HasNode g.forest a → among b (ancestors a g.forest) ≡ true → false ≡ nat_lt (place_in a (numbers g.forest)) (place_in b (numbers g.forest))
  met-below a b ha ba =
      sym (le-ltb (place_in a (numbers g.forest)) (place_in b (numbers g.forest)) (elim (same_or b a) [
        | same d _ ↦ omega (arith, ap (λ m. place_in m (numbers g.forest)) d)
        | apart ne _ ↦ omega (arith, order-above b a (top-there b a ba) ba ne)
      ]))
