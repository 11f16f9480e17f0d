-- A tree let go of leaf by leaf.
use Rattle.std.proofs.Common.{◌≡◌, ℕ, ◌+◌, ◌<◌, ◌≤◌, Bool, true, false, ◌||◌, List, [], ◌∷◌, ◌++◌, length, Option, Some, None, is_some, refl, ap, sym, ◌∙◌, subst, arith, append-nil, ⊎_elim}
use Rattle.std.proofs.lemmas.Bool.{cases_lt, false≢true}
use Rattle.dom_model.specs.Definitions.{hits, among, last_of, left_out, Entry, parent_in, children_in, Lies, Node, Forest, empty, node, Grove, occurs, one_at, size, tops, numbers, tree_at, without, cut, entry_in, HasNode, parent_of, children_of, ancestors, inclusive_descendants, IsForest, is_held_outside}
use Rattle.dom_model.proofs.PlainLists.{Numbers.same_or, Numbers.same, Numbers.apart, Members.hits-last_of}
use Rattle.dom_model.proofs.Forests.{Changes.seen, Changes.nothing, Changes.just, Totals.total-tree_at, Totals.total-cut, Totals.without-absent, Tops.tops-without, Tops.hits-tops, TreeOrder.Flattened.hits-numbers, Paths.parent-path, Paths.root-path, Climbing.hits-ancestors, Climbing.among-hits, Climbing.hits-among, Entries.occurs-HasNode, Entries.HasNode-occurs, Entries.Lies-entry_in, Entries.parent-cut, Entries.children-cut, Undone.without-cut, Rooted.rooted-tops, ToTheRoot.rooted-parent, TreeOrder.Ordering.Lies-tree_at}
use Rattle.dom_model.proofs.BoundaryPoints.RootsKept.{last_of-behind}
use Rattle.dom_tree.proofs.TreeOrder.{higher, among-self, among-through, among-parent}

module _ {X : Type 0} where
  -- two trees are left out in either order
  without-both : (m n : ℕ) (f : Forest X) → without m (without n f) ≡ without n (without m f)
  without-both m n empty = refl
  without-both m n (node x kids rest) =
      elim (same_or x.number n) [
        | same _ tn ↦
            elim (same_or x.number m) [
              | same _ tm ↦ rw (tn, tm) (without-both m n rest)
              | apart _ tm ↦ rw (tn, tm, tn) (without-both m n rest)
            ]
        | apart _ tn ↦
            elim (same_or x.number m) [
              | same _ tm ↦ rw (tn, tm) (without-both m n rest)
              | apart _ tm ↦ rw (tn, tm, tn) (λ i. node x (without-both m n kids i) (without-both m n rest i))
            ]
      ]

  -- the last in tree order has no child
  last-bare : (at : ℕ → Option (Entry (Node X))) (q : Option ℕ) (f : Forest X) (m : ℕ) → Lies at q f → last_of (numbers f) ≡ Some m → children_in (at m) ≡ []
  last-bare at q empty m l e = absurd (cc e)
  last-bare at q (node x empty empty) m l e =
      let d : x.number ≡ m = cc e in
      subst (λ k. children_in (at k) ≡ []) d (rw l.0 refl)
  last-bare at q (node x (node y ks r) empty) m l e =
      last-bare at (Some x.number) (node y ks r) m l.1 (sym (last_of-behind (x.number ∷ []) y.number (numbers ks ++ numbers r)) ∙ ap (λ k. last_of (x.number ∷ k)) (sym (append-nil (numbers (node y ks r)))) ∙ e)
  last-bare at q (node x kids (node y ks r)) m l e =
      last-bare at q (node y ks r) m l.2 (sym (last_of-behind (x.number ∷ numbers kids) y.number (numbers ks ++ numbers r)) ∙ e)

-- how far a tree has been let go of
pub record IsFreeing {X : Type 0} (start now : Grove X) (top here : ℕ) : Type 0 where
  pub made : now.made ≡ start.made
  pub rest : without top now.forest ≡ without top start.forest
  pub there : among top (ancestors here now.forest) ≡ true
  pub held : HasNode now.forest here
  pub root : 0 < hits top (tops now.forest)
  pub sound : IsForest now

module _ {X : Type 0} {g : Grove X} (s : IsForest g) where
  pub tops-root : (n : ℕ) → 0 < hits n (tops g.forest) → parent_of g.forest n ≡ None
  tops-root n h =
      rooted-parent (entry_in g.forest n) (let o = hits-tops n g.forest in omega (arith, rooted-tops (entry_in g.forest) g.forest n (Lies-entry_in g.forest s.once) (s.once n) (omega arith)))

  pub root-tops : (n : ℕ) → HasNode g.forest n → parent_of g.forest n ≡ None → 0 < hits n (tops g.forest)
  root-tops n h p =
      elim (seen (entry_in g.forest n)) [
        | nothing e ↦ absurd (let k = rw e at h in false≢true k)
        | just d e ↦
            let k = rooted-tops (entry_in g.forest) g.forest n (Lies-entry_in g.forest s.once) (s.once n) (occurs-HasNode g.forest n h) in
            let p2 : d.parent ≡ None = rw e at p in
            let k2 = rw (e, p2) at k in
            omega (arith, k2)
      ]

  pub freeing-start : (top : ℕ) → HasNode g.forest top → is_held_outside g.forest top ≡ false → IsFreeing g g top top
  freeing-start top h e =
      record {
        made = refl;
        rest = refl;
        there = among-self s top h;
        held = h;
        root = root-tops top h (none (parent_of g.forest top) _ e);
        sound = s;
      }
    where
      none : (o : Option ℕ) (b : Bool) → (is_some o || b) ≡ false → o ≡ None
      none None b z = refl
      none (Some n) b z = absurd (false≢true (sym z))

module _ {X : Type 0} {start g : Grove X} {top here : ℕ} (w : IsFreeing start g top here) (leaf : ℕ) (last : Some leaf ≡ last_of (inclusive_descendants g.forest here)) where
  s : IsForest g
  s = w.sound

  inner : 0 < occurs leaf (tree_at here g.forest)
  inner = (let h = hits-last_of (numbers (tree_at here g.forest)) leaf (sym last) in omega (arith, h, hits-numbers leaf (tree_at here g.forest)))

  pub leaf-held : HasNode g.forest leaf
  leaf-held = HasNode-occurs g.forest leaf (omega (arith, inner, total-tree_at (one_at leaf) here g.forest))

  under : among here (ancestors leaf g.forest) ≡ true
  under = hits-among here (ancestors leaf g.forest) (omega (arith, hits-ancestors here leaf g.forest s.once, inner))

  below_top : among top (ancestors leaf g.forest) ≡ true
  below_top = among-through s top here leaf under w.there

  pub leaf-bare : children_of g.forest leaf ≡ []
  leaf-bare =
      last-bare (entry_in g.forest) (parent_in (entry_in g.forest here)) (tree_at here g.forest) leaf (Lies-tree_at (entry_in g.forest) here None g.forest (Lies-entry_in g.forest s.once)) (sym last)

  -- where the leaf is a root, it is the top
  module _ (root : parent_of g.forest leaf ≡ None) where
    is_top : leaf ≡ top
    is_top =
        let r = root-path g.forest s.once leaf (occurs-HasNode g.forest leaf leaf-held) root in
        let k : 0 < hits top (leaf ∷ []) = among-hits top (leaf ∷ []) (subst (λ l. among top l ≡ true) r below_top) in
        elim (same_or leaf top) [ same d _ ↦ d | apart _ t ↦ absurd (let k2 = rw t at k in omega arith) ]

    pub freeing-end : (h : Grove X) → ◌≡◌ {A = Grove X} h (record { forest = without leaf g.forest; made = g.made }) → ◌≡◌ {A = Grove X} h (record { forest = without top start.forest; made = start.made })
    freeing-end h e = e ∙ (λ i. record { forest = (ap (λ m. without m g.forest) is_top ∙ w.rest) i; made = w.made i })

  -- and else its parent is next
  module _ (p : ℕ) (up : parent_of g.forest leaf ≡ Some p) (c : Grove X) (ec : ◌≡◌ {A = Grove X} c (record { forest = cut leaf g.forest; made = g.made })) where
    pub leaf-cut_held : HasNode c.forest leaf
    leaf-cut_held = subst (λ (h : Grove X). HasNode h.forest leaf) (sym ec) (HasNode-occurs (cut leaf g.forest) leaf (omega (arith, total-cut (one_at leaf) leaf g.forest, occurs-HasNode g.forest leaf leaf-held)))

    pub leaf-cut_root : parent_of c.forest leaf ≡ None
    leaf-cut_root = ap (λ (h : Grove X). parent_of h.forest leaf) ec ∙ parent-cut g.forest s.once leaf leaf ∙ (elim (same_or leaf leaf) [ same _ t ↦ rw t refl | apart ne t ↦ absurd (ne refl) ])

    pub leaf-cut_bare : children_of c.forest leaf ≡ []
    leaf-cut_bare = ap (λ (h : Grove X). children_of h.forest leaf) ec ∙ children-cut g.forest s.once leaf leaf ∙ ap (left_out leaf) leaf-bare

    module _ (h : Grove X) (eh : ◌≡◌ {A = Grove X} h (record { forest = without leaf c.forest; made = c.made })) (sh : IsForest h) where
      forest_is : h.forest ≡ without leaf g.forest
      forest_is = ap (λ (d : Grove X). d.forest) eh ∙ ap (λ (d : Grove X). without leaf d.forest) ec ∙ without-cut leaf g.forest

      apart_top : leaf ≡ top → ⊥
      apart_top d = (let z : None ≡ Some p = sym (tops-root s top w.root) ∙ ap (parent_of g.forest) (sym d) ∙ up in cc z)

      p_held : 0 < occurs p g.forest
      p_held = (parent-path g.forest s.once leaf p (occurs-HasNode g.forest leaf leaf-held) up).0

      p_under : among top (ancestors p g.forest) ≡ true
      p_under =
          let r = (parent-path g.forest s.once leaf p (occurs-HasNode g.forest leaf leaf-held) up).1 in
          let k : 0 < hits top (leaf ∷ ancestors p g.forest) = among-hits top (leaf ∷ ancestors p g.forest) (subst (λ l. among top l ≡ true) r below_top) in
          elim (same_or leaf top) [ same d _ ↦ absurd (apart_top d) | apart _ t ↦ (let k2 = rw t at k in hits-among top (ancestors p g.forest) (omega arith)) ]

      p_outside : occurs p (tree_at leaf g.forest) ≡ 0
      p_outside =
          ⊎_elim
          (λ (lt : 0 < occurs p (tree_at leaf g.forest)).
          let a : among leaf (ancestors p g.forest) ≡ true = hits-among leaf (ancestors p g.forest) (omega (arith, hits-ancestors leaf p g.forest s.once)) in
          let b = among-parent s leaf p leaf-held up in
          let ne : leaf ≡ p → ⊥ = λ d. own d in
          let k1 = higher s leaf p (HasNode-occurs g.forest p p_held) a ne in
          let k2 = higher s p leaf leaf-held b (λ d. ne (sym d)) in
          absurd (omega arith))
          (λ (le : occurs p (tree_at leaf g.forest) ≤ 0). omega arith)
          (cases_lt 0 (occurs p (tree_at leaf g.forest)))
        where
          own : leaf ≡ p → ⊥
          own d =
              let r = (parent-path g.forest s.once leaf p (occurs-HasNode g.forest leaf leaf-held) up).1 in
              omega (arith, ap length r, ap (λ m. length (ancestors m g.forest)) d)

      p_there : occurs p h.forest ≡ 1
      p_there = ap (occurs p) forest_is ∙ (omega (arith, total-tree_at (one_at p) leaf g.forest, p_outside, p_held, s.once p))

      rest_is : without top h.forest ≡ without top g.forest
      rest_is = ap (without top) forest_is ∙ without-both top leaf g.forest ∙ without-absent leaf (without top g.forest) gone
        where
          gone : occurs leaf (without top g.forest) ≡ 0
          gone = omega (arith, total-tree_at (one_at leaf) top g.forest, s.once leaf, hits-ancestors top leaf g.forest s.once, among-hits top (ancestors leaf g.forest) below_top)

      p_inside : occurs p (tree_at top h.forest) ≡ 1
      p_inside =
          let a : occurs p (tree_at top h.forest) + occurs p (without top h.forest) ≡ occurs p h.forest = total-tree_at (one_at p) top h.forest in
          let b : occurs p (without top h.forest) ≡ occurs p (without top g.forest) = ap (occurs p) rest_is in
          let c2 : occurs p (without top g.forest) ≡ 0 = omega (arith, total-tree_at (one_at p) top g.forest, s.once p, hits-ancestors top p g.forest s.once, among-hits top (ancestors p g.forest) p_under) in
          omega (arith, a, b, c2, p_there)

      pub freeing-next : IsFreeing start h top p
      freeing-next =
          record {
            made = ap (λ (d : Grove X). d.made) eh ∙ ap (λ (d : Grove X). d.made) ec ∙ w.made;
            rest = rest_is ∙ w.rest;
            there = hits-among top (ancestors p h.forest) (omega (arith, hits-ancestors top p h.forest sh.once, p_inside));
            held = HasNode-occurs h.forest p (omega (arith, p_there));
            root = rw (forest_is, tops-without leaf g.forest) (still (tops g.forest) w.root);
            sound = sh;
          }
        where
          still : (l : List ℕ) → 0 < hits top l → 0 < hits top (left_out leaf l)
          still [] k = k
          still (x ∷ xs) k =
              elim (same_or x leaf) [
                | same d t ↦
                    let far : x ≡ top → ⊥ = λ e2. apart_top (sym d ∙ e2) in
                    rw t (elim (same_or x top) [ same e2 _ ↦ absurd (far e2) | apart _ v ↦ (let k2 = rw v at k in still xs (omega arith)) ])
                | apart ne t ↦
                    rw t (elim (same_or x top) [ same e2 v ↦ rw v (omega arith) | apart _ v ↦ (let k2 = rw v at k in rw v (let i = still xs (omega arith) in omega arith)) ])
              ]

      pub freeing-smaller : size h.forest < size g.forest
      freeing-smaller = rw forest_is (omega (arith, total-tree_at (λ _. 1) leaf g.forest, some_size (tree_at leaf g.forest) (omega (arith, hits-ancestors leaf leaf g.forest s.once, among-hits leaf (ancestors leaf g.forest) (among-self s leaf leaf-held)))))
        where
          some_size : (f : Forest X) → 0 < occurs leaf f → 0 < size f
          some_size empty k = k
          some_size (node x kids rest) k = omega arith
