-- A split of a Text, with the new Text that comes in after it, keeps the order of the points of each root.
use Rattle.std.proofs.Common.{◌≡◌, ℕ, zero, suc, ◌+◌, ◌<◌, ◌≤◌, ◌==◌, true, false, [], length, Option, Some, None, refl, ap, sym, ◌∙◌, subst, arith}
use Rattle.std.proofs.lemmas.{Bool.Decides.nat_tests, Bool.eq-eqb, Bool.ne_eqb}
use Rattle.dom_model.specs.Definitions.{hits, is_number, place_in, Forest, occurs, tree_at, put, parent_of, children_of, next_of, index_of, ancestors, root_of, Point, order_of, after_gap, after_split, after_splice}
use Rattle.dom_model.proofs.PlainLists.Places.{place_before, place-entered}
use Rattle.dom_model.proofs.Forests.{Changes.seen, Changes.nothing, Changes.just, Climbing.hits-ancestors, Climbing.ancestors-there, Entries.parent-put, Entries.children-put, Paths.parent-path, Paths.root-path, Paths.put-once, Paths.put-there, Indices.child-listed, Indices.child-parent, Indices.index-child, Indices.index-put, Siblings.place-next, Siblings.next-listed}
use Rattle.dom_model.proofs.BoundaryPoints.{PointOrder.gap-node, GapOrder.gap-order_kept, RootsKept.one_root-put, SplitInPlace.split-in_place}

-- where a point goes as the Text `at` of (parent, index) is split
abbrev pub split_point : ℕ → ℕ → ℕ → ℕ → ℕ → Point → Point
split_point at offset new parent index q = after_split at offset new parent index (after_gap parent (index + 1) 1 q)

-- no point goes to the gap that comes in
gap-free : (p index n a : ℕ) → (n == p) ≡ true → (after_gap p index 1 (record { node = n; offset = a })).offset ≡ index + 1 → ⊥
gap-free p index n a t e = grind (arith, nat_tests)

-- the tail that then leaves the Text moves no point
pub tail-settled : (at offset new parent index count : ℕ) → (new ≡ at → ⊥) → (parent ≡ at → ⊥) → (q : Point) → after_splice at offset count 0 (split_point at offset new parent index q) ≡ split_point at offset new parent index q
tail-settled at offset new parent index count far above q = grind (arith, nat_tests)

module _ {X : Type 0} where
  -- the tree of a node without children is the node
  pub inside-childless : (f : Forest X) → ((m : ℕ) → occurs m f ≤ 1) → (c n : ℕ) → children_of f c ≡ [] → 0 < occurs n f → (n ≡ c → ⊥) → occurs n (tree_at c f) ≡ 0
  inside-childless f o c n bare h ne =
      let no : 0 < hits c (ancestors n f) → ⊥ = λ lt. go (length (ancestors n f)) n (omega arith) h ne lt in
      omega (arith, hits-ancestors c n f o)
    where
      go : (k m : ℕ) → length (ancestors m f) ≤ k → 0 < occurs m f → (m ≡ c → ⊥) → 0 < hits c (ancestors m f) → ⊥
      go zero m l hm far hits_c = (let i = ancestors-there m f hm in let j = rw i.1 at l in omega arith)
      go (suc k) m l hm far hits_c =
          elim (seen (parent_of f m)) [
            | nothing e ↦ (let j = rw (root-path f o m hm e) at hits_c in grind (arith, nat_tests))
            | just q e ↦
                let i = parent-path f o m q hm e in
                let s = rw i.1 at l in
                let j = rw i.1 at hits_c in
                let there : q ≡ c → ⊥ = λ d. let x = rw (ap (children_of f) d ∙ bare) at (child-listed f o m q hm e) in omega arith in
                go k q (omega arith) i.0 there (grind (arith, nat_tests))
          ]

  module _ (f : Forest X) (o : (m : ℕ) → occurs m f ≤ 1) (p at c offset : ℕ) (hat : 0 < occurs at f) (hc : 0 < occurs c f) (pat : parent_of f at ≡ Some p) (root : parent_of f c ≡ None) (bare : children_of f at ≡ []) (bare_new : children_of f c ≡ []) where
    hp : 0 < occurs p f
    hp = (parent-path f o at p hat pat).0

    with_child : p ≡ c → ⊥
    with_child d = let j = rw (ap (children_of f) d ∙ bare_new) at (child-listed f o at p hat pat) in omega arith

    z : occurs p (tree_at c f) ≡ 0
    z = inside-childless f o c p bare_new hp with_child

    not_listed : hits c (children_of f p) ≡ 0
    not_listed = let no : 0 < hits c (children_of f p) → ⊥ = λ lt. let w : None ≡ Some p = sym root ∙ child-parent f o c p lt in cc w in omega arith

    other : is_number (next_of f at) c ≡ false
    other = go (next_of f at) (next-listed f o at p hat pat)
      where
        go : (b : Option ℕ) → ((m : ℕ) → b ≡ Some m → 0 < hits m (children_of f p)) → is_number b c ≡ false
        go None there = refl
        go (Some m) there = ne_eqb m c (λ e. let h = there m refl in let k : hits m (children_of f p) ≡ 0 = ap (λ x. hits x (children_of f p)) e ∙ not_listed in omega arith)

    here : place_before (next_of f at) (children_of f p) ≡ index_of f at + 1
    here = place-next f o at p hat pat

    far : (at == c) ≡ false
    far = ne_eqb at c (λ e. let w : Some p ≡ None = sym pat ∙ ap (parent_of f) e ∙ root in cc w)

    -- the Text keeps its index, and the new one has the next
    pub index-split : index_of (put p c (next_of f at) f) at ≡ index_of f at
    index-split = index-put f o p c (next_of f at) hp hc root z at p hat hp pat ∙ (rw (eq-eqb p p refl, here) (grind (arith, nat_tests)))

    parent-text : parent_of (put p c (next_of f at) f) at ≡ Some p
    parent-text = parent-put f o p c (next_of f at) hp hc root z at hat ∙ (rw (far, pat) refl)

    parent-new : parent_of (put p c (next_of f at) f) c ≡ Some p
    parent-new = parent-put f o p c (next_of f at) hp hc root z c hc ∙ (rw (eq-eqb c c refl) refl)

    pub index-new : index_of (put p c (next_of f at) f) c ≡ index_of (put p c (next_of f at) f) at + 1
    index-new =
        index-child (put p c (next_of f at) f) c p parent-new
        ∙ ap (place_in c) (children-put f o p c (next_of f at) hp hc root z p hp ∙ (rw (eq-eqb p p refl) refl))
        ∙ place-entered (next_of f at) c (children_of f p) not_listed other
        ∙ here
        ∙ ap (λ k. k + 1) (sym index-split)

    children-kept : (n : ℕ) → 0 < occurs n f → (n ≡ p → ⊥) → children_of f n ≡ [] → children_of (put p c (next_of f at) f) n ≡ []
    children-kept n h ne e = children-put f o p c (next_of f at) hp hc root z n h ∙ (rw (ne_eqb n p ne) e)

    not_parent : at ≡ p → ⊥
    not_parent d = let j = rw (ap (children_of f) (sym d) ∙ bare) at (child-listed f o at p hat pat) in omega arith

    -- points of one root, none of the new Text, keep their order
    pub split-order_kept : (n m a d : ℕ) → 0 < occurs n f → 0 < occurs m f → (n ≡ c → ⊥) → (m ≡ c → ⊥) → root_of f n ≡ root_of f m →
        order_of (put p c (next_of f at) f) (split_point at offset c p (index_of f at) (record { node = n; offset = a })) (split_point at offset c p (index_of f at) (record { node = m; offset = d }))
        ≡ order_of f (record { node = n; offset = a }) (record { node = m; offset = d })
    split-order_kept n m a d hn hm nn nm one =
        subst (λ k. order_of (put p c (next_of f at) f) (after_split at offset c p k from) (after_split at offset c p k to) ≡ order_of f (record { node = n; offset = a }) (record { node = m; offset = d })) index-split
        (split-in_place (put p c (next_of f at) f) (put-once f o p c (next_of f at) hp hc root z) p at c offset (put-there f o p c (next_of f at) hp hc root z at hat) (put-there f o p c (next_of f at) hp hc root z c hc) parent-text parent-new index-new
        (children-kept at hat not_parent bare) (children-kept c hc (λ e. with_child (sym e)) bare_new)
        from.node to.node from.offset to.offset
        (subst (λ x. 0 < occurs x (put p c (next_of f at) f)) (sym same_from) (put-there f o p c (next_of f at) hp hc root z n hn))
        (subst (λ x. 0 < occurs x (put p c (next_of f at) f)) (sym same_to) (put-there f o p c (next_of f at) hp hc root z m hm))
        (λ e. nn (sym same_from ∙ e)) (λ e. nm (sym same_to ∙ e))
        (free n a same_from) (free m d same_to)
        (ap (root_of (put p c (next_of f at) f)) same_from ∙ one_root-put f o p c (next_of f at) hp hc root z n m hn hm one ∙ ap (root_of (put p c (next_of f at) f)) (sym same_to))
        ∙ subst (λ k. order_of (put p c (next_of f at) f) (after_gap p k 1 (record { node = n; offset = a })) (after_gap p k 1 (record { node = m; offset = d })) ≡ order_of f (record { node = n; offset = a }) (record { node = m; offset = d })) here
        (gap-order_kept f o p c (next_of f at) hp hc root z n m a d hn hm (inside-childless f o c n bare_new hn nn) (inside-childless f o c m bare_new hm nm) one))
      where
        from : Point
        from = after_gap p (index_of f at + 1) 1 (record { node = n; offset = a })

        to : Point
        to = after_gap p (index_of f at + 1) 1 (record { node = m; offset = d })

        same_from : from.node ≡ n
        same_from = gap-node p (index_of f at + 1) 1 (record { node = n; offset = a })

        same_to : to.node ≡ m
        same_to = gap-node p (index_of f at + 1) 1 (record { node = m; offset = d })

        free : (k e : ℕ) → (after_gap p (index_of f at + 1) 1 (record { node = k; offset = e })).node ≡ k → ((after_gap p (index_of f at + 1) 1 (record { node = k; offset = e })).node == p) ≡ true → (after_gap p (index_of f at + 1) 1 (record { node = k; offset = e })).offset ≡ index_of (put p c (next_of f at) f) at + 2 → ⊥
        free k e s t w = gap-free p (index_of f at + 1) k e (ap (λ x. x == p) (sym s) ∙ t) (w ∙ ap (λ x. x + 2) index-split ∙ (omega arith))
