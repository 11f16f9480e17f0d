-- The children of the common ancestor that are contained in a range are none of those towards its ends. DOM Standard, "Interface Range".
use Rattle.std.proofs.Common.{◌≡◌, ℕ, zero, suc, ◌+◌, ◌*◌, ◌<◌, ◌≤◌, true, false, if◌then◌else◌, List, ◌∷◌, ◌++◌, length, Option, Some, None, refl, ap, sym, ◌∙◌, subst, arith}
use Rattle.std.specs.{Ordering.nat_cmp, declared.cmp.Ordering.TheVariants.Greater}
use Rattle.std.proofs.Math.Bool.{and-false}
use Rattle.std.proofs.lemmas.{Bool.false≢true, Bool.lt-ltb, Bool.le-ltb, Bool.Decides.nat_tests}
use Rattle.dom_model.specs.Definitions.{hits, Entry, is_kind, is_character_data, may_be_parent, Node, Forest, empty, node, occurs, tops, entry_under, entry_in, parent_of, children_of, index_of, ancestors, KindsFit, Range, path_places, order_of, node_length, is_less, is_before, is_contained}
use Rattle.dom_model.specs.declared.{Kind.Kind, Kind.TheVariants.Element, Kind.TheVariants.Document, Kind.TheVariants.DocumentType, Kind.TheVariants.DocumentFragment}
use Rattle.dom_model.proofs.PlainLists.{Numbers.same_or, Numbers.same, Numbers.apart, Places.place-there}
use Rattle.dom_model.proofs.Forests.{Changes.seen, Changes.nothing, Changes.just, Totals.IsOnce, Climbing.ancestors-there, Climbing.hits-first, Paths.parent-path, Paths.root-path, Indices.child-listed, Indices.index-child}
use Rattle.dom_model.proofs.BoundaryPoints.{PointOrder.order-one_node, PointOrder.order-above, OrderByWays.path-through, OrderByWays.order-below}
use Rattle.dom_model.proofs.Soundness.SoundForests.{parent_kind}

-- the length of what may be a parent is the number of its children
parent-length : {X : Type 0} (measure : X → ℕ) (k : Kind) (e : Entry (Node X)) → may_be_parent k ≡ true → (if is_kind k DocumentType then 0 else if is_character_data k then measure e.value.body else length e.children) ≡ length e.children
parent-length measure Element e h = refl
parent-length measure Document e h = refl
parent-length measure DocumentFragment e h = refl
parent-length measure k e h = absurd (false≢true h)

module _ {X : Type 0} where
  has_kids : (k : Kind) (kids : Forest X) → KindsFit (Some k) kids → 0 < length (tops kids) → may_be_parent k ≡ true
  has_kids k empty w h = absurd (omega arith)
  has_kids k (node y others more) w h = parent_kind k y.label.kind w.0

  -- a node with children may have them
  kind-fits : (q : Option Kind) (above : Option ℕ) (n : ℕ) (f : Forest X) (e : Entry (Node X)) → KindsFit q f → entry_under above n f ≡ Some e → 0 < length e.children → may_be_parent e.value.label.kind ≡ true
  kind-fits q above n empty e w d h = absurd (cc d)
  kind-fits q above n (node x kids rest) e w d h =
      elim (same_or x.number n) [
        | same s t ↦
            let u : record { value = x; parent = above; children = tops kids } ≡ e = (let v = rw t at d in cc v) in
            subst (λ (y : Entry (Node X)). 0 < length y.children → may_be_parent y.value.label.kind ≡ true) u (λ k. has_kids x.label.kind kids w.1 k) h
        | apart ne t ↦
            let u = rw t at d in
            elim (seen (entry_under (Some x.number) n kids)) [
              | nothing z ↦ (let v = rw z at u in kind-fits q above n rest e w.2 v h)
              | just a z ↦ (let v = rw z at u in kind-fits (Some x.label.kind) (Some x.number) n kids e w.1 (z ∙ v) h)
            ]
      ]

  -- the length of a node with a child is the number of its children
  length-parent : (measure : X → ℕ) (n : ℕ) (f : Forest X) → KindsFit None f → 0 < length (children_of f n) → node_length measure f n ≡ length (children_of f n)
  length-parent measure n f w h =
      elim (seen (entry_in f n)) [
        | nothing z ↦ rw z refl
        | just e z ↦ (let k = rw z at h in rw z (parent-length measure e.value.label.kind e (kind-fits None None n f e w z k)))
      ]

module _ {X : Type 0} (f : Forest X) (o : IsOnce f) where
  -- the child of e towards n, below it, and the rest of n's path
  pub record IsTowards (e n : ℕ) : Type 0 where
    pub child : ℕ
    pub below : List ℕ
    pub there : 0 < occurs child f
    pub parent : parent_of f child ≡ Some e
    pub path : path_places f n ≡ path_places f e ++ (2 * index_of f child + 1) ∷ below

  -- a node is e itself, or stands below a child of it
  pub towards : (e n : ℕ) → 0 < occurs n f → 0 < hits e (ancestors n f) → (e ≡ n → ⊥) → IsTowards e n
  towards e n h i ne =
      let c = nearest (length (ancestors n f)) n (omega arith) h i ne in
      let p = path-through f o n e c.0 h c.3 c.2 in
      record { child = c.0; below = p.0; there = c.1; parent = c.2; path = p.1 }
    where
      nearest : (k m : ℕ) → length (ancestors m f) ≤ k → 0 < occurs m f → 0 < hits e (ancestors m f) → (e ≡ m → ⊥) → (c : ℕ) × (0 < occurs c f) × (parent_of f c ≡ Some e) × (0 < hits c (ancestors m f))
      nearest zero m l hm hi ne = absurd (let i = ancestors-there m f hm in let j = rw i.1 at l in omega arith)
      nearest (suc k) m l hm hi ne =
          elim (seen (parent_of f m)) [
            | nothing d ↦ absurd (let j = rw (root-path f o m hm d) at hi in grind (arith, nat_tests))
            | just q d ↦
                let i = parent-path f o m q hm d in
                let s = rw i.1 at l in
                let j = rw i.1 at hi in
                let up : (c : ℕ) → 0 < hits c (ancestors q f) → 0 < hits c (ancestors m f) = λ c x. rw i.1 (omega arith) in
                elim (same_or q e) [
                  | same t _ ↦ (m, hm, d ∙ ap (λ x. Some x) t, rw i.1 (hits-first m (ancestors q f)))
                  | apart nq _ ↦ (let c = nearest k q (omega arith) i.0 (grind (arith, nat_tests)) (λ t. nq (sym t)) in (c.0, c.1, c.2, up c.0 c.3))
                ]
          ]

  -- a point below a node is not before the node's first
  below-first : (e n b : ℕ) → IsTowards e n → order_of f (record { node = n; offset = b }) (record { node = e; offset = 0 }) ≡ Greater
  below-first e n b w = order-below f n e (index_of f w.child) b 0 w.below w.path ∙ (rw (le-ltb (index_of f w.child) 0 (omega arith)) refl)

  not_less-from : (m n : ℕ) → n ≤ m → is_less (nat_cmp m n) ≡ false
  not_less-from m n h = grind (arith, nat_tests)

  -- an inclusive ancestor of the start node is not contained
  pub start-not_contained : (measure : X → ℕ) (r : Range) (e : ℕ) → 0 < occurs r.start.node f → 0 < hits e (ancestors r.start.node f) → is_contained measure f r e ≡ false
  start-not_contained measure r e h i =
      let z : is_before f r.start (record { node = e; offset = 0 }) ≡ false = elim (same_or e r.start.node) [
        | same d t ↦ rw (d, order-one_node f r.start.node r.start.offset 0) (not_less-from r.start.offset 0 (omega arith))
        | apart ne t ↦ rw (below-first e r.start.node r.start.offset (towards e r.start.node h i ne)) refl
      ] in
      simp (z, and-false)

  -- nor is one of the end node, whose offset is within its length
  pub end-not_contained : (measure : X → ℕ) → KindsFit None f → (r : Range) (e : ℕ) → 0 < occurs r.end.node f → r.end.offset ≤ node_length measure f r.end.node → 0 < hits e (ancestors r.end.node f) → is_contained measure f r e ≡ false
  end-not_contained measure kinds r e h within i =
      let size = node_length measure f e in
      let z : is_before f (record { node = e; offset = size }) r.end ≡ false = elim (same_or e r.end.node) [
        | same d t ↦
            let l : r.end.offset ≤ size = subst (λ m. r.end.offset ≤ node_length measure f m) (sym d) within in
            ap (λ m. is_less (order_of f (record { node = e; offset = size }) (record { node = m; offset = r.end.offset }))) (sym d)
            ∙ ap is_less (order-one_node f e size r.end.offset)
            ∙ not_less-from size r.end.offset l
        | apart ne t ↦
            let w = towards e r.end.node h i ne in
            let listed = place-there w.child (children_of f e) (child-listed f o w.child e w.there w.parent) in
            let long = length-parent measure e f kinds (omega arith) in
            let lt : index_of f w.child < size = omega (arith, index-child f w.child e w.parent) in
            ap is_less (order-above f e r.end.node (index_of f w.child) size r.end.offset w.below w.path) ∙ (rw (lt-ltb (index_of f w.child) size lt) refl)
      ] in
      simp (z, and-false)
