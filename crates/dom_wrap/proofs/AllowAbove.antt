-- What of a forest stays where parents stay: the nodes above a node, and those among its children. DOM Standard, "Interface Range" (surroundContents).
use Rattle.std.proofs.Common.{◌≡◌, ℕ, zero, suc, ◌<◌, ◌≤◌, ◌==◌, ◌-◌, nat_lt, Bool, true, false, ◌&&◌, if◌then◌else◌, List, [], ◌∷◌, length, Option, Some, option_map, refl, ap, sym, ◌∙◌, subst, arith, ⊎_elim}
use Rattle.std.proofs.lemmas.Bool.{cases_lt}
use Rattle.dom_model.specs.Definitions.{hits, among, Forest, occurs, tree_at, cut, parent_of, index_of, ancestors, inclusive_descendants, Content, Point, Range, World, IsSound, after_removal, moved_range, removed_from, remove, range_at}
use Rattle.dom_model.proofs.PlainLists.Numbers.{same_or, same, apart}
use Rattle.dom_model.proofs.Forests.{Changes.seen, Changes.nothing, Changes.just, Totals.IsOnce, Climbing.hits-append, Climbing.hits-among, Climbing.hits-ancestors, Climbing.hits-self, Climbing.ancestors-there, Paths.parent-path, Paths.root-path, Paths.ancestors-cut, TreeOrder.Flattened.hits-numbers, Indices.parent-there}
use Rattle.dom_model.proofs.BoundaryPoints.RemovalOrder.{ancestors-split}
use Rattle.dom_model.proofs.MutationAlgorithms.Loosened.{forest-remove, loosened-remove}
use Rattle.dom_model.proofs.RangesAndContents.StartsAhead.{outside_removed}
use Rattle.dom_model.proofs.TokenText.Contents.DeletedUnits.{moved-at}
use Rattle.dom_data.proofs.StillBelow.{up_with-clear}

pub none-or-some : (n : ℕ) (ns : List ℕ) {A : Type 0} → (hits n ns ≡ 0 → A) → (0 < hits n ns → A) → A
none-or-some n ns none some = ⊎_elim (λ (lt : 0 < hits n ns). some lt) (λ (le : hits n ns ≤ 0). none (omega arith)) (cases_lt 0 (hits n ns))

-- where each node above keeps its parent, the nodes above are the same
pub ancestors-kept : (f g : Forest Content) → IsOnce f → IsOnce g → (n : ℕ) → 0 < occurs n f → ((m : ℕ) → 0 < hits m (ancestors n f) → (0 < occurs m g) × (parent_of g m ≡ parent_of f m)) → ancestors n g ≡ ancestors n f
ancestors-kept f g o og n h each = go (length (ancestors n f)) n (omega arith) h each
  where
    go : (k m : ℕ) → length (ancestors m f) ≤ k → 0 < occurs m f → ((x : ℕ) → 0 < hits x (ancestors m f) → (0 < occurs x g) × (parent_of g x ≡ parent_of f x)) → ancestors m g ≡ ancestors m f
    go zero m l hm each = absurd (let i = ancestors-there m f hm in let j = ap (λ ns. length ns) i.1 in omega arith)
    go (suc k) m l hm each =
        let here = each m (hits-self m m f refl hm) in
        elim (seen (parent_of f m)) [
          | nothing e ↦ root-path g og m here.0 (here.1 ∙ e) ∙ sym (root-path f o m hm e)
          | just q e ↦
              let a = parent-path f o m q hm e in
              let b = parent-path g og m q here.0 (here.1 ∙ e) in
              let l2 = ap (λ ns. length ns) a.1 in
              b.1
              ∙ ap (λ ns. m ∷ ns) (go k q (omega arith) a.0 (λ x i. each x (let j = ap (hits x) a.1 in let z = hits-append x (m ∷ []) (ancestors q f) in omega arith)))
              ∙ sym a.1
        ]

-- what stands above tells the parent
pub parent-same : (f g : Forest Content) → IsOnce f → IsOnce g → (n : ℕ) → 0 < occurs n f → 0 < occurs n g → ancestors n g ≡ ancestors n f → parent_of g n ≡ parent_of f n
parent-same f g o og n hf hg alike =
    elim (seen (parent_of f n)) [
      | nothing e ↦
          elim (seen (parent_of g n)) [
            | nothing d ↦ d ∙ sym e
            | just q d ↦
                let a = parent-path g og n q hg d in
                let b = ancestors-there q g a.0 in
                absurd (let k : n ∷ q ∷ b.0 ≡ n ∷ [] = ap (λ ns. n ∷ ns) (sym b.1) ∙ sym a.1 ∙ alike ∙ root-path f o n hf e in cc k)
          ]
      | just u e ↦
          let c = parent-path f o n u hf e in
          let h = ancestors-there u f c.0 in
          elim (seen (parent_of g n)) [
            | nothing d ↦ absurd (let k : n ∷ [] ≡ n ∷ u ∷ h.0 = sym (root-path g og n hg d) ∙ alike ∙ c.1 ∙ ap (λ ns. n ∷ ns) h.1 in cc k)
            | just q d ↦
                let a = parent-path g og n q hg d in
                let b = ancestors-there q g a.0 in
                let k : n ∷ q ∷ b.0 ≡ n ∷ u ∷ h.0 = ap (λ ns. n ∷ ns) (sym b.1) ∙ sym a.1 ∙ alike ∙ c.1 ∙ ap (λ ns. n ∷ ns) h.1 in
                let j : q ≡ u = cc k in
                d ∙ ap (λ x. Some x) j ∙ sym e
          ]
    ]

-- a node that stands above another has its own nodes above among those of the other
pub above-within : (f : Forest Content) → IsOnce f → (n c m : ℕ) → 0 < occurs n f → 0 < hits c (ancestors n f) → 0 < hits m (ancestors c f) → 0 < hits m (ancestors n f)
above-within f o n c m h i j =
    let s = ancestors-split f o c n h i in
    let k = ap (hits m) s.1 in
    let l = hits-append m s.0 (ancestors c f) in
    omega arith

-- A child of a node is removed.

module _ (n x r : ℕ) (v : World) (s : IsSound v) (par : parent_of v.forest x ≡ Some n) (a : Range) (e : range_at v r ≡ Some a) (ha : 0 < occurs a.start.node v.forest) where
  abbrev p : Point
  p = a.start

  abbrev pub move : Point → Point
  move = after_removal (inclusive_descendants v.forest x) n (index_of v.forest x)

  abbrev out : World
  out = remove true x v

  hx : 0 < occurs x v.forest
  hx = parent-there v.forest x n par

  path : (0 < occurs n v.forest) × (ancestors x v.forest ≡ x ∷ ancestors n v.forest)
  path = parent-path v.forest s.forest.once x n hx par

  forest_is : out.forest ≡ cut x v.forest
  forest_is = forest-remove true x v s hx

  pub range_left : range_at out r ≡ Some (moved_range move a)
  range_left =
      ap (λ (o : Option ℕ). range_at (removed_from true x o v) r) par
      ∙ moved-at move v.ranges r
      ∙ ap (option_map (moved_range move)) e

  above_left : hits x (ancestors p.node v.forest) ≡ 0 → ancestors p.node out.forest ≡ ancestors p.node v.forest
  above_left z =
      ap (λ (g : Forest Content). ancestors p.node g) forest_is
      ∙ ancestors-cut v.forest s.forest.once x p.node ha
      ∙ up_with-clear x (ancestors p.node v.forest) z

  stands_by : hits n (ancestors p.node v.forest) ≡ 0 → hits x (ancestors p.node v.forest) ≡ 0
  stands_by z =
      none-or-some x (ancestors p.node v.forest) (λ k. k)
      (λ lt. absurd (let k = above-within v.forest s.forest.once p.node x n ha lt (let j = ap (hits n) path.1 in let i = hits-self n n v.forest refl path.0 in let l = hits-append n (x ∷ []) (ancestors n v.forest) in omega arith) in omega arith))

  outside_of : hits x (ancestors p.node v.forest) ≡ 0 → among p.node (inclusive_descendants v.forest x) ≡ false
  outside_of z = outside_removed v s x p.node ha z

  -- a start that does not stand in the node stays, and so do the nodes above it
  pub start_aside : hits n (ancestors p.node v.forest) ≡ 0 → move p ≡ p
  start_aside z =
      let t : (p.node == n) ≡ false = elim (same_or p.node n) [ same d u ↦ absurd (let i = hits-self p.node n v.forest d ha in omega arith) | apart ne u ↦ u ] in
      rw (outside_of (stands_by z), t) refl

  pub above_aside : hits n (ancestors p.node v.forest) ≡ 0 → ancestors p.node out.forest ≡ ancestors p.node v.forest
  above_aside z = above_left (stands_by z)

  -- a start that stands in the node stays in it
  pub start_inside : 0 < hits n (ancestors p.node v.forest) → (0 < occurs (move p).node out.forest) × (0 < hits n (ancestors (move p).node out.forest))
  start_inside h =
      none-or-some x (ancestors p.node v.forest)
      (λ z.
      let node_is : (move p).node ≡ p.node = rw (outside_of z) (either ((p.node == n) && nat_lt (index_of v.forest x) p.offset)) in (
        subst (λ m. 0 < occurs m out.forest) (sym node_is) (there p.node ha),
        subst (λ m. 0 < hits n (ancestors m out.forest)) (sym node_is) (subst (λ ns. 0 < hits n ns) (sym (above_left z)) h),
      ))
      (λ lt.
      let i : among p.node (inclusive_descendants v.forest x) ≡ true = hits-among p.node (inclusive_descendants v.forest x) (let k = hits-numbers p.node (tree_at x v.forest) in let j = hits-ancestors x p.node v.forest s.forest.once in omega arith) in
      let node_is : (move p).node ≡ n = rw i refl in (
        subst (λ m. 0 < occurs m out.forest) (sym node_is) (there n path.0),
        subst (λ m. 0 < hits n (ancestors m out.forest)) (sym node_is) (hits-self n n out.forest refl (there n path.0)),
      ))
    where
      there : (m : ℕ) → 0 < occurs m v.forest → 0 < occurs m out.forest
      there m k = subst (λ y. 0 < y) (sym ((loosened-remove true x v s hx).numbers m)) k

      either : (b : Bool) → (if b then record p { offset = p.offset - 1 } else p).node ≡ p.node
      either true = refl
      either false = refl
