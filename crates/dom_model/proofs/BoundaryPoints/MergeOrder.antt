-- A Text joined to the one before it puts no point after one that it was not after.
use Rattle.std.proofs.Common.{◌≡◌, ℕ, ◌+◌, ◌*◌, ◌<◌, ◌≤◌, ◌==◌, Bool, true, false, ◌&&◌, if◌then◌else◌, List, [], ◌∷◌, ◌++◌, map, Some, refl, ap, sym, ◌∙◌, subst, arith}
use Rattle.std.specs.{Ordering.nat_cmp, declared.cmp.Ordering.TheVariants.Greater, Cmp.Lexicographic.slice_cmp}
use Rattle.std.proofs.lemmas.{Bool.Decides.nat_tests, Bool.eqb-true, Bool.and_parts, Bool.eq-eqb}
use Rattle.dom_model.specs.Definitions.{Forest, occurs, cut, inclusive_descendants, parent_of, children_of, index_of, root_of, Point, place_of, order_of, after_merge, after_removal, after_splice, IsWay}
use Rattle.dom_model.proofs.PlainLists.Numbers.{same_or, same, apart}
use Rattle.dom_model.proofs.Forests.{Indices.child-listed, Paths.parent-path, Chains.way_to, Chains.way, Chains.way-child, Chains.root-child, Chains.childless-last}
use Rattle.dom_model.proofs.BoundaryPoints.{WaysKept.place_by, WaysKept.place-last, RemovalOrder.removal-order_kept, MergeInPlace.place_merged, MergeInPlace.ways-merged}

-- where a point goes as the Text `from` of (parent, index) is joined to another, whose length was `base`
abbrev pub merge_point : List ℕ → ℕ → ℕ → ℕ → ℕ → ℕ → Point → Point
merge_point inside from into base parent index q = after_removal inside parent index (after_merge from into base parent index q)

-- the data that is joined moves no point that was within the first Text's
pub joined-settled : (into base added n a : ℕ) → (n ≡ into → a ≤ base) → after_splice into base 0 added (record { node = n; offset = a }) ≡ record { node = n; offset = a }
joined-settled into base added n a within = grind (arith, nat_tests)

module _ {X : Type 0} (f : Forest X) (o : (m : ℕ) → occurs m f ≤ 1) (p into from base : ℕ) (hinto : 0 < occurs into f) (hfrom : 0 < occurs from f) (pinto : parent_of f into ≡ Some p) (pfrom : parent_of f from ≡ Some p) (next : index_of f from ≡ index_of f into + 1) (bare : children_of f into ≡ []) (bare_from : children_of f from ≡ []) where
  abbrev merged : List ℕ → ℕ → ℕ → List ℕ
  merged ms n a = place_merged f o p into from base hinto hfrom pinto pfrom next bare bare_from ms n a

  abbrev steps : List ℕ → List ℕ
  steps ms = map (λ m. 2 * index_of f m + 1) ms

  -- only a way to the second Text goes through it
  not_through : (m n : ℕ) (ms : List ℕ) → (n ≡ from → ⊥) → IsWay f m ms n → m ≡ from → ⊥
  not_through m n ms ne w d = ne (sym (childless-last f o m ms n (ap (children_of f) d ∙ bare_from) w).1 ∙ d)

  place-clear : (u : ℕ) (ms : List ℕ) (n a : ℕ) → IsWay f u ms n → (n ≡ from → ⊥) → merged ms n a ≡ steps ms ++ merged [] n a
  place-clear u [] n a w ne = refl
  place-clear u (m ∷ ms) n a w ne = grind (arith, nat_tests, not_through m n ms ne w.2, place-clear m ms n a w.2 ne)

  place-from : (u : ℕ) (ms : List ℕ) (a : ℕ) → IsWay f u ms p → (p ≡ from → ⊥) → merged (ms ++ from ∷ []) from a ≡ steps ms ++ (2 * index_of f into + 1) ∷ (2 * (base + a)) ∷ []
  place-from u [] a w ne = rw (eq-eqb from from refl) refl
  place-from u (m ∷ ms) a w ne = grind (arith, nat_tests, not_through m p ms ne w.2, place-from m ms a w.2 ne)

  from-apart : p ≡ from → ⊥
  from-apart e = let h = rw (ap (children_of f) e ∙ bare_from) at (child-listed f o from p hfrom pfrom) in omega arith

  place-into : (x : ℕ) → place_of f (record { node = into; offset = x }) ≡ steps (way_to f p) ++ (2 * index_of f into + 1) ∷ (2 * x) ∷ []
  place-into x = ap (λ ms. place_by (index_of f) ms x) (way-child f o into p hinto pinto) ∙ place-last (index_of f) (way_to f p) into x

  -- where a point goes before the second Text leaves
  place-merged : (n a : ℕ) → 0 < occurs n f → place_of f (after_merge from into base p (index_of f from) (record { node = n; offset = a })) ≡ merged (way_to f n) n a
  place-merged n a h =
      elim (same_or n from) [
        | same e t ↦ rw t (place-into (base + a) ∙ sym (ap (λ k. merged (way_to f k) k a) e ∙ from_text))
        | apart ne t ↦ rw t (others ne)
      ]
    where
      from_text : merged (way_to f from) from a ≡ steps (way_to f p) ++ (2 * index_of f into + 1) ∷ (2 * (base + a)) ∷ []
      from_text =
          let w = way f o p (parent-path f o from p hfrom pfrom).0 in
          ap (λ ms. merged ms from a) (way-child f o from p hfrom pfrom) ∙ place-from w.0 (way_to f p) a w.2 from-apart

      others : (n ≡ from → ⊥) → place_of f (if (n == p) && (a == index_of f from) then record { node = into; offset = base } else record { node = n; offset = a }) ≡ merged (way_to f n) n a
      others ne =
          let w = way f o n h in
          let s = sym (place-clear w.0 (way_to f n) n a w.2 ne) in
          grind (arith, nat_tests, place-into base)

  -- before the second Text leaves, no point comes after one that it was not after
  pub merge-in_place : (n m a d : ℕ) → 0 < occurs n f → 0 < occurs m f → (n ≡ into → a ≤ base) → (m ≡ into → d ≤ base) → root_of f n ≡ root_of f m →
      order_of f (after_merge from into base p (index_of f from) (record { node = n; offset = a })) (after_merge from into base p (index_of f from) (record { node = m; offset = d })) ≡ Greater
      → order_of f (record { node = n; offset = a }) (record { node = m; offset = d }) ≡ Greater
  merge-in_place n m a d hn hm within_n within_m one g =
      let v = way f o n hn in
      let w = way f o m hm in
      let s : v.0 ≡ w.0 = (let e : Some v.0 ≡ Some w.0 = sym v.1 ∙ one ∙ w.1 in cc e) in
      ways-merged f o p into from base hinto hfrom pinto pfrom next bare bare_from v.0 (way_to f n) (way_to f m) n m a d v.2 (subst (λ x. IsWay f x (way_to f m) m) (sym s) w.2) within_n within_m
      (sym (ap (λ xs. slice_cmp nat_cmp xs (place_of f (after_merge from into base p (index_of f from) (record { node = m; offset = d })))) (place-merged n a hn)
      ∙ ap (slice_cmp nat_cmp (merged (way_to f n) n a)) (place-merged m d hm)) ∙ g)

  -- the node that a point goes to stands in the same tree
  merged-node : (n a : ℕ) → 0 < occurs n f → (0 < occurs (after_merge from into base p (index_of f from) (record { node = n; offset = a })).node f) × (root_of f (after_merge from into base p (index_of f from) (record { node = n; offset = a })).node ≡ root_of f n)
  merged-node n a h =
      elim (same_or n from) [
        | same e t ↦ rw t (hinto, root_into ∙ sym (root-child f o from p hfrom pfrom) ∙ ap (root_of f) (sym e))
        | apart ne t ↦ rw t (others ((n == p) && (a == index_of f from)) refl)
      ]
    where
      root_into : root_of f into ≡ root_of f p
      root_into = root-child f o into p hinto pinto

      of_parent : (w : Bool) → (n == p) && w ≡ true → n ≡ p
      of_parent w e = eqb-true n p (and_parts (n == p) w e).0

      others : (v : Bool) → ((n == p) && (a == index_of f from)) ≡ v → (0 < occurs (if◌then◌else◌ {A = Point} v (record { node = into; offset = base }) (record { node = n; offset = a })).node f) × (root_of f (if◌then◌else◌ {A = Point} v (record { node = into; offset = base }) (record { node = n; offset = a })).node ≡ root_of f n)
      others true e = (hinto, root_into ∙ ap (root_of f) (sym (of_parent (a == index_of f from) e)))
      others false e = (h, refl)

  -- a point that comes after another was after it
  pub merge-order_kept : (n m a d : ℕ) → 0 < occurs n f → 0 < occurs m f → (n ≡ into → a ≤ base) → (m ≡ into → d ≤ base) → root_of f n ≡ root_of f m →
      order_of (cut from f) (merge_point (inclusive_descendants f from) from into base p (index_of f from) (record { node = n; offset = a })) (merge_point (inclusive_descendants f from) from into base p (index_of f from) (record { node = m; offset = d })) ≡ Greater
      → order_of f (record { node = n; offset = a }) (record { node = m; offset = d }) ≡ Greater
  merge-order_kept n m a d hn hm within_n within_m one g =
      let v = merged-node n a hn in
      let w = merged-node m d hm in
      let q : Point = after_merge from into base p (index_of f from) (record { node = n; offset = a }) in
      let r : Point = after_merge from into base p (index_of f from) (record { node = m; offset = d }) in
      merge-in_place n m a d hn hm within_n within_m one
      (removal-order_kept f o p from hfrom pfrom q.node r.node q.offset r.offset v.0 w.0 (v.1 ∙ one ∙ sym w.1) g)
