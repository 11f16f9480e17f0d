-- A splice of data puts no point after one that it was not after.
use Rattle.std.proofs.Common.{◌≡◌, ℕ, ◌<◌, ◌≤◌, ◌==◌, false, if◌then◌else◌, List, [], ◌∷◌, Some, ap, sym, ◌∙◌, subst, arith}
use Rattle.std.specs.{Ordering.nat_cmp, declared.cmp.Ordering.TheVariants.Greater, Cmp.Lexicographic.slice_cmp}
use Rattle.std.proofs.lemmas.{Bool.ne_eqb, Bool.Decides.nat_tests}
use Rattle.dom_model.specs.Definitions.{Forest, occurs, parent_of, children_of, index_of, root_of, order_of, after_splice, IsWay}
use Rattle.dom_model.proofs.PlainLists.Numbers.{same_or, same, apart}
use Rattle.dom_model.proofs.Forests.{Indices.child-listed, Chains.way_to, Chains.way, Chains.index-apart}
use Rattle.dom_model.proofs.BoundaryPoints.{PointOrder.spliced_offset, WaysKept.place_by}

module _ {X : Type 0} (f : Forest X) (o : (m : ℕ) → occurs m f ≤ 1) (at offset count added : ℕ) (childless : children_of f at ≡ []) where
  abbrev moved : ℕ → ℕ → ℕ
  moved n a = if n == at then spliced_offset offset count added a else a

  splice-point : (n a : ℕ) → after_splice at offset count added (record { node = n; offset = a }) ≡ record { node = n; offset = moved n a }
  splice-point n a = grind (arith, nat_tests)

  -- nothing stands under the node
  not_above : (u m : ℕ) → 0 < occurs m f → parent_of f m ≡ Some u → (u == at) ≡ false
  not_above u m h e =
      ne_eqb u at (λ d. let k = rw (ap (children_of f) d ∙ childless) at (child-listed f o m u h e) in omega arith)

  ways-spliced : (u : ℕ) (ms ns : List ℕ) (n k a d : ℕ) → IsWay f u ms n → IsWay f u ns k → slice_cmp nat_cmp (place_by (index_of f) ms (moved n a)) (place_by (index_of f) ns (moved k d)) ≡ Greater → slice_cmp nat_cmp (place_by (index_of f) ms a) (place_by (index_of f) ns d) ≡ Greater
  ways-spliced u [] [] n k a d v w g = grind (arith, nat_tests)
  ways-spliced u [] (m ∷ ns) n k a d v w g = grind (arith, nat_tests, not_above u m w.0 w.1)
  ways-spliced u (m ∷ ms) [] n k a d v w g = grind (arith, nat_tests, not_above u m v.0 v.1)
  ways-spliced u (m ∷ ms) (l ∷ ns) n k a d v w g =
      elim (same_or m l) [
        | same e _ ↦ grind (arith, nat_tests, ways-spliced m ms ns n k a d v.2 (subst (λ x. IsWay f x ns k) (sym e) w.2))
        | apart ne _ ↦ grind (arith, nat_tests, index-apart f o m l u v.0 v.1 w.1)
      ]

  -- a point that comes after another was after it
  pub splice-order_kept : (n m a d : ℕ) → 0 < occurs n f → 0 < occurs m f → root_of f n ≡ root_of f m →
      order_of f (after_splice at offset count added (record { node = n; offset = a })) (after_splice at offset count added (record { node = m; offset = d })) ≡ Greater
      → order_of f (record { node = n; offset = a }) (record { node = m; offset = d }) ≡ Greater
  splice-order_kept n m a d hn hm root g =
      let v = way f o n hn in
      let w = way f o m hm in
      let s : v.0 ≡ w.0 = (let e : Some v.0 ≡ Some w.0 = sym v.1 ∙ root ∙ w.1 in cc e) in
      ways-spliced v.0 (way_to f n) (way_to f m) n m a d v.2 (subst (λ x. IsWay f x (way_to f m) m) (sym s) w.2)
      (sym (ap (λ q. order_of f q (after_splice at offset count added (record { node = m; offset = d }))) (splice-point n a)
      ∙ ap (order_of f (record { node = n; offset = moved n a })) (splice-point m d)) ∙ g)
