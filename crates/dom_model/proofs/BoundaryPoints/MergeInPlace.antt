-- The points of a Text, and the point ahead of it, move into the Text before it: none comes after one that it was not after.
use Rattle.std.proofs.Common.{◌≡◌, ℕ, ◌+◌, ◌*◌, ◌<◌, ◌≤◌, ◌==◌, ◌&&◌, if◌then◌else◌, List, [], ◌∷◌, Some, ap, sym, ◌∙◌, subst, arith}
use Rattle.std.specs.{Ordering.nat_cmp, declared.cmp.Ordering.TheVariants.Greater, Cmp.Lexicographic.slice_cmp}
use Rattle.std.proofs.lemmas.Bool.Decides.{nat_tests}
use Rattle.dom_model.specs.Definitions.{Forest, occurs, parent_of, children_of, index_of, IsWay}
use Rattle.dom_model.proofs.PlainLists.Numbers.{same_or, same, apart}
use Rattle.dom_model.proofs.Forests.{Indices.child-listed, Chains.childless-last, Chains.index-apart}
use Rattle.dom_model.proofs.BoundaryPoints.WaysKept.{place_by}

module _ {X : Type 0} (f : Forest X) (o : (m : ℕ) → occurs m f ≤ 1) (p into from base : ℕ) (hinto : 0 < occurs into f) (hfrom : 0 < occurs from f) (pinto : parent_of f into ≡ Some p) (pfrom : parent_of f from ≡ Some p) (next : index_of f from ≡ index_of f into + 1) (bare : children_of f into ≡ []) (bare_from : children_of f from ≡ []) where
  abbrev pub place_merged : List ℕ → ℕ → ℕ → List ℕ
  place_merged [] n a = if (n == p) && (a == index_of f from) then (2 * index_of f into + 1) ∷ (2 * base) ∷ [] else (2 * a) ∷ []
  place_merged (m ∷ ms) n a = if m == from then (2 * index_of f into + 1) ∷ (2 * (base + a)) ∷ [] else (2 * index_of f m + 1) ∷ place_merged ms n a

  -- a point of the first Text is within its data
  abbrev pub IsWithin : ℕ → ℕ → Type 0
  IsWithin n a = n ≡ into → a ≤ base

  pub texts-apart : into ≡ from → ⊥
  texts-apart e = let d : index_of f into ≡ index_of f from = ap (index_of f) e in omega arith

  pub parent-apart : into ≡ p → ⊥
  parent-apart e = let h = rw (ap (children_of f) (sym e) ∙ bare) at (child-listed f o into p hinto pinto) in omega arith

  parent-is : (m u n : ℕ) → m ≡ n → parent_of f n ≡ Some p → parent_of f m ≡ Some u → u ≡ p
  parent-is m u n e h g = let w : Some u ≡ Some p = sym g ∙ ap (parent_of f) e ∙ h in cc w

  -- a child of the parent with the index of the first Text
  is-into : (m u : ℕ) → u ≡ p → 0 < occurs m f → parent_of f m ≡ Some u → index_of f m ≡ index_of f into → m ≡ into
  is-into m u e h g i = index-apart f o m into u h g (pinto ∙ ap (λ x. Some x) (sym e)) i

  place-into : (m : ℕ) (ms : List ℕ) (n a : ℕ) → m ≡ into → IsWay f m ms n → IsWithin n a → (place_merged (m ∷ ms) n a ≡ (2 * index_of f into + 1) ∷ (2 * a) ∷ []) × (a ≤ base)
  place-into m ms n a e w within =
      let c = childless-last f o m ms n (ap (children_of f) e ∙ bare) w in
      let d : n ≡ into = sym c.1 ∙ e in
      (rw c.0 (grind (arith, nat_tests, texts-apart, parent-apart)), within d)

  -- Where a point was not after another, it does not come after it.

  pub ways-merged : (u : ℕ) (ms ns : List ℕ) (n k a d : ℕ) → IsWay f u ms n → IsWay f u ns k → IsWithin n a → IsWithin k d → slice_cmp nat_cmp (place_merged ms n a) (place_merged ns k d) ≡ Greater → slice_cmp nat_cmp (place_by (index_of f) ms a) (place_by (index_of f) ns d) ≡ Greater
  ways-merged u [] [] n k a d v w wn wk g = grind (arith, nat_tests)
  ways-merged u [] (m ∷ ns) n k a d v w wn wk g = grind (arith, nat_tests, parent-is m u from)
  ways-merged u (m ∷ ms) [] n k a d v w wn wk g = grind (arith, nat_tests, is-into m u, place-into m ms n a)
  ways-merged u (m ∷ ms) (l ∷ ns) n k a d v w wn wk g =
      elim (same_or m l) [
        | same e _ ↦
            let below : IsWay f m ns k = subst (λ x. IsWay f x ns k) (sym e) w.2 in
            elim (same_or m from) [
              | same h _ ↦
                  let bare_m = ap (children_of f) h ∙ bare_from in
                  rw ((childless-last f o m ms n bare_m v.2).0, (childless-last f o m ns k bare_m below).0) (grind (arith, nat_tests))
              | apart ne _ ↦ grind (arith, nat_tests, ways-merged m ms ns n k a d v.2 below)
            ]
        | apart ne _ ↦ grind (arith, nat_tests, parent-is l u from, is-into m u, place-into m ms n a, index-apart f o m l u v.0 v.1 w.1)
      ]
