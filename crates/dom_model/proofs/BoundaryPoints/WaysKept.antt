-- The order of two points of one root is kept where indices and offsets move together.
use Rattle.std.proofs.Common.{◌≡◌, ℕ, ◌+◌, ◌*◌, ◌<◌, ◌≤◌, List, [], ◌∷◌, ◌++◌, map, Some, ap, sym, ◌∙◌, subst, arith, append_assoc}
use Rattle.std.specs.{Ordering.nat_cmp, Cmp.Lexicographic.slice_cmp}
use Rattle.std.proofs.lemmas.{List.map-append, Bool.Decides.nat_tests}
use Rattle.dom_model.specs.Definitions.{Forest, occurs, parent_of, index_of, IsWay}
use Rattle.dom_model.proofs.Forests.Chains.{index-apart}
use Rattle.dom_model.proofs.PlainLists.Numbers.{same_or, same, apart}

-- a list of nodes on a way, and an offset at its end, as a place
abbrev pub place_by : (ℕ → ℕ) → List ℕ → ℕ → List ℕ
place_by index ms a = map (λ m. 2 * index m + 1) ms ++ (2 * a) ∷ []

pub place-last : (index : ℕ → ℕ) (ms : List ℕ) (m a : ℕ) → place_by index (ms ++ m ∷ []) a ≡ map (λ k. 2 * index k + 1) ms ++ (2 * index m + 1) ∷ (2 * a) ∷ []
place-last index ms m a =
    ap (λ xs. xs ++ (2 * a) ∷ []) (map-append (λ k. 2 * index k + 1) ms (m ∷ []))
    ∙ append_assoc (map (λ k. 2 * index k + 1) ms) ((2 * index m + 1) ∷ []) ((2 * a) ∷ [])

module _ {X : Type 0} (f : Forest X) (o : (m : ℕ) → occurs m f ≤ 1) (index : ℕ → ℕ) (offset : ℕ → ℕ → ℕ)
    (offsets : (u a b : ℕ) → a < b → offset u a < offset u b)
    (children : (u m n : ℕ) → 0 < occurs m f → parent_of f m ≡ Some u → 0 < occurs n f → parent_of f n ≡ Some u → index_of f m < index_of f n → index m < index n)
    (between : (u m a : ℕ) → 0 < occurs m f → parent_of f m ≡ Some u → a ≤ index_of f m → offset u a ≤ index m)
    (beyond : (u m a : ℕ) → 0 < occurs m f → parent_of f m ≡ Some u → index_of f m < a → index m < offset u a) where
  pub ways-kept : (u : ℕ) (ms ns : List ℕ) (n k a b : ℕ) → IsWay f u ms n → IsWay f u ns k → slice_cmp nat_cmp (place_by index ms (offset n a)) (place_by index ns (offset k b)) ≡ slice_cmp nat_cmp (place_by (index_of f) ms a) (place_by (index_of f) ns b)
  ways-kept u [] [] n k a b v w = grind (arith, nat_tests, offsets u a b, offsets u b a)
  ways-kept u [] (m ∷ ns) n k a b v w = grind (arith, nat_tests, beyond u m a w.0 w.1, between u m a w.0 w.1)
  ways-kept u (m ∷ ms) [] n k a b v w = grind (arith, nat_tests, beyond u m b v.0 v.1, between u m b v.0 v.1)
  ways-kept u (m ∷ ms) (l ∷ ns) n k a b v w =
      elim (same_or m l) [
        | same e _ ↦ grind (arith, nat_tests, ways-kept m ms ns n k a b v.2 (subst (λ x. IsWay f x ns k) (sym e) w.2))
        | apart ne _ ↦ grind (arith, nat_tests, children u m l v.0 v.1 w.0 w.1, children u l m w.0 w.1 v.0 v.1, index-apart f o m l u v.0 v.1 w.1)
      ]
