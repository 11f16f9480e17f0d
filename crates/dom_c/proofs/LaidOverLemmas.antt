-- What is left of a slice laid over an array, a part at a time.
use Rattle.std.proofs.Common.{arith, ◌≡◌, ◌<◌, ◌≤◌, ◌+◌, ℕ, List, [], ◌∷◌, ◌++◌, length, take, drop, slice_set, slice_index_or, sym, ap, ◌∙◌}
use Rattle.std.proofs.lemmas.List.{drop_more, length-set}
use Rattle.dom_session.specs.Neighbours.{laid_over}
use Rattle.dom_session.proofs.LaidOverLemmas.{laid_over-set, laid_over-all}

pub next-left : {X : Type 0} (xs : List X) (i : ℕ) (x : X) → x ≡ slice_index_or xs i x → i < length xs → drop i xs ≡ x ∷ drop (i + 1) xs
next-left xs i x is lt = drop_more xs i x lt ∙ ap (λ y. y ∷ drop (i + 1) xs) (sym is)

module _ {A : Type 0} (all old now : List A) (at : ℕ) (left : List A) (so_far : laid_over all old ≡ take at now ++ laid_over left (drop at now)) where
  pub copied-next : (rest : List A) (a : A) → left ≡ a ∷ rest → at ≤ length now → (at ≡ length now → ⊥) →
      (laid_over all old ≡ take (at + 1) (slice_set now at a) ++ laid_over rest (drop (at + 1) (slice_set now at a))) × (at + 1 ≤ length (slice_set now at a))
  copied-next rest a is le ne =
      let inside : at < length now = omega (arith, le, ne) in (
        so_far ∙ (ap (λ ys. take at now ++ laid_over ys (drop at now)) is ∙ laid_over-set a rest now at inside),
        rw (length-set now at a) (omega (arith, inside)),
      )

  pub copied-all : left ≡ [] → now ≡ laid_over all old
  copied-all none = sym (so_far ∙ (ap (λ ys. take at now ++ laid_over ys (drop at now)) none ∙ laid_over-all now at))
