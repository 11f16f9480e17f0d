-- One list laid over the front of another, a part at a time.
use Rattle.std.proofs.Common.{arith, ◌≡◌, ◌<◌, ◌+◌, ℕ, zero, suc, List, [], ◌∷◌, ◌++◌, length, take, drop, slice_set, refl, sym, false, Option, Some, None, is_some}
use Rattle.std.proofs.lemmas.List.{append_assoc, append-nil, take-append-drop, take_more_set, drop-set-lt}
use Rattle.std.proofs.Math.Seq.{take-length, drop-length}
use Rattle.dom_model.specs.Definitions.{Entry, children_in}
use Rattle.dom_session.specs.Neighbours.{laid_over}

module _ {A : Type 0} where
  laid_over-none : (ys : List A) → laid_over [] ys ≡ ys
  laid_over-none [] = refl
  laid_over-none (y ∷ ys) = refl

  laid_over-after : (x : A) (xs ys : List A) (at : ℕ) → at < length ys → laid_over (x ∷ xs) (drop at ys) ≡ x ∷ laid_over xs (drop (suc at) ys)
  laid_over-after x xs [] at inside = absurd (omega (arith, inside))
  laid_over-after x xs (y ∷ ys) zero inside = refl
  laid_over-after x xs (y ∷ ys) (suc at) inside = laid_over-after x xs ys at (omega (arith, inside))

  laid_over-next : (x : A) (xs ys : List A) (at : ℕ) → at < length ys → laid_over (x ∷ xs) (drop at ys) ≡ x ∷ laid_over xs (drop (at + 1) ys)
  laid_over-next x xs ys at inside = let e : at + 1 ≡ suc at = omega arith in rw e (laid_over-after x xs ys at inside)

  -- a part is put at its place
  pub laid_over-set : (x : A) (xs ys : List A) (at : ℕ) → at < length ys →
      take at ys ++ laid_over (x ∷ xs) (drop at ys) ≡ take (at + 1) (slice_set ys at x) ++ laid_over xs (drop (at + 1) (slice_set ys at x))
  laid_over-set x xs ys at inside =
      rw (take_more_set ys at x inside, drop-set-lt (at + 1) ys at x (omega arith), laid_over-next x xs ys at inside)
      (sym (append_assoc (take at ys) (x ∷ []) (laid_over xs (drop (at + 1) ys))))

  -- no room is left
  pub laid_over-full : (xs ys : List A) (at : ℕ) → at ≡ length ys → take at ys ++ laid_over xs (drop at ys) ≡ ys
  laid_over-full xs ys at e = rw (e, take-length ys, drop-length ys) (append-nil ys)

  -- nothing is left to come
  pub laid_over-all : (ys : List A) (at : ℕ) → take at ys ++ laid_over [] (drop at ys) ≡ ys
  laid_over-all ys at = rw (laid_over-none (drop at ys)) (take-append-drop at ys)

-- a node that is not there has no children
pub laid_over-absent : {T : Type 0} (o : Option (Entry T)) (ys : List ℕ) → is_some o ≡ false → ys ≡ laid_over (children_in o) ys
laid_over-absent None ys none = sym (laid_over-none ys)
laid_over-absent (Some e) ys none = absurd (cc none)
