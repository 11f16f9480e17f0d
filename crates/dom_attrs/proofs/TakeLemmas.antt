-- Lists that are the same as far as they are gone through.
use Rattle.std.proofs.Common.{◌≡◌, ℕ, zero, suc, ◌≤◌, List, [], ◌∷◌, length, take, slice_get, refl, ap, arith}

pub take-next : {X : Type 0} (xs ys : List X) (i : ℕ) → take i xs ≡ take i ys → slice_get xs i ≡ slice_get ys i → take (suc i) xs ≡ take (suc i) ys
take-next [] [] i h g = refl
take-next [] (y ∷ ys) zero h g = let d : ⊥ = cc g in absurd d
take-next [] (y ∷ ys) (suc i) h g = let d : ⊥ = cc h in absurd d
take-next (x ∷ xs) [] zero h g = let d : ⊥ = cc g in absurd d
take-next (x ∷ xs) [] (suc i) h g = let d : ⊥ = cc h in absurd d
take-next (x ∷ xs) (y ∷ ys) zero h g = let d : x ≡ y = cc g in ap (λ z. z ∷ []) d
take-next (x ∷ xs) (y ∷ ys) (suc i) h g =
    let d : x ≡ y = cc h in
    let e : take i xs ≡ take i ys = cc h in
    let rest = take-next xs ys i e g in
    (λ j. d j ∷ rest j)

pub take-whole : {X : Type 0} (xs : List X) (i : ℕ) → length xs ≤ i → take i xs ≡ xs
take-whole [] zero h = refl
take-whole [] (suc i) h = refl
take-whole (x ∷ xs) zero h = absurd (omega arith)
take-whole (x ∷ xs) (suc i) h = ap (λ ys. x ∷ ys) (take-whole xs i (omega arith))
