-- How many pass a test, in lists that change as registrations do.
use Rattle.std.proofs.Common.{◌≡◌, ℕ, ◌+◌, ◌≤◌, Bool, true, false, ◌||◌, List, [], ◌∷◌, ◌++◌, length, map, filter, refl, arith, cond}
use Rattle.std.specs.List.{list_any}
use Rattle.std.proofs.lemmas.Bool.{true≢false}

-- how many pass
abbrev pub tally : {A : Type 0} → (A → Bool) → List A → ℕ
tally p xs = length (filter p xs)

module _ {A : Type 0} (p : A → Bool) where
  pub count-append : (xs ys : List A) → tally p (xs ++ ys) ≡ tally p xs + tally p ys
  count-append [] ys = omega arith
  count-append (x ∷ xs) ys = go (p x) (count-append xs ys)
    where
      go : (b : Bool) → tally p (xs ++ ys) ≡ tally p xs + tally p ys → length (cond b (x ∷ filter p (xs ++ ys)) (filter p (xs ++ ys))) ≡ length (cond b (x ∷ filter p xs) (filter p xs)) + tally p ys
      go true i = omega (arith, i)
      go false i = i

  pub count-filter : (keep : A → Bool) (xs : List A) → tally p (filter keep xs) ≤ tally p xs
  count-filter keep [] = omega arith
  count-filter keep (x ∷ xs) = go (keep x) (p x) refl (count-filter keep xs)
    where
      go : (b v : Bool) → p x ≡ v → tally p (filter keep xs) ≤ tally p xs → tally p (cond b (x ∷ filter keep xs) (filter keep xs)) ≤ length (cond v (x ∷ filter p xs) (filter p xs))
      go true true e i = rw e (omega (arith, i))
      go true false e i = rw e i
      go false true e i = omega (arith, i)
      go false false e i = i

  pub count-map : (f : A → A) → ((x : A) → p (f x) ≡ p x) → (xs : List A) → tally p (map f xs) ≡ tally p xs
  count-map f same [] = refl
  count-map f same (x ∷ xs) = rw (same x) (go (p x) (count-map f same xs))
    where
      go : (b : Bool) → tally p (map f xs) ≡ tally p xs → length (cond b (f x ∷ filter p (map f xs)) (filter p (map f xs))) ≡ length (cond b (x ∷ filter p xs) (filter p xs))
      go true i = omega (arith, i)
      go false i = i

  pub count-none : (xs : List A) → list_any p xs ≡ false → tally p xs ≡ 0
  count-none [] h = refl
  count-none (x ∷ xs) h = go (p x) h (count-none xs)
    where
      go : (b : Bool) → (b || list_any p xs) ≡ false → (list_any p xs ≡ false → tally p xs ≡ 0) → length (cond b (x ∷ filter p xs) (filter p xs)) ≡ 0
      go true e i = absurd (true≢false e)
      go false e i = i e

  -- none passes
  pub count-fails : (f : A → A) → ((x : A) → p (f x) ≡ false) → (xs : List A) → tally p (map f xs) ≡ 0
  count-fails f fails [] = refl
  count-fails f fails (x ∷ xs) = rw (fails x) (count-fails f fails xs)

  pub any-from_count : (xs : List A) → tally p xs ≡ 0 → list_any p xs ≡ false
  any-from_count [] h = refl
  any-from_count (x ∷ xs) h = go (p x) h (any-from_count xs)
    where
      go : (b : Bool) → length (cond b (x ∷ filter p xs) (filter p xs)) ≡ 0 → (tally p xs ≡ 0 → list_any p xs ≡ false) → (b || list_any p xs) ≡ false
      go true e i = absurd (omega arith)
      go false e i = i e
