-- What stands at a place of a list in which each stands once.
use Rattle.std.proofs.Common.{◌≡◌, ℕ, zero, suc, ◌+◌, ◌-◌, ◌<◌, ◌≤◌, List, [], ◌∷◌, length, Some, IsSome, refl, ap, arith, slice_get}
use Rattle.dom_model.specs.Definitions.{hits, place_in}
use Rattle.dom_model.proofs.PlainLists.Numbers.{same_or, same, apart}
use Rattle.dom_model.proofs.Forests.{Changes.seen, Changes.nothing, Changes.just, Siblings.hits-get}

pub get-place : (l : List ℕ) (i c : ℕ) → ((k : ℕ) → hits k l ≤ 1) → slice_get l i ≡ Some c → place_in c l ≡ i
get-place [] i c o e = absurd (cc e)
get-place (x ∷ xs) zero c o e = (let d : x ≡ c = cc e in elim (same_or x c) [ same _ t ↦ rw t refl | apart ne t ↦ absurd (ne d) ])
get-place (x ∷ xs) (suc i) c o e =
    elim (same_or x c) [
      | same d t ↦ absurd (let w = o c in let w2 = rw t at w in let z = hits-get xs i c e in omega arith)
      | apart ne t ↦ rw t (omega (arith, get-place xs i c (λ k. let w = o k in omega arith) e))
    ]

pub get-within : (l : List ℕ) (i : ℕ) → i < length l → IsSome (slice_get l i)
get-within [] i h = absurd (omega arith)
get-within (x ∷ xs) zero h = refl
get-within (x ∷ xs) (suc i) h = get-within xs i (omega arith)

pub place-get : (l : List ℕ) (c : ℕ) → 0 < hits c l → slice_get l (place_in c l) ≡ Some c
place-get [] c h = absurd (omega arith)
place-get (x ∷ xs) c h =
    elim (same_or x c) [
      | same e t ↦ rw t (ap Some e)
      | apart ne t ↦
          let k = rw t at h in
          let one_more : 1 + place_in c xs ≡ suc (place_in c xs) = omega arith in
          rw (t, one_more) (place-get xs c (omega arith))
    ]

-- the last of a list
pub last-there : (l : List ℕ) → 0 < length l → ((k : ℕ) → hits k l ≤ 1) → (c : ℕ) × ((0 < hits c l) × (place_in c l ≡ length l - 1))
last-there l h o =
    elim (seen (slice_get l (length l - 1))) [
      | nothing e ↦ absurd (let i = get-within l (length l - 1) (omega arith) in let j = rw e at i in cc j)
      | just c e ↦ (c, (hits-get l (length l - 1) c e, get-place l (length l - 1) c o e))
    ]
