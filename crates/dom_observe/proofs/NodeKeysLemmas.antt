-- A key that goes from behind those that are passed over.
use Rattle.std.proofs.Common.{◌≡◌, ℕ, zero, suc, ◌+◌, ◌<◌, List, [], ◌∷◌, ◌++◌, take, drop, length, remove, ap, arith}
use Rattle.std.proofs.Math.Seq.{paste}

-- those ahead of it have moved on by one place
pub drop-moved : (passed place : ℕ) (keys : List ℕ) → passed + place < length keys → drop (passed + 1) (paste keys (passed + 1) (drop passed keys) place) ≡ remove (drop passed keys) place
drop-moved zero place [] h = absurd (omega (arith, h))
drop-moved zero place (key ∷ keys) h =
    let one : 0 + 1 + place ≡ suc place = omega arith in
    ap (λ k. take place (key ∷ keys) ++ drop k (key ∷ keys)) one
drop-moved (suc passed) place [] h = absurd (omega (arith, h))
drop-moved (suc passed) place (key ∷ keys) h =
    let first : suc passed + 1 ≡ suc (passed + 1) = omega arith in
    let end : suc (passed + 1) + place ≡ suc (passed + 1 + place) = omega arith in
    rw (first, end) (drop-moved passed place keys (omega (arith, h)))

-- those behind it have moved
pub drop-remove : (passed place : ℕ) (keys : List ℕ) → passed + place < length keys → drop passed (remove keys (passed + place)) ≡ remove (drop passed keys) place
drop-remove zero place keys h = let none : 0 + place ≡ place = omega arith in ap (remove keys) none
drop-remove (suc passed) place [] h = absurd (omega (arith, h))
drop-remove (suc passed) place (key ∷ keys) h =
    let here : suc passed + place ≡ suc (passed + place) = omega arith in
    rw here (drop-remove passed place keys (omega (arith, h)))
