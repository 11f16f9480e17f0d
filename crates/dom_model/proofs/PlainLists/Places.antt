-- Where a number stands in a list that another leaves or comes into.
use Rattle.std.proofs.Common.{◌≡◌, ℕ, ◌+◌, ◌<◌, ◌≤◌, ◌==◌, nat_lt, nat_le, false, if◌then◌else◌, List, [], ◌∷◌, length, Option, Some, None, refl, arith}
use Rattle.std.proofs.lemmas.Bool.Decides.{nat_tests}
use Rattle.dom_model.specs.Definitions.{hits, is_number, place_in, entered, left_out}
use Rattle.dom_model.proofs.PlainLists.Numbers.{same_or, same, apart}
use Rattle.dom_model.proofs.Forests.Lying.{left_out-absent}

-- the place that a number gets which comes in before b, or last
abbrev pub place_before : Option ℕ → List ℕ → ℕ
place_before None ns = length ns
place_before (Some b) ns = place_in b ns

pub place-absent : (n : ℕ) (ns : List ℕ) → hits n ns ≡ 0 → place_in n ns ≡ length ns
place-absent n [] h = refl
place-absent n (x ∷ xs) h = grind (arith, place-absent n xs)

pub place-there : (n : ℕ) (ns : List ℕ) → 0 < hits n ns → place_in n ns < length ns
place-there n [] h = absurd (omega arith)
place-there n (x ∷ xs) h = grind (arith, place-there n xs)

-- what stood after c moves back by one
pub place-left_out : (c n : ℕ) (ns : List ℕ) → hits c ns ≤ 1 → (n == c) ≡ false → place_in n (left_out c ns) + (if nat_lt (place_in c ns) (place_in n ns) then 1 else 0) ≡ place_in n ns
place-left_out c n [] h d = refl
place-left_out c n (x ∷ xs) h d = grind (arith, nat_tests, left_out-absent c xs, place-left_out c n xs)

-- what comes in stands where b stood, or last
pub place-entered : (b : Option ℕ) (c : ℕ) (ns : List ℕ) → hits c ns ≡ 0 → is_number b c ≡ false → place_in c (entered b c ns) ≡ place_before b ns
place-entered None c [] h d = elim (same_or c c) [ same e t ↦ rw t refl | apart ne t ↦ absurd (ne refl) ]
place-entered (Some b) c [] h d = elim (same_or c c) [ same e t ↦ rw t refl | apart ne t ↦ absurd (ne refl) ]
place-entered None c (x ∷ xs) h d = grind (arith, place-entered None c xs)
place-entered (Some b) c (x ∷ xs) h d = grind (arith, place-entered (Some b) c xs)

-- what stood there or later moves on by one
pub place-kept : (b : Option ℕ) (c n : ℕ) (ns : List ℕ) → (c == n) ≡ false → 0 < hits n ns → place_in n (entered b c ns) ≡ place_in n ns + (if nat_le (place_before b ns) (place_in n ns) then 1 else 0)
place-kept None c n [] d h = absurd (omega arith)
place-kept (Some b) c n [] d h = absurd (omega arith)
place-kept None c n (x ∷ xs) d h = grind (arith, place-kept None c n xs d)
place-kept (Some b) c n (x ∷ xs) d h = grind (arith, place-kept (Some b) c n xs d)
