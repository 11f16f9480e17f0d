-- A scan of units that remembers whether the unit before was the first of a pair.
use Rattle.std.proofs.Common.{◌≡◌, ℕ, Bool, true, false, not, ◌&&◌, List, [], ◌∷◌, refl, arith, inl, inr, if◌then◌else◌, nat_le, nat_lt}
use Rattle.std.proofs.lemmas.{Bool.cases_lt, Bool.Decides.nat_tests}
use Rattle.std.specs.Char.Utf16.{utf16_chars, is_low_surrogate, is_high_surrogate}
use Rattle.dom_model.specs.Definitions.{is_well_formed_units}

-- whether two answers are the same
abbrev pub same : Bool → Bool → Bool
same true b = b
same false b = not b

-- whether the units are well-formed, where a low surrogate has to come first or may not
abbrev pub scanned : Bool → List ℕ → Bool
scanned wants_low [] = not wants_low
scanned wants_low (u ∷ us) = if same wants_low (is_low_surrogate u) then scanned (is_high_surrogate u) us else false

abbrev is_surrogate : ℕ → Bool
is_surrogate u = nat_le 0xD800 u && nat_lt u 0xE000

-- what a unit is
data Class (u : ℕ) : Type 0 where
  plain : is_high_surrogate u ≡ false → is_low_surrogate u ≡ false → is_surrogate u ≡ false → Class u
  high : is_high_surrogate u ≡ true → is_low_surrogate u ≡ false → is_surrogate u ≡ true → Class u
  low : is_high_surrogate u ≡ false → is_low_surrogate u ≡ true → is_surrogate u ≡ true → Class u

class_of : (u : ℕ) → Class u
class_of u = elim (cases_lt u 0xD800) [
  | inl a ↦ plain (grind (arith, nat_tests)) (grind (arith, nat_tests)) (grind (arith, nat_tests))
  | inr a ↦ elim (cases_lt u 0xDC00) [
    | inl b ↦ high (grind (arith, nat_tests)) (grind (arith, nat_tests)) (grind (arith, nat_tests))
    | inr b ↦ elim (cases_lt u 0xE000) [
      | inl d ↦ low (grind (arith, nat_tests)) (grind (arith, nat_tests)) (grind (arith, nat_tests))
      | inr d ↦ plain (grind (arith, nat_tests)) (grind (arith, nat_tests)) (grind (arith, nat_tests))
    ]
  ]
]

last_one : (u : ℕ) → Class u → scanned false (u ∷ []) ≡ is_well_formed_units (u ∷ [])
unfolding utf16_chars
last_one u (plain h l s) = rw (h, l, s) refl
last_one u (high h l s) = rw (h, l, s) refl
last_one u (low h l s) = rw (h, l, s) refl

two_more : (u v : ℕ) (us : List ℕ) → Class u → Class v → scanned false us ≡ is_well_formed_units us
    → scanned false (v ∷ us) ≡ is_well_formed_units (v ∷ us) → scanned false (u ∷ v ∷ us) ≡ is_well_formed_units (u ∷ v ∷ us)
unfolding utf16_chars
two_more u v us (plain h l s) c ih ih' = rw (l, h, s) ih'
two_more u v us (high h l s) (plain h' l' s') ih ih' = rw (l, h, l', s) refl
two_more u v us (high h l s) (high h' l' s') ih ih' = rw (l, h, l', s) refl
two_more u v us (high h l s) (low h' l' s') ih ih' = rw (l, h, l', h') ih
two_more u v us (low h l s) c ih ih' = rw (l, h, s) refl

pub scanned-is_well_formed : (us : List ℕ) → scanned false us ≡ is_well_formed_units us
unfolding utf16_chars
scanned-is_well_formed [] = refl
scanned-is_well_formed (u ∷ []) = last_one u (class_of u)
scanned-is_well_formed (u ∷ v ∷ us) =
    two_more u v us (class_of u) (class_of v) (scanned-is_well_formed us) (scanned-is_well_formed (v ∷ us))
