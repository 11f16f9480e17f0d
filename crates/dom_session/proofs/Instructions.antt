-- Looking for the end of a processing instruction, unit by unit.
use Rattle.std.proofs.Common.{◌==◌, ◌&&◌, ◌||◌, ◌≡◌, ℕ, Bool, false, List, [], ◌∷◌, refl, ap}
use Rattle.dom_model.specs.Definitions.{closes_instruction}

-- whether the rest closes, where it comes after a question mark or not
abbrev pub closes_after : Bool → List ℕ → Bool
closes_after marked [] = false
closes_after marked (u ∷ units) = (marked && (u == 62)) || closes_after (u == 63) units

closes-first : (u : ℕ) (units : List ℕ) → closes_instruction (u ∷ units) ≡ closes_after (u == 63) units
closes-first u [] = refl
closes-first u (v ∷ units) = ap (λ t. ((u == 63) && (v == 62)) || t) (closes-first v units)

pub closes_instruction-after : (units : List ℕ) → closes_instruction units ≡ closes_after false units
closes_instruction-after [] = refl
closes_instruction-after (u ∷ units) = closes-first u units
