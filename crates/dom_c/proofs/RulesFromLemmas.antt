-- Fewer verdicts than lengths.
use Rattle.std.proofs.Common.{arith, ◌≡◌, ◌<◌, ℕ, zero, suc, List, [], ◌∷◌, length, drop, refl, Err}
use Rattle.dom_model.specs.Definitions.{FilterRule}
use Rattle.dom_c.specs.{Statuses.bad_lengths, NameLists.rules_from}

pub too_few : (rules : List FilterRule) (i : ℕ) (lengths verdicts bytes : List ℕ) → i < length lengths → length verdicts < 1 → rules_from rules (drop i lengths) verdicts bytes ≡ Err bad_lengths
too_few rules i [] verdicts bytes inside few = absurd (omega (arith, inside))
too_few rules i (n ∷ lengths) (v ∷ verdicts) bytes inside few = absurd (omega (arith, few))
too_few rules zero (n ∷ lengths) [] bytes inside few = refl
too_few rules (suc i) (n ∷ lengths) [] bytes inside few = too_few rules i lengths [] bytes (omega (arith, inside)) few
