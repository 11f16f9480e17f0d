-- Rising lists of numbers.
use Rattle.std.proofs.Common.{◌≡◌, ℕ, suc, ◌<◌, List, [], ◌∷◌, refl, arith}
use Rattle.std.proofs.lemmas.Bool.Decides.{nat_tests}
use Rattle.dom_model.specs.Definitions.{hits, IsRising}

pub hits-low : (low n : ℕ) (ns : List ℕ) → IsRising low ns → n < low → hits n ns ≡ 0
hits-low low n [] r h = refl
hits-low low n (m ∷ ms) r h = grind (arith, hits-low (suc m) n ms r.1)

-- numbers that rise and stand in both lists alike
pub rising_same : (low : ℕ) (xs ys : List ℕ) → IsRising low xs → IsRising low ys → ((n : ℕ) → hits n xs ≡ hits n ys) → xs ≡ ys
rising_same low [] [] r s h = refl
rising_same low [] (y ∷ ys) r s h = absurd (let k = h y in grind (arith, nat_tests))
rising_same low (x ∷ xs) [] r s h = absurd (let k = h x in grind (arith, nat_tests))
rising_same low (x ∷ xs) (y ∷ ys) r s h = grind (arith, hits-low (suc y) x ys s.1, hits-low (suc x) y xs r.1, rising_same (suc y) xs ys)
