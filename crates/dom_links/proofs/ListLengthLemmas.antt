-- Lists with no number twice are short.
use Rattle.std.proofs.Common.{◌≡◌, ℕ, zero, suc, ◌≤◌, ◌<◌, List, [], ◌∷◌, length, refl, ⊎_elim, arith}
use Rattle.std.proofs.lemmas.Bool.{cases_eq, eq-eqb}
use Rattle.dom_model.specs.Definitions.{hits, left_out}
use Rattle.dom_links.proofs.ListNeighbourLemmas.{hits-left_out_other}
use Rattle.dom_model.proofs.MutationAlgorithms.Emptied.{none-left_out}
use Rattle.dom_model.proofs.Worlds.Measured.{length-left_out}

-- numbers below n, each at most once, are at most n
pub length-le_from_once : (n : ℕ) (xs : List ℕ) → ((i : ℕ) → hits i xs ≤ 1) → ((i : ℕ) → n ≤ i → hits i xs ≡ 0) → length xs ≤ n
length-le_from_once zero [] once none = omega arith
length-le_from_once zero (x ∷ xs) once none =
    let k = none x (omega arith) in
    let p : 0 < hits x (x ∷ xs) = rw (eq-eqb x x refl) (omega arith) in
    absurd (omega arith)
length-le_from_once (suc n) xs once none =
    let ys = left_out n xs in
    let fewer : length ys ≤ n = length-le_from_once n ys
    (λ i. ⊎_elim (λ (e : n ≡ i). rw (← e) (omega (arith, none-left_out n xs))) (λ (d : n ≡ i → ⊥). omega (arith, hits-left_out_other i n xs d, once i)) (cases_eq n i))
    (λ i h. ⊎_elim (λ (e : n ≡ i). rw (← e) (none-left_out n xs)) (λ (d : n ≡ i → ⊥). omega (arith, hits-left_out_other i n xs d, none i (omega arith))) (cases_eq n i)) in
    omega (arith, length-left_out n xs, once n)
