-- What stands beside a number in a list, or at its head, stands in the list.
use Rattle.std.proofs.Common.{◌≡◌, ℕ, ◌<◌, ◌==◌, false, List, [], ◌∷◌, Option, Some, None, refl, sym, ◌∙◌, ⊎_elim, arith}
use Rattle.std.proofs.lemmas.Bool.{cases_eq, eq-eqb, false≢true}
use Rattle.dom_model.specs.Definitions.{hits, is_number, head_of, after, before}
use Rattle.dom_links.proofs.ListNeighbourLemmas.{head_of-none, after-none, before_from-none}

there : (o : Option ℕ) (k : ℕ) (xs : List ℕ) → (hits k xs ≡ 0 → is_number o k ≡ false) → o ≡ Some k → 0 < hits k xs
there o k xs none h =
    ⊎_elim (λ (z : hits k xs ≡ 0). let a : (k == k) ≡ false = rw h at (none z) in absurd (false≢true (sym a ∙ eq-eqb k k refl)))
    (λ (d : hits k xs ≡ 0 → ⊥). omega arith) (cases_eq (hits k xs) 0)

pub after-there : (e k : ℕ) (xs : List ℕ) → after e xs ≡ Some k → 0 < hits k xs
after-there e k xs = there (after e xs) k xs (after-none e k xs)

pub before-there : (e k : ℕ) (xs : List ℕ) → before e xs ≡ Some k → 0 < hits k xs
before-there e k xs = there (before e xs) k xs (λ z. before_from-none None e k xs z refl)

pub head-there : (k : ℕ) (xs : List ℕ) → head_of xs ≡ Some k → 0 < hits k xs
head-there k xs = there (head_of xs) k xs (head_of-none k xs)

-- where a number stands there is a head
pub has-head : (e : ℕ) (xs : List ℕ) → 0 < hits e xs → head_of xs ≡ None → ⊥
has-head e [] h n = omega arith
has-head e (x ∷ xs) h n = cc
