-- Two numbers are the same or not, with what a test then answers.
use Rattle.std.proofs.Common.{◌≡◌, ℕ, ◌==◌, true, false, eq-eqb, ⊎_elim}
use Rattle.std.proofs.lemmas.Bool.{cases_eq, ne_eqb}

pub data Same (m n : ℕ) : Type 0 where
  same : m ≡ n → (m == n) ≡ true → Same m n
  apart : (m ≡ n → ⊥) → (m == n) ≡ false → Same m n

pub same_or : (m n : ℕ) → Same m n
same_or m n =
    ⊎_elim (λ (e : m ≡ n). same e (eq-eqb m n e)) (λ (ne : m ≡ n → ⊥). apart ne (ne_eqb m n ne)) (cases_eq m n)
