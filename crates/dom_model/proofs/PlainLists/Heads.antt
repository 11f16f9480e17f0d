-- What is told of a list of numbers by its first number and by the rest.
use Rattle.std.proofs.Common.{◌≡◌, ℕ, true, List, ◌∷◌, refl, sym, arith}
use Rattle.std.proofs.lemmas.Bool.{eq-eqb, ne_eqb}
use Rattle.dom_model.specs.Definitions.{hits, among, after, head_of}

pub hits-rest : (k e : ℕ) (xs : List ℕ) → (k ≡ e → ⊥) → hits k (e ∷ xs) ≡ hits k xs
hits-rest k e xs d = rw (ne_eqb e k (λ q. d (sym q))) (omega arith)

pub after-first : (e : ℕ) (xs : List ℕ) → after e (e ∷ xs) ≡ head_of xs
after-first e xs = rw (eq-eqb e e refl) refl

pub after-rest : (k e : ℕ) (xs : List ℕ) → (k ≡ e → ⊥) → after k (e ∷ xs) ≡ after k xs
after-rest k e xs d = rw (ne_eqb e k (λ q. d (sym q))) refl

pub among-first : (e : ℕ) (xs : List ℕ) → among e (e ∷ xs) ≡ true
among-first e xs = rw (eq-eqb e e refl) refl

pub among-rest : (k e : ℕ) (xs : List ℕ) → (k ≡ e → ⊥) → among k (e ∷ xs) ≡ among k xs
among-rest k e xs d = rw (ne_eqb e k (λ q. d (sym q))) refl
