-- Where a number stands that a list of trees has once: on top of the first tree, inside it or beyond it.
use Rattle.std.proofs.Common.{◌≡◌, ℕ, ◌==◌, ◌<◌, ◌≤◌, true, false, arith, ⊎_elim}
use Rattle.std.proofs.lemmas.Bool.{cases_lt}
use Rattle.dom_model.specs.Definitions.{Node, Forest, node, occurs}
use Rattle.dom_model.proofs.PlainLists.Numbers.{same_or, same, apart}

pub data Whereabouts {X : Type 0} (n : ℕ) (x : Node X) (kids rest : Forest X) : Type 0 where
  top : x.number ≡ n → (x.number == n) ≡ true → occurs n kids ≡ 0 → occurs n rest ≡ 0 → Whereabouts n x kids rest
  inside : (x.number ≡ n → ⊥) → (x.number == n) ≡ false → occurs n kids ≡ 1 → occurs n rest ≡ 0 → Whereabouts n x kids rest
  beyond : (x.number ≡ n → ⊥) → (x.number == n) ≡ false → occurs n kids ≡ 0 → occurs n rest ≡ 1 → Whereabouts n x kids rest

pub whereabouts : {X : Type 0} (n : ℕ) (x : Node X) (kids rest : Forest X) → occurs n (node x kids rest) ≡ 1 → Whereabouts n x kids rest
whereabouts n x kids rest h =
    elim (same_or x.number n) [
      | same e t ↦ (let k = rw t at h in top e t (omega arith) (omega arith))
      | apart ne t ↦
          let k = rw t at h in
          ⊎_elim
          (λ (lt : 0 < occurs n kids). inside ne t (omega arith) (omega arith))
          (λ (le : occurs n kids ≤ 0). beyond ne t (omega arith) (omega arith))
          (cases_lt 0 (occurs n kids))
    ]
