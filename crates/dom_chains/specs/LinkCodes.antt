-- What a number stands for that is kept for a link, or for the head of a chain: the highest numbers, which no item has, stand for what is not there.
use Rattle.std.specs.Prelude.{◌≡◌, ℕ, ◌==◌, false, if◌then◌else◌, Option, Some, None, refl}
use Rattle.std.proofs.Common.{⊎_elim}
use Rattle.std.proofs.lemmas.Bool.{cases_eq, ne_eqb}

-- where a link leads
abbrev pub link_kept : ℕ → Option ℕ
link_kept n = if n == 18446744073709551615 then None else Some n

-- the head of a key's chain, nothing for a key that is not covered
abbrev pub head_kept : ℕ → Option (Option ℕ)
head_kept n = if n == 18446744073709551614 then None else Some (link_kept n)

-- the number that is kept for a link
abbrev pub number_kept : Option ℕ → ℕ
number_kept None = 18446744073709551615
number_kept (Some n) = n

pub number_kept-link_kept : (n : ℕ) → number_kept (link_kept n) ≡ n
number_kept-link_kept n =
    ⊎_elim (λ (e : n ≡ 18446744073709551615). rw e refl)
    (λ (d : n ≡ 18446744073709551615 → ⊥). let y : (n == 18446744073709551615) ≡ false = ne_eqb n 18446744073709551615 d in rw y refl) (cases_eq n 18446744073709551615)
