-- What stands under each number that was given out.
use Rattle.std.specs.Prelude.{ℕ, refl, List, slice_index_or, Option, None}
use Rattle.std.specs.Coded.{Coded, code_by, coded×, coded_list, coded_ℕ, coded_option}

-- by number what stands under it, none where the number was taken back; and how many more numbers have room
pub record NumberedList (T : Type 0) : Type 0 where
  pub items : List (Option T)
  pub room : ℕ

abbrev pub numbered_code : {T : Type 0} → Coded T → Coded (NumberedList T)
numbered_code {T} c =
    code_by (List (Option T) × ℕ) (coded× (coded_list (coded_option c)) coded_ℕ) (λ n. (n.items, n.room)) (λ p. record { items = p.0; room = p.1 }) (λ _. refl)

-- what stands under a number
abbrev pub item_at : {T : Type 0} → List (Option T) → ℕ → Option T
item_at items n = slice_index_or items n None
