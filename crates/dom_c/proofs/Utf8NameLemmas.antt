-- Bytes as names: those that are UTF-8, and those that are not.
use Rattle.std.proofs.Common.{◌≡◌, ℕ, List, refl, Ok, Err, IsUtf8}
use Rattle.std.proofs.lemmas.{Str.IsUtf8-from_is_utf8, Str.is_utf8-from_IsUtf8, Bool.false_from_ne_true}
use Rattle.std.specs.Str.{is_utf8}
use Rattle.dom_c.specs.{Statuses.not_utf8, Arguments.utf8_name}

pub name_in-ok : (bs : List ℕ) → IsUtf8 bs → utf8_name bs ≡ Ok bs
name_in-ok bs u = rw (is_utf8-from_IsUtf8 bs u) refl

pub name_in-err : (bs : List ℕ) → (IsUtf8 bs → ⊥) → utf8_name bs ≡ Err not_utf8
name_in-err bs n = rw (false_from_ne_true (is_utf8 bs) (λ e. n (IsUtf8-from_is_utf8 bs e))) refl
