-- What is found where a test is put to the numbers of a list in turn.
use Rattle.std.specs.Prelude.{ℕ, zero, suc, Bool, true, false, if◌then◌else◌, List, [], ◌∷◌, Option, Some, None}

-- At most `steps` numbers are asked, in order: true at the first that passes, false where all were
-- asked and none passes, none where so many were asked, none passes and there are more.
abbrev pub first_asked : List ℕ → ℕ → (ℕ → Bool) → Option Bool
first_asked [] steps test = Some false
first_asked (n ∷ ns) zero test = None
first_asked (n ∷ ns) (suc k) test = if test n then Some true else first_asked ns k test
