-- Numbers that come last in a list, each once.
use Rattle.std.specs.Prelude.{ℕ, if◌then◌else◌, List, [], ◌∷◌, ◌++◌}
use Rattle.dom_model.specs.PlainLists.Lists.{among}

-- a number comes last in a list where it is not there yet
abbrev pub with_last : List ℕ → ℕ → List ℕ
with_last ns n = if among n ns then ns else ns ++ n ∷ []

-- the numbers of a list come last, one after another
abbrev pub with_all_last : List ℕ → List ℕ → List ℕ
with_all_last ns [] = ns
with_all_last ns (m ∷ ms) = with_all_last (with_last ns m) ms
