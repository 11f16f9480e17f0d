-- What waits while a tree is gone through in its order.
use Rattle.std.specs.Prelude.{ℕ, List, [], ◌∷◌, Option, Some, None}
use Rattle.dom_clone.specs.declared.walk_stack.Waiting.{Waiting}

-- the one that waits, where there is one
abbrev pub waiting_from : {Place : Type 0} → Option ℕ → Place → List (Waiting Place)
waiting_from None place = []
waiting_from (Some first) place = record { first = first; place = place } ∷ []
