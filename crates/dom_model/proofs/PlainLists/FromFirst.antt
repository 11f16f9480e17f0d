-- A list from a number on: it begins with the number, and goes on from the one after it.
use Rattle.std.proofs.Common.{◌≡◌, ℕ, ◌<◌, ◌≤◌, List, [], ◌∷◌, Some, None, arith}
use Rattle.dom_model.specs.Definitions.{hits, after, from_first}
use Rattle.dom_model.proofs.Forests.PutBack.{hits-after}

pub from-after : (n m : ℕ) (l : List ℕ) → hits m l ≤ 1 → after n l ≡ Some m → from_first n l ≡ n ∷ from_first m l
from-after n m [] o e = absurd (cc e)
from-after n m (x ∷ xs) o e = grind (arith, hits-after n xs m, from-after n m xs)

pub from-last : (n : ℕ) (l : List ℕ) → 0 < hits n l → after n l ≡ None → from_first n l ≡ n ∷ []
from-last n [] h e = absurd (omega arith)
from-last n (x ∷ xs) h e = grind (arith, from-last n xs)
