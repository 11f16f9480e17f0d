-- A way down: each step goes to a child. DOM Standard, "Trees".
use Rattle.std.specs.Prelude.{◌≡◌, ℕ, ◌<◌, List, [], ◌∷◌, Some}
use Rattle.dom_model.specs.Forests.Forest.{Forest, occurs, parent_of}

module _ {X : Type 0} where
  -- from a node down to another
  abbrev pub IsWay : Forest X → ℕ → List ℕ → ℕ → Type 0
  IsWay f u [] n = u ≡ n
  IsWay f u (m ∷ ms) n = (0 < occurs m f) × (parent_of f m ≡ Some u) × IsWay f m ms n
