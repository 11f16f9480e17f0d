-- A node and its parent: the parent is there, and its ancestors follow the node.
use Rattle.std.proofs.Common.{◌≡◌, ℕ, ◌∷◌, Some}
use Rattle.dom_model.specs.Definitions.{Forest, Grove, HasNode, parent_of, ancestors, IsForest}
use Rattle.dom_model.proofs.Forests.{Entries.occurs-HasNode, Entries.HasNode-occurs, Paths.parent-path}

-- a parent is there, and its ancestors follow
pub record Above {X : Type 0} (f : Forest X) (n q : ℕ) : Type 0 where
  pub there : HasNode f q
  pub path : ancestors n f ≡ n ∷ ancestors q f

module _ {X : Type 0} {g : Grove X} (s : IsForest g) where
  pub above : (n q : ℕ) → HasNode g.forest n → parent_of g.forest n ≡ Some q → Above g.forest n q
  above n q h p =
      let i = parent-path g.forest s.once n q (occurs-HasNode g.forest n h) p in
      record { there = HasNode-occurs g.forest q i.0; path = i.1 }
