-- The way down to a node's end: through last children, as long as no node is rejected.
use Rattle.std.specs.Prelude.{◌≡◌, ℕ, true, false, Some, None, ◌⊎◌}
use Rattle.dom_model.specs.PlainLists.Lists.{last_of}
use Rattle.dom_model.specs.Forests.Forest.{Forest, children_of}
use Rattle.dom_model.specs.Worlds.World.{Filter}
use Rattle.dom_model.specs.Traversal.Filters.{rejects}

module _ {X : Type 0} (f : Forest X) (filter : Filter) (n : ℕ) where
  -- the way from n leads to a node
  pub data Descends : ℕ → Type 0 where
    begun : Descends n
    down : (m e : ℕ) → Descends m → rejects f filter m ≡ false → last_of (children_of f m) ≡ Some e → Descends e

-- it goes no further
abbrev pub IsEnd : {X : Type 0} → Forest X → Filter → ℕ → Type 0
IsEnd f filter e = (rejects f filter e ≡ true) ⊎ (last_of (children_of f e) ≡ None)
