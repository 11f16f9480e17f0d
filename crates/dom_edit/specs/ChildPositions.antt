-- Where a child stands, as it is read before the child leaves.
use Rattle.std.specs.Prelude.{◌≡◌, ℕ, Some}
use Rattle.dom_model.specs.Forests.Forest.{Forest, parent_of, previous_of, next_of}
use Rattle.dom_model.specs.Worlds.World.{Content}
use Rattle.dom_edit.specs.declared.removal.ChildPosition.{ChildPosition}

-- under its parent, between two siblings
pub record IsSeat (f : Forest Content) (n : ℕ) (seat : ChildPosition) : Type 0 where
  pub parent : parent_of f n ≡ Some seat.parent
  pub previous : seat.previous ≡ previous_of f n
  pub next : seat.next ≡ next_of f n
