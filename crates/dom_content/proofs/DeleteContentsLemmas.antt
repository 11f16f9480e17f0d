-- Steps that are the same of every world that a world of the code keeps, and what is deleted of a range. DOM Standard, "Interface Range".
use Rattle.std.proofs.Common.{◌≡◌, ℕ, Option, Some, ap, ◌∙◌}
use Rattle.dom_model.specs.Definitions.{Range, range_at, for_range, deleted, delete_contents}
use Rattle.dom_model.specs.Worlds.World as model
use Rattle.dom_ranges.specs.Tables.{range_in}
use Rattle.dom_edit.specs.{declared.world.World.World, Whole.Keeps}

-- the range is the same in every world that is kept
pub range-deleted : (v : World) (r : ℕ) (range : Range) → range_in v.ranges r ≡ Some range → (w : model.World) → Keeps v w → delete_contents r w ≡ deleted r range w
range-deleted v r range e w k =
    let d : range_at w r ≡ Some range = ap (λ rs. range_in (record { ranges = rs; covered = v.ranges.covered }) r) k.ranges ∙ e in
    ap (λ (o : Option Range). for_range o w (λ x. deleted r x w)) d
