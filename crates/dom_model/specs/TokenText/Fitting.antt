-- What a primitive edit of the token text needs, so that each marker stays where its end stands.
use Rattle.std.specs.Prelude.{◌≡◌, ℕ, ◌+◌, ◌<◌, ◌≤◌, Bool, true, false, List, [], ◌∷◌, length, Option, Some, None, option_map, slice_index_or}
use Rattle.dom_model.specs.Forests.Kinds.{is_character_data}
use Rattle.dom_model.specs.Forests.Forest.{Forest, empty, node, occurs, tree_at, parent_of, children_of, index_of}
use Rattle.dom_model.specs.Worlds.Lengths.{node_length, unit_count}
use Rattle.dom_model.specs.Worlds.World.{Content, Point, Range, World}
use Rattle.dom_model.specs.Forests.Nodes.{kind_passes}
use Rattle.dom_model.specs.RangesAndContents.Ranges.{end_of, range_at}
use Rattle.dom_model.specs.DataAndCopies.Data.{data_of}
use Rattle.dom_model.specs.TokenText.Tokens.{Edit, Removal, Insertion, Splice, Parting, Merge, EndSet, Making, RangeMaking, Release, Discard}
use Rattle.dom_model.specs.TokenText.Edits.{on_world}

-- character data has no children
abbrev pub Childless : Forest Content → Type 0
Childless empty = Unit {0}
Childless (node x kids rest) = (is_character_data x.label.kind ≡ true → kids ≡ empty) × Childless kids × Childless rest

-- an end of a live range; none where there is no such range
abbrev pub end_at : List (Option Range) → ℕ → Bool → Option Point
end_at ranges r side = option_map (end_of side) (slice_index_or ranges r None)

-- a point of the world: its node stands in the forest, and its offset is within the node's length
pub record IsPoint (w : World) (p : Point) : Type 0 where
  pub there : 0 < occurs p.node w.forest
  pub within : p.offset ≤ node_length unit_count w.forest p.node

-- a number stands once in the forest, and each end of a live range is a point there
pub record IsReady (w : World) : Type 0 where
  pub once : (n : ℕ) → occurs n w.forest ≤ 1
  pub points : (r : ℕ) (side : Bool) (p : Point) → end_at w.ranges r side ≡ Some p → IsPoint w p

-- the edit fits the world, as where the operations make it
pub data Fits (w : World) : Edit → Type 0 where
  fits_removal : (n parent : ℕ) → parent_of w.forest n ≡ Some parent → Fits w (Removal n)
  fits_insertion : (n : ℕ) (p : Point) → 0 < occurs n w.forest → parent_of w.forest n ≡ None → 0 < occurs p.node w.forest →
      occurs p.node (tree_at n w.forest) ≡ 0 → kind_passes is_character_data w.forest p.node ≡ false → p.offset ≤ length (children_of w.forest p.node) →
      Fits w (Insertion n p)
  fits_splice : (n offset count : ℕ) (units : List ℕ) → 0 < occurs n w.forest → kind_passes is_character_data w.forest n ≡ true →
      offset + count ≤ length (data_of w n) → Fits w (Splice n offset count units)
  fits_parting : (p : Point) (new parent : ℕ) → parent_of w.forest p.node ≡ Some parent → kind_passes is_character_data w.forest p.node ≡ true →
      p.offset ≤ length (data_of w p.node) → occurs new w.forest ≡ 0 → Fits w (Parting p new)
  fits_merge : (n next parent : ℕ) → parent_of w.forest n ≡ Some parent → parent_of w.forest next ≡ Some parent →
      index_of w.forest next ≡ index_of w.forest n + 1 → kind_passes is_character_data w.forest n ≡ true →
      kind_passes is_character_data w.forest next ≡ true → Fits w (Merge n next)
  fits_end_set : (r : ℕ) (side : Bool) (p : Point) (range : Range) → range_at w r ≡ Some range → IsPoint w p → Fits w (EndSet r side p)
  fits_making : (f : Forest Content) → Childless f → ((n : ℕ) → occurs n w.forest + occurs n f ≤ 1) → Fits w (Making f)
  fits_range_making : (r : ℕ) (range : Range) → r ≡ length w.ranges → IsPoint w range.start → IsPoint w range.end → Fits w (RangeMaking r range)
  fits_release : (r : ℕ) → Fits w (Release r)
  fits_discard : (n : ℕ) → parent_of w.forest n ≡ None → Fits w (Discard n)

-- each edit of a list fits the world that those before it left, and each such world is ready
abbrev pub AllFit : World → List Edit → Type 0
AllFit w [] = Unit {0}
AllFit w (e ∷ es) = IsReady w × Fits w e × AllFit (on_world e w) es
