-- What of a range's contents goes into a fragment whole, and what in part. DOM Standard, "Interface Range".
use Rattle.std.specs.Prelude.{◌≡◌, ℕ, ◌+◌, ◌-◌, ◌==◌, Bool, ◌&&◌, if◌then◌else◌, List, [], ◌∷◌, filter}
use Rattle.dom_model.specs.Forests.Kinds.{is_character_data}
use Rattle.dom_model.specs.Forests.Forest.{Forest, children_of, index_of}
use Rattle.dom_model.specs.Worlds.Lengths.{unit_count}
use Rattle.dom_model.specs.Worlds.World.{Content, Point, Range, World}
use Rattle.dom_model.specs.Forests.Nodes.{kind_passes}
use Rattle.dom_model.specs.RangesAndContents.Ranges.{is_collapsed, is_contained, common_ancestor}
use Rattle.dom_model.specs.RangesAndContents.Contents.{units_into, children_into, tail_into, head_into, path_below}
use Rattle.dom_content.specs.declared.range_parts.RangeParts.{RangeParts}

module _ {X : Type 0} where
  -- The index of the first child of an ancestor that lies behind a point. The path leads from the ancestor down to the point's node.
  abbrev pub index_behind : Forest X → Point → List ℕ → ℕ
  index_behind f p [] = p.offset
  index_behind f p (c ∷ path) = index_of f c + 1

  -- the index of the child of an ancestor in which a point lies, or else that of the child behind the point
  abbrev pub index_at : Forest X → Point → List ℕ → ℕ
  index_at f p [] = p.offset
  index_at f p (c ∷ path) = index_of f c

  -- a point behind what the path leads down to
  abbrev pub place_behind : Forest X → ℕ → Point → List ℕ → Point
  place_behind f ancestor p path = record { node = ancestor; offset = index_behind f p path }

-- the children of the deepest common ancestor that are contained
abbrev pub contained_in_forest : Forest Content → Range → List ℕ
contained_in_forest f r = filter (is_contained unit_count f r) (children_of f (common_ancestor f r.start.node r.end.node))

-- the paths from the deepest common ancestor down to both ends, and the children of it that are contained
pub record AreParts (f : Forest Content) (r : Range) (down_to_start whole down_to_end : List ℕ) : Type 0 where
  pub first : down_to_start ≡ path_below f (common_ancestor f r.start.node r.end.node) r.start.node
  pub contained : whole ≡ contained_in_forest f r
  pub last : down_to_end ≡ path_below f (common_ancestor f r.start.node r.end.node) r.end.node

-- the same of the parts as the code gathers them
abbrev pub ArePartsOf : Forest Content → Point → Point → RangeParts → Type 0
ArePartsOf f start end parts = AreParts f (record { start = start; end = end }) parts.first.items parts.contained.items parts.last.items

-- both ends stand in one node with data
abbrev pub in_one_data : Forest Content → Range → Bool
in_one_data f r = (r.start.node == r.end.node) && kind_passes is_character_data f r.start.node

-- the parts go into a fragment
abbrev pub parts_drawn : Bool → ℕ → Range → List ℕ → List ℕ → List ℕ → World → World
parts_drawn moves into r first contained last w =
    head_into moves into r.end.offset last (children_into moves into contained (tail_into moves into r.start.offset first w))

-- what goes into a fragment: nothing, units of one node, or the parts
abbrev pub filled : Bool → Bool → ℕ → Range → List ℕ → List ℕ → List ℕ → World → World
filled moves one_data into r first contained last w =
    if is_collapsed r then w
    else if one_data then units_into moves into r.start.node r.start.offset (r.end.offset - r.start.offset) w
    else parts_drawn moves into r first contained last w

-- the same two of the parts as the code gathers them
abbrev pub drawn_by : Bool → ℕ → Point → Point → RangeParts → World → World
drawn_by moves into start end parts = parts_drawn moves into (record { start = start; end = end }) parts.first.items parts.contained.items parts.last.items

abbrev pub filled_by : Bool → Bool → ℕ → Point → Point → RangeParts → World → World
filled_by moves one_data into start end parts =
    filled moves one_data into (record { start = start; end = end }) parts.first.items parts.contained.items parts.last.items
