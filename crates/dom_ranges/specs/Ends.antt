-- The ends of live ranges in the chains of their nodes: an end is an item, its node the key and its offset the rest.
use Rattle.std.specs.Prelude.{ℕ, List, [], ◌∷◌, Option}
use Rattle.dom_model.specs.Worlds.World.{Point, Range}
use Rattle.dom_chains.specs.Keyed.{Keyed}
use Rattle.dom_slots.specs.Slotted.{by_slot}
use Rattle.dom_ranges.specs.Tables.{RangeTable}

-- where an end stands
abbrev pub point_of : ℕ × ℕ → Point
point_of end = record { node = end.0; offset = end.1 }

-- the end that stands at a point
abbrev pub keyed_end : Point → ℕ × ℕ
keyed_end p = (p.node, p.offset)

-- an end moved as its point is
abbrev pub moved_end : (Point → Point) → ℕ × ℕ → ℕ × ℕ
moved_end move end = keyed_end (move (point_of end))

-- the range from one end to another
abbrev pub range_of : ℕ × ℕ → ℕ × ℕ → Range
range_of start end = record { start = point_of start; end = point_of end }

-- the ranges of a list of ends, two to each
abbrev pub paired : List (ℕ × ℕ) → List Range
paired [] = []
paired (start ∷ []) = []
paired (start ∷ end ∷ rest) = range_of start end ∷ paired rest

-- the ranges by number, of the slots of their numbers and the ends by slot
abbrev pub table_of : List (Option ℕ) → Keyed ℕ → RangeTable
table_of slots ends = record { ranges = by_slot slots (paired ends.items); covered = ends.covered }
