-- Boundary points: their place and order, and the five maps that adjust them. DOM Standard, "Boundary points", "Live ranges".
use Rattle.std.specs.Prelude.{ℕ, ◌+◌, ◌-◌, ◌*◌, ◌==◌, nat_lt, nat_le, ◌&&◌, if◌then◌else◌, List, [], ◌∷◌, ◌++◌, map, reverse, drop, Option, option_map}
use Rattle.std.specs.Ordering.{nat_cmp}
use Rattle.std.specs.declared.cmp.Ordering.{Ordering}
use Rattle.std.specs.Cmp.Lexicographic.{slice_cmp}
use Rattle.dom_model.specs.PlainLists.Lists.{among}
use Rattle.dom_model.specs.Forests.Forest.{Forest, ancestors, index_of}
use Rattle.dom_model.specs.Worlds.World.{Point, Range}

module _ {X : Type 0} where
  -- the indices on the path from the root down to n, each as an odd number
  abbrev pub path_places : Forest X → ℕ → List ℕ
  path_places f n = map (λ m. 2 * index_of f m + 1) (drop 1 (reverse (ancestors n f)))

  -- the place of a point: for each index i on the path from the root to its node 2i + 1, then twice its offset
  abbrev pub place_of : Forest X → Point → List ℕ
  place_of f p = path_places f p.node ++ (2 * p.offset) ∷ []

  -- points of one root stand as their places do in dictionary order
  abbrev pub order_of : Forest X → Point → Point → Ordering
  order_of f p q = slice_cmp nat_cmp (place_of f p) (place_of f q)

-- nodes come into a parent at an index: (parent, offset > index) grows by their count
abbrev pub after_gap : ℕ → ℕ → ℕ → Point → Point
after_gap parent index count p =
    if (p.node == parent) && nat_lt index p.offset then record p { offset = p.offset + count } else p

-- a node leaves (parent, index): a point inside it becomes (parent, index), a later one of the parent moves back by one
abbrev pub after_removal : List ℕ → ℕ → ℕ → Point → Point
after_removal inside parent index p =
    if among p.node inside then record { node = parent; offset = index }
    else (if (p.node == parent) && nat_lt index p.offset then record p { offset = p.offset - 1 } else p)

-- `added` units take the place of `count` at an offset: what was among the old units goes to their start, what was beyond moves
abbrev pub after_splice : ℕ → ℕ → ℕ → ℕ → Point → Point
after_splice at offset count added p =
    if (p.node == at) && nat_lt offset p.offset
    then (if nat_le p.offset (offset + count) then record p { offset = offset } else record p { offset = p.offset - count + added })
    else p

-- a Text at (parent, index) is split at an offset: what was beyond goes into the new Text, and (parent, index + 1) grows by one
abbrev pub after_split : ℕ → ℕ → ℕ → ℕ → ℕ → Point → Point
after_split at offset new parent index p =
    if (p.node == at) && nat_lt offset p.offset then record { node = new; offset = p.offset - offset }
    else (if (p.node == parent) && (p.offset == index + 1) then record p { offset = index + 2 } else p)

-- the Text `from` at (parent, index) is joined to another, whose length was `base`: points in it and at it move there
abbrev pub after_merge : ℕ → ℕ → ℕ → ℕ → ℕ → Point → Point
after_merge from into base parent index p =
    if p.node == from then record { node = into; offset = base + p.offset }
    else (if (p.node == parent) && (p.offset == index) then record { node = into; offset = base } else p)

abbrev pub moved_range : (Point → Point) → Range → Range
moved_range move r = record { start = move r.start; end = move r.end }

-- a map on both ends of every live range
abbrev pub map_ranges : (Point → Point) → List (Option Range) → List (Option Range)
map_ranges move ranges = map (λ (r : Option Range). option_map (moved_range move) r) ranges
