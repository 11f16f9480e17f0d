-- The table of live ranges, and what it is to be in order. DOM Standard, "Live ranges".
use Rattle.std.specs.Prelude.{◌≡◌, ℕ, ◌==◌, ◌^◌, ◌<◌, ◌≤◌, Bool, true, false, if◌then◌else◌, List, [], ◌∷◌, slice_index_or, slice_set, Option, Some, None, IfSome}
use Rattle.std.specs.List.{All, flat_map}
use Rattle.std.specs.declared.cmp.Ordering.TheVariants.{Greater}
use Rattle.dom_model.specs.declared.Kind.TheVariants.{DocumentType}
use Rattle.dom_model.specs.Worlds.World.{Point, Range}
use Rattle.dom_model.specs.PlainLists.Lists.{among}
use Rattle.dom_model.specs.Forests.Forest.{Forest, HasNode, root_of}
use Rattle.dom_model.specs.BoundaryPoints.Points.{order_of}
use Rattle.dom_model.specs.Forests.Nodes.{is_of_kind}
use Rattle.dom_model.specs.Worlds.Lengths.{node_length}
use Rattle.dom_model.specs.MutationAlgorithms.Discarding.{nodes_of_range, nodes_unless_released}
pub use Rattle.dom_chains.specs.Keyed.{covers, covered_to}
pub use Rattle.dom_point.specs.Refusals.{result_of_check}

-- the live ranges by number, none where one was released, and for each node whether it is covered: only there an end may stand
pub record RangeTable : Type 0 where
  pub ranges : List (Option Range)
  pub covered : List Bool

-- a node is covered; one past the end of the list is not
abbrev pub IsCovered : RangeTable → ℕ → Type 0
IsCovered t n = covers t.covered n ≡ true

-- these nodes are covered no more
abbrev pub uncovered : List ℕ → List Bool → List Bool
uncovered [] covered = covered
uncovered (n ∷ ns) covered = uncovered ns (slice_set covered n false)

-- a live range; none where its number was not given out, or was released
abbrev pub range_in : RangeTable → ℕ → Option Range
range_in t r = slice_index_or t.ranges r None

-- the table with one range set anew
abbrev pub with_range_set : ℕ → Range → RangeTable → RangeTable
with_range_set r range t = record t { ranges = slice_set t.ranges r (Some range) }

-- the table with one range released
abbrev pub without_range : ℕ → RangeTable → RangeTable
without_range r t = record t { ranges = slice_set t.ranges r None }

-- a range is set to another, where there is one, and nothing else changes
abbrev pub RangeIsSet : ℕ → Option Range → RangeTable → RangeTable → Type 0
RangeIsSet r range old new = IfSome range (λ it. new ≡ with_range_set r it old)

-- a live range becomes what is made of it, and nothing else changes
abbrev pub RangeBecomes : ℕ → (Range → Range) → RangeTable → RangeTable → Type 0
RangeBecomes r change old new =
    IfSome (range_in old r) (λ range. new ≡ with_range_set r (change range) old)

-- the nodes in which ends of live ranges stand
abbrev pub live_nodes : RangeTable → List ℕ
live_nodes t = flat_map (nodes_unless_released nodes_of_range) t.ranges

-- each node in which an end of a live range stands is covered
abbrev pub AreCovered : RangeTable → Type 0
AreCovered t = (n : ℕ) → among n (live_nodes t) ≡ true → IsCovered t n

-- both offsets fit a number of the machine once they are moved, as they do before
pub record FitsMoved (move : Point → Point) (r : Range) : Type 0 where
  pub start : r.start.offset < 2 ^ 64 → (move r.start).offset < 2 ^ 64
  pub end : r.end.offset < 2 ^ 64 → (move r.end).offset < 2 ^ 64

-- the same of every live range
abbrev pub OffsetsFit : (Point → Point) → List (Option Range) → Type 0
OffsetsFit move ranges = All (λ (r : Option Range). IfSome r (FitsMoved move)) ranges

-- the points in any of these nodes go to one point
abbrev pub moved_in : List ℕ → Point → Point → Point
moved_in inside to p = if among p.node inside then to else p

-- a map of the points of one node
abbrev pub on_node : ℕ → (Point → Point) → Point → Point
on_node node move p = if p.node == node then move p else p

module _ {X : Type 0} where
  -- a boundary point: a node of the forest that is no doctype, and an offset within its length
  pub record IsBoundaryIn (measure : X → ℕ) (f : Forest X) (p : Point) : Type 0 where
    pub there : HasNode f p.node
    pub kind : is_of_kind DocumentType f p.node ≡ false
    pub within : p.offset ≤ node_length measure f p.node

  -- a live range: two boundary points of one root, of which the start does not come after the end
  pub record IsRangeIn (measure : X → ℕ) (f : Forest X) (r : Range) : Type 0 where
    pub starts : IsBoundaryIn measure f r.start
    pub ends : IsBoundaryIn measure f r.end
    pub one_root : root_of f r.start.node ≡ root_of f r.end.node
    pub in_order : order_of f r.start r.end ≡ Greater → ⊥

  -- both ends stand in nodes of one root
  pub record StandsIn (f : Forest X) (r : Range) : Type 0 where
    pub start : HasNode f r.start.node
    pub end : HasNode f r.end.node
    pub one_root : root_of f r.start.node ≡ root_of f r.end.node
