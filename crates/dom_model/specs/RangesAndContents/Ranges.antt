-- Live ranges: their ends, and how nodes and points stand to them. DOM Standard, "Interface AbstractRange", "Interface Range".
use Rattle.std.specs.Prelude.{ℕ, ◌+◌, ◌==◌, nat_lt, Bool, true, false, not, ◌&&◌, ◌||◌, if◌then◌else◌, [], ◌∷◌, ◌++◌, filter, Option, Some, None, is_none, unwrap_or, option_map, slice_index_or, slice_set}
use Rattle.std.specs.declared.cmp.Ordering.{Ordering}
use Rattle.std.specs.declared.cmp.Ordering.TheVariants.{Less, Equal, Greater}
use Rattle.dom_model.specs.declared.Kind.TheVariants.{DocumentType}
use Rattle.dom_model.specs.declared.DomError.{DomError}
use Rattle.dom_model.specs.declared.DomError.TheVariants.{InvalidNodeTypeError, IndexSizeError, NotSupportedError, WrongDocumentError}
use Rattle.dom_model.specs.PlainLists.Lists.{among, head_of, first_refusal}
use Rattle.dom_model.specs.Forests.Forest.{Forest, parent_of, index_of, ancestors}
use Rattle.dom_model.specs.Worlds.World.{Point, Range, World}
use Rattle.dom_model.specs.BoundaryPoints.Points.{order_of}
use Rattle.dom_model.specs.Forests.Nodes.{is_of_kind, same_root}
use Rattle.dom_model.specs.Worlds.Lengths.{node_length}

abbrev pub is_less : Ordering → Bool
is_less Less = true
is_less Equal = false
is_less Greater = false

-- a point of a range's start, or of its end
abbrev pub end_of : Bool → Range → Point
end_of true r = r.start
end_of false r = r.end

-- the same point twice
abbrev pub is_collapsed : Range → Bool
is_collapsed r = (r.start.node == r.end.node) && (r.start.offset == r.end.offset)

abbrev pub collapsed_at : Point → Range
collapsed_at p = record { start = p; end = p }

-- collapse: the end becomes the start, or the start the end
abbrev pub collapsed : Bool → Range → Range
collapsed to_start r = collapsed_at (end_of to_start r)

-- what `how` compares: 0 start to start, 1 this one's end to the source's start, 2 end to end, 3 this one's start to the source's end
abbrev pub compared_point : ℕ → Range → Point
compared_point how r = end_of ((how == 0) || (how == 3)) r

abbrev pub source_point : ℕ → Range → Point
source_point how r = end_of ((how == 0) || (how == 1)) r

module _ {X : Type 0} where
  -- of two points of one root, the first comes before the second
  abbrev pub is_before : Forest X → Point → Point → Bool
  is_before f p q = is_less (order_of f p q)

  -- set the start: in another tree, or past the end, the end moves too
  abbrev pub start_set : Forest X → Point → Range → Range
  start_set f p r = record { start = p; end = if same_root f p.node r.start.node && not (is_before f r.end p) then r.end else p }

  -- set the end: in another tree, or ahead of the start, the start moves too
  abbrev pub end_set : Forest X → Point → Range → Range
  end_set f p r = record { start = if same_root f p.node r.start.node && not (is_before f p r.start) then r.start else p; end = p }

  -- (parent, index); none without a parent
  abbrev pub point_before : Forest X → ℕ → Option Point
  point_before f n = option_map (λ parent. record { node = parent; offset = index_of f n }) (parent_of f n)

  -- (parent, index + 1)
  abbrev pub point_after : Forest X → ℕ → Option Point
  point_after f n = option_map (λ parent. record { node = parent; offset = index_of f n + 1 }) (parent_of f n)

  -- select: from before the node to after it
  abbrev pub around : Forest X → ℕ → Option Range
  around f n = option_map (λ parent. record {
    start = record { node = parent; offset = index_of f n };
    end = record { node = parent; offset = index_of f n + 1 };
  }) (parent_of f n)

  -- select contents: from (node, 0) to (node, length)
  abbrev pub contents_of : (X → ℕ) → Forest X → ℕ → Range
  contents_of measure f n = record { start = record { node = n; offset = 0 }; end = record { node = n; offset = node_length measure f n } }

  -- the refusal of a point to be an end
  abbrev pub check_point : (X → ℕ) → Forest X → Point → Option DomError
  check_point measure f p =
      first_refusal ((is_of_kind DocumentType f p.node, InvalidNodeTypeError)
      ∷ (nat_lt (node_length measure f p.node) p.offset, IndexSizeError)
      ∷ [])

  -- the refusal of a node without a parent
  abbrev pub check_parent : Forest X → ℕ → Option DomError
  check_parent f n = first_refusal ((is_none (parent_of f n), InvalidNodeTypeError) ∷ [])

  -- the refusal to select the contents of a doctype
  abbrev pub check_contents : Forest X → ℕ → Option DomError
  check_contents f n = first_refusal ((is_of_kind DocumentType f n, InvalidNodeTypeError) ∷ [])

  -- the refusal to compare an end of one range with an end of another
  abbrev pub check_compare : Forest X → ℕ → Range → Range → Option DomError
  check_compare f how r source =
      first_refusal ((nat_lt 3 how, NotSupportedError) ∷ (not (same_root f r.start.node source.start.node), WrongDocumentError) ∷ [])

  -- this one's point against the source's
  abbrev pub compared : Forest X → ℕ → Range → Range → Ordering
  compared f how r source = order_of f (compared_point how r) (source_point how source)

  -- the refusal to compare a point with a range
  abbrev pub check_point_against : (X → ℕ) → Forest X → Point → Range → Option DomError
  check_point_against measure f p r =
      first_refusal ((not (same_root f p.node r.start.node), WrongDocumentError)
      ∷ (is_of_kind DocumentType f p.node, InvalidNodeTypeError)
      ∷ (nat_lt (node_length measure f p.node) p.offset, IndexSizeError)
      ∷ [])

  -- a point of the range's root: before the start, after the end, or neither
  abbrev pub place_against : Forest X → Point → Range → Ordering
  place_against f p r = if is_before f p r.start then Less else if is_before f r.end p then Greater else Equal

  -- the refusal to ask for a point of the range's root; a point of another root is not refused
  abbrev pub check_point_in : (X → ℕ) → Forest X → Point → Range → Option DomError
  check_point_in measure f p r = if same_root f p.node r.start.node then check_point measure f p else None

  -- neither before the start nor after the end
  abbrev pub is_point_in : Forest X → Point → Range → Bool
  is_point_in f p r = same_root f p.node r.start.node && (not (is_before f p r.start) && not (is_before f r.end p))

  -- (parent, index) comes before the end and (parent, index + 1) after the start; without a parent the node is the root
  abbrev pub overlaps : Forest X → Option Range → Range → Bool
  overlaps f None r = true
  overlaps f (Some node) r = is_before f node.start r.end && is_before f r.start node.end

  abbrev pub intersects : Forest X → ℕ → Range → Bool
  intersects f n r = same_root f n r.start.node && overlaps f (around f n) r

  -- contained: of the same root, with (node, 0) after the start and (node, length) before the end
  abbrev pub is_contained : (X → ℕ) → Forest X → Range → ℕ → Bool
  is_contained measure f r n =
      same_root f n r.start.node
      && (is_before f r.start (contents_of measure f n).start && is_before f (contents_of measure f n).end r.end)

  -- partially contained: an inclusive ancestor of one of the two end nodes and not of the other
  abbrev pub is_partially_contained : Forest X → Range → ℕ → Bool
  is_partially_contained f r n =
      (among n (ancestors r.start.node f) && not (among n (ancestors r.end.node f)))
      || (among n (ancestors r.end.node f) && not (among n (ancestors r.start.node f)))

  -- the deepest inclusive ancestor of both nodes, of one root
  abbrev pub common_ancestor : Forest X → ℕ → ℕ → ℕ
  common_ancestor f n m = unwrap_or (head_of (filter (λ a. among a (ancestors m f)) (ancestors n f))) n

-- a live range of the world; none where its number was not given out, or was released
abbrev pub range_at : World → ℕ → Option Range
range_at w r = slice_index_or w.ranges r None

abbrev pub with_range : ℕ → Range → World → World
with_range r range w = record w { ranges = slice_set w.ranges r (Some range) }

-- a new live range, with the next number
abbrev pub made_range : Range → World → World
made_range range w = record w { ranges = w.ranges ++ Some range ∷ [] }

-- a live range is released; its number is not used again
abbrev pub released : ℕ → World → World
released r w = record w { ranges = slice_set w.ranges r None }
