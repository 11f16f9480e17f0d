-- The refusal to surround the contents of a live range, told ahead of the first step. DOM Standard, "Interface Range" (surroundContents).
-- Where no node but a Text is partially contained, each end stands in the deepest common ancestor, or in a Text that is a child of it. So what
-- leaves that ancestor are the contained children alone, and the new parent comes in under it; within one node with data nothing leaves.
use Rattle.std.specs.Prelude.{ℕ, ◌==◌, Bool, not, ◌&&◌, ◌||◌, if◌then◌else◌, [], ◌∷◌, drop, Option, None, unwrap_or, slice_get}
use Rattle.std.specs.List.{list_any}
use Rattle.dom_model.specs.declared.Kind.TheVariants.{Element, Text, Document, DocumentType, DocumentFragment}
use Rattle.dom_model.specs.declared.DomError.{DomError}
use Rattle.dom_model.specs.declared.DomError.TheVariants.{HierarchyRequestError, InvalidStateError, InvalidNodeTypeError}
use Rattle.dom_model.specs.PlainLists.Lists.{among, is_number, first_refusal}
use Rattle.dom_model.specs.Forests.Kinds.{may_be_parent}
use Rattle.dom_model.specs.Forests.Forest.{Forest, numbers, parent_of, children_of, ancestors}
use Rattle.dom_model.specs.Worlds.World.{Content, Point, Range, World}
use Rattle.dom_model.specs.MutationAlgorithms.Checks.{has_kind, element_refused}
use Rattle.dom_model.specs.Forests.Nodes.{kind_passes, is_of_kind}
use Rattle.dom_model.specs.RangesAndContents.Ranges.{is_collapsed, is_partially_contained, range_at}
use Rattle.dom_model.specs.RangesAndContents.Contents.{for_range, is_in_one_data, contained_in, new_place, common_of}
use Rattle.dom_model.specs.RangesAndContents.Wrapping.{is_text, reference_at}

-- an end stands in a node, or in a Text that is a child of it
abbrev pub is_near : Forest Content → ℕ → ℕ → Bool
is_near f n end = (end == n) || (is_of_kind Text f end && is_number (parent_of f end) n)

-- the node under which something comes in at a point of a node: the parent of a Text that has one, or the node
abbrev pub holder_of : World → ℕ → ℕ
holder_of w n = if is_text w n then unwrap_or (parent_of w.forest n) n else n

-- an element cannot come in at a point
abbrev pub is_refused_at : World → Point → ℕ → Bool
is_refused_at w p n =
    not (kind_passes may_be_parent w.forest (holder_of w p.node))
    || (among n (ancestors (holder_of w p.node) w.forest)
    || (is_of_kind Document w.forest (holder_of w p.node) && element_refused w.forest (holder_of w p.node) (reference_at w p)))

-- once the contained children are gone, an element is left among a node's children, or a doctype from the new place on
abbrev pub is_full : World → Range → ℕ → Bool
is_full w range n =
    list_any (λ m. is_of_kind Element w.forest m && not (contained_in w range m)) (children_of w.forest n)
    || has_kind DocumentType w.forest (drop (new_place w.forest range).offset (children_of w.forest n))

-- an element cannot come in under the deepest common ancestor, once the contained children are gone
abbrev pub is_refused_between : World → Range → ℕ → Bool
is_refused_between w range n =
    among n (ancestors (common_of w range) w.forest)
    || (is_of_kind Document w.forest (common_of w range) && is_full w range (common_of w range))

-- where the contents are gone, an element cannot come in
abbrev pub is_refused : World → Range → ℕ → Bool
is_refused w range n = if is_collapsed range || is_in_one_data w range then is_refused_at w range.start n else is_refused_between w range n

-- the new parent is no element, or cannot come in
abbrev pub is_unplaceable : World → Range → ℕ → Bool
is_unplaceable w range n =
    not (is_of_kind Element w.forest n) || is_refused w range n

-- the child at the new place; none at the end
abbrev pub first_behind : World → Range → Option ℕ
first_behind w range = slice_get (children_of w.forest (common_of w range)) (new_place w.forest range).offset

-- an element that is not contained
abbrev pub is_left_element : World → Range → ℕ → Bool
is_left_element w range m = is_of_kind Element w.forest m && not (contained_in w range m)

abbrev pub surround_refusal_of : World → Range → ℕ → Option DomError
surround_refusal_of w range n =
    first_refusal ((list_any (λ m. is_partially_contained w.forest range m && not (is_text w m)) (numbers w.forest), InvalidStateError)
    ∷ (is_of_kind Document w.forest n || (is_of_kind DocumentType w.forest n || is_of_kind DocumentFragment w.forest n), InvalidNodeTypeError)
    ∷ (is_unplaceable w range n, HierarchyRequestError)
    ∷ [])

-- the refusal to surround, or none
abbrev pub surround_refusal : ℕ → ℕ → World → Option DomError
surround_refusal r n w = for_range (range_at w r) None (λ range. surround_refusal_of w range n)
