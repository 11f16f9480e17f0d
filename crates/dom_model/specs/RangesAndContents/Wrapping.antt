-- Insert node and surround contents: sequences of steps, of which each may refuse. DOM Standard, "Interface Range".
-- Ours: a refusal at any step is the refusal of the whole, and leaves the world as it was before the first.
use Rattle.std.specs.Prelude.{ℕ, ◌+◌, ◌==◌, Bool, false, not, ◌&&◌, ◌||◌, if◌then◌else◌, [], ◌∷◌, length, Option, Some, None, is_none, unwrap_or, slice_get, Result, Ok, Err}
use Rattle.std.specs.List.{list_any}
use Rattle.dom_model.specs.declared.Kind.TheVariants.{Text, ProcessingInstruction, Comment, Document, DocumentType, DocumentFragment}
use Rattle.dom_model.specs.declared.DomError.{DomError}
use Rattle.dom_model.specs.declared.DomError.TheVariants.{HierarchyRequestError, InvalidStateError, InvalidNodeTypeError}
use Rattle.dom_model.specs.Forests.Forest.{numbers, parent_of, children_of, index_of}
use Rattle.dom_model.specs.Worlds.World.{Point, Range, World}
use Rattle.dom_model.specs.MutationAlgorithms.Checks.{check_insert}
use Rattle.dom_model.specs.Forests.Nodes.{is_of_kind}
use Rattle.dom_model.specs.PlainLists.Lists.{first_refusal}
use Rattle.dom_model.specs.MutationAlgorithms.Editing.{remove, pre_insert, replace_all, reference_child, nodes_of}
use Rattle.dom_model.specs.Worlds.Lengths.{length_at}
use Rattle.dom_model.specs.RangesAndContents.Ranges.{is_collapsed, around, is_partially_contained, range_at, with_range}
use Rattle.dom_model.specs.DataAndCopies.Data.{split}
use Rattle.dom_model.specs.RangesAndContents.Contents.{for_range, check_extract, extract}

-- a step on the world, or its refusal
abbrev pub Outcome : Type 0
Outcome = Result World DomError

abbrev pub and_then : Outcome → (World → Outcome) → Outcome
and_then (Err e) step = Err e
and_then (Ok w) step = step w

-- the refusal of a check, or the world as it is
abbrev pub unless : Option DomError → World → Outcome
unless None w = Ok w
unless (Some e) w = Err e

-- pre-insert, with its check
abbrev pub try_pre_insert : ℕ → ℕ → Option ℕ → World → Outcome
try_pre_insert n parent child w = and_then (unless (check_insert w.forest parent n child) w) (λ v. Ok (pre_insert n parent child v))

abbrev pub is_text : World → ℕ → Bool
is_text w n = is_of_kind Text w.forest n

-- where something is inserted at a point: before the Text that it stands in, before the child at its offset, or last
abbrev pub reference_at : World → Point → Option ℕ
reference_at w p = if is_text w p.node then Some p.node else slice_get (children_of w.forest p.node) p.offset

abbrev pub parent_by : World → Point → Option ℕ → ℕ
parent_by w p None = p.node
parent_by w p (Some reference) = unwrap_or (parent_of w.forest reference) p.node

abbrev pub parent_at : World → Point → ℕ
parent_at w p = parent_by w p (reference_at w p)

-- a start node into which nothing can be inserted
abbrev pub check_start : World → Point → ℕ → Option DomError
check_start w p n =
    first_refusal ((is_of_kind ProcessingInstruction w.forest p.node || is_of_kind Comment w.forest p.node, HierarchyRequestError)
    ∷ (is_text w p.node && is_none (parent_of w.forest p.node), HierarchyRequestError)
    ∷ (p.node == n, HierarchyRequestError)
    ∷ [])

-- a Text is split at the point
abbrev pub split_at : Point → World → World
split_at p w = if is_text w p.node then split p.node p.offset w else w

-- what the node comes in before, once the Text is split: the new Text, or as it was
abbrev pub reference_after : World → Point → Option ℕ
reference_after w p = if is_text w p.node then Some w.made else reference_at w p

-- the offset of the parent after what comes in with the node
abbrev pub offset_past : World → ℕ → Option ℕ → ℕ → ℕ
offset_past w parent None n = length_at w parent + length (nodes_of w n)
offset_past w parent (Some reference) n = index_of w.forest reference + length (nodes_of w n)

abbrev pub end_if_collapsed : ℕ → Point → World → World
end_if_collapsed r p w =
    for_range (range_at w r) w (λ range. if is_collapsed range then with_range r (record range { end = p }) w else w)

-- the node leaves its parent and comes in before the reference; a range that is collapsed then goes around it
abbrev pub placed_at : ℕ → ℕ → ℕ → Option ℕ → World → Outcome
placed_at r n parent reference w =
    let out = remove false n w in
    and_then (try_pre_insert n parent reference out)
    (λ v. Ok (end_if_collapsed r (record { node = parent; offset = offset_past out parent reference n }) v))

abbrev pub inserted_at : ℕ → ℕ → Point → World → Outcome
inserted_at r n p w =
    and_then (unless (check_start w p n) w) (λ v.
    and_then (unless (check_insert v.forest (parent_at v p) n (reference_at v p)) v) (λ v.
    let apart = split_at p v in
    placed_at r n (parent_at v p) (reference_child apart n (reference_after v p)) apart))

-- insert a node into a live range
abbrev pub insert_node : ℕ → ℕ → World → Outcome
insert_node r n w = for_range (range_at w r) (Ok w) (λ range. inserted_at r n range.start w)

-- a node that is no Text is partially contained; a new parent that is a Document, doctype or fragment
abbrev pub check_surround : World → Range → ℕ → Option DomError
check_surround w range n =
    first_refusal ((list_any (λ m. is_partially_contained w.forest range m && not (is_text w m)) (numbers w.forest), InvalidStateError)
    ∷ (is_of_kind Document w.forest n || (is_of_kind DocumentType w.forest n || is_of_kind DocumentFragment w.forest n), InvalidNodeTypeError)
    ∷ [])

abbrev pub try_extract : ℕ → World → Outcome
try_extract r w = and_then (unless (check_extract r w) w) (λ v. Ok (extract r v))

abbrev pub selected : ℕ → Option Range → World → Outcome
selected r None w = Err InvalidNodeTypeError
selected r (Some ends) w = Ok (with_range r ends w)

abbrev pub try_select : ℕ → ℕ → World → Outcome
try_select r n w = selected r (around w.forest n) w

-- The contents go into a fragment, the new parent is emptied and put in, takes in the fragment, and is selected.
abbrev pub surrounded : ℕ → ℕ → Range → World → Outcome
surrounded r n range w =
    let fragment = w.made in
    and_then (unless (check_surround w range n) w) (λ v.
    and_then (try_extract r v) (λ v.
    and_then (insert_node r n (replace_all None n v)) (λ v.
    and_then (try_pre_insert fragment n None v) (λ v.
    try_select r n v))))

-- surround contents
abbrev pub surround : ℕ → ℕ → World → Outcome
surround r n w = for_range (range_at w r) (Ok w) (λ range. surrounded r n range w)

abbrev pub refusal_in : Outcome → Option DomError
refusal_in (Ok w) = None
refusal_in (Err e) = Some e

-- the refusal of a step to surround, or none
abbrev pub check_whole_surround : ℕ → ℕ → World → Option DomError
check_whole_surround r n w = refusal_in (surround r n w)
