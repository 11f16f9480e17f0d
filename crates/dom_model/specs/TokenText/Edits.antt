-- The edits of the token text that each operation makes, in the order of its steps, and what the primitive edits leave of a world.
-- Ours. The lists follow the steps of the operations, as they stand beside this file.
use Rattle.std.specs.Prelude.{ℕ, suc, ◌+◌, ◌-◌, ◌==◌, Bool, true, false, ◌||◌, if◌then◌else◌, List, [], ◌∷◌, ◌++◌, map, take, drop, length, Option, Some, None, slice_get, slice_set, option_map}
use Rattle.dom_model.specs.declared.Kind.{Kind}
use Rattle.dom_model.specs.declared.Kind.TheVariants.{Element, Text, ProcessingInstruction, Comment, Document, DocumentType, DocumentFragment}
use Rattle.dom_model.specs.Forests.Kinds.{Label, is_character_data}
use Rattle.dom_model.specs.Forests.Forest.{Forest, empty, node, entry_in, parent_of, children_of, next_of, index_of, inclusive_descendants, size, beside, cut, without, map_nodes}
use Rattle.dom_model.specs.Worlds.World.{Content, Point, Range, World, no_content}
use Rattle.dom_model.specs.BoundaryPoints.Points.{map_ranges, after_gap, after_removal, after_split, after_merge}
use Rattle.dom_model.specs.PlainLists.Lists.{past, up_to}
use Rattle.dom_model.specs.Forests.Nodes.{kind_passes}
use Rattle.dom_model.specs.Forests.Texts.{substring}
use Rattle.dom_model.specs.MutationAlgorithms.Editing.{remove, remove_all, is_fragment, nodes_of, freed, put_in, node_document, reference_child, pre_insert, append, replace_all}
use Rattle.dom_model.specs.Worlds.Making.{made_node, named, with_text}
use Rattle.dom_model.specs.RangesAndContents.Ranges.{is_collapsed, collapsed_at, around, range_at, with_range}
use Rattle.dom_model.specs.DataAndCopies.Data.{data_of, cut_count, replace_units, replace_data, tail_of, split, with_data, following_texts, is_descendant, normalize_text, text_descendants, by_kind}
use Rattle.dom_model.specs.DataAndCopies.Clones.{renumbered, original, document_of_clone, clone_node}
use Rattle.dom_model.specs.RangesAndContents.Contents.{for_range, is_in_one_data, contained_tops, new_place, clone_with, new_fragment, path_below, common_of, contained_children, extract}
use Rattle.dom_model.specs.RangesAndContents.Wrapping.{is_text, reference_after, parent_at, offset_past}
use Rattle.dom_model.specs.TokenText.Tokens.{same_point, point, Edit, Removal, Insertion, Splice, Parting, Merge, EndSet, Making, RangeMaking, Release, Discard}

-- What an edit leaves of a world: the nesting, the data and the live ranges.

abbrev pub removal_from : ℕ → Option ℕ → World → World
removal_from n None w = w
removal_from n (Some parent) w = record w {
  ranges = map_ranges (after_removal (inclusive_descendants w.forest n) parent (index_of w.forest n)) w.ranges;
  forest = cut n w.forest;
}

abbrev pub insertion_at : ℕ → Point → World → World
insertion_at n p w = put_in p.node (slice_get (children_of w.forest p.node) p.offset) n
    (record w { ranges = map_ranges (after_gap p.node p.offset 1) w.ranges })

-- a new node beside the trees, of a number and with the node document of another
abbrev pub with_new_text : ℕ → ℕ → List ℕ → World → World
with_new_text new document text w = record w {
  forest = beside w.forest (node (record { number = new; document = document; label = named Text []; body = with_text text }) empty empty);
  made = w.made + 1;
}

abbrev pub parting_from : Point → ℕ → Option ℕ → World → World
parting_from p new None w = w
parting_from p new (Some parent) w =
    let tail = tail_of w p.node p.offset in
    let index = index_of w.forest p.node in
    let apart = insertion_at new (point parent (index + 1)) (with_new_text new (node_document w p.node) tail w) in
    replace_units p.node p.offset (length tail) [] (record apart { ranges = map_ranges (after_split p.node p.offset new parent index) apart.ranges })

abbrev pub merge_from : ℕ → ℕ → Option ℕ → World → World
merge_from n next None w = w
merge_from n next (Some parent) w =
    let base = length (data_of w n) in
    let joined = replace_units n base 0 (data_of w next) w in
    removal_from next (Some parent) (record joined { ranges = map_ranges (after_merge next n base parent (index_of w.forest next)) joined.ranges })

abbrev pub set_side : Bool → Point → Range → Range
set_side true p range = record range { start = p }
set_side false p range = record range { end = p }

abbrev pub on_world : Edit → World → World
on_world (Removal n) w = removal_from n (parent_of w.forest n) w
on_world (Insertion n p) w = insertion_at n p w
on_world (Splice n offset count units) w = replace_units n offset count units w
on_world (Parting p new) w = parting_from p new (parent_of w.forest p.node) w
on_world (Merge n next) w = merge_from n next (parent_of w.forest next) w
on_world (EndSet r side p) w = record w { ranges = slice_set w.ranges r (option_map (set_side side p) (range_at w r)) }
on_world (Making f) w = record w { forest = beside w.forest f; made = w.made + size f }
on_world (RangeMaking r range) w = record w { ranges = w.ranges ++ Some range ∷ [] }
on_world (Release r) w = record w { ranges = slice_set w.ranges r None }
on_world (Discard n) w = record w { forest = without n w.forest }

abbrev pub all_on_world : List Edit → World → World
all_on_world [] w = w
all_on_world (e ∷ es) w = all_on_world es (on_world e w)

-- The edits of the operations on the tree.

abbrev pub removal_if : Option ℕ → ℕ → List Edit
removal_if None n = []
removal_if (Some parent) n = Removal n ∷ []

abbrev pub remove_edits : ℕ → World → List Edit
remove_edits n w = removal_if (parent_of w.forest n) n

-- each node of a list leaves its parent
abbrev pub removals : List ℕ → List Edit
removals ns = map (λ n. Removal n) ns

abbrev pub freed_edits : ℕ → List ℕ → World → List Edit
freed_edits n nodes w = if is_fragment w n then removals nodes else remove_edits n w

-- the nodes of a list come in from an index on, one after another
abbrev pub insertions : ℕ → ℕ → List ℕ → List Edit
insertions parent i [] = []
insertions parent i (n ∷ ns) = Insertion n (point parent i) ∷ insertions parent (suc i) ns

-- where a node before a child comes in: the child's index, or the length
abbrev pub index_before : World → ℕ → Option ℕ → ℕ
index_before w parent None = length (children_of w.forest parent)
index_before w parent (Some child) = index_of w.forest child

abbrev pub insert_edits : ℕ → ℕ → Option ℕ → World → List Edit
insert_edits n parent child w =
    freed_edits n (nodes_of w n) w
    ++ insertions parent (index_before (freed n (nodes_of w n) w) parent child) (nodes_of w n)

abbrev pub pre_insert_edits : ℕ → ℕ → Option ℕ → World → List Edit
pre_insert_edits n parent child w = insert_edits n parent (reference_child w n child) w

abbrev pub append_edits : ℕ → ℕ → World → List Edit
append_edits n parent w = pre_insert_edits n parent None w

abbrev pub replace_edits : ℕ → ℕ → ℕ → World → List Edit
replace_edits child n parent w =
    remove_edits child w ++ insert_edits n parent (reference_child w n (next_of w.forest child)) (remove true child w)

abbrev pub insert_edits_if_any : Option ℕ → ℕ → World → List Edit
insert_edits_if_any None parent w = []
insert_edits_if_any (Some n) parent w = insert_edits n parent None w

abbrev pub replace_all_edits : Option ℕ → ℕ → World → List Edit
replace_all_edits n parent w =
    removals (children_of w.forest parent) ++ insert_edits_if_any n parent (remove_all (children_of w.forest parent) w)

abbrev pub adopt_edits : ℕ → World → List Edit
adopt_edits n w = remove_edits n w

-- The edits of new nodes and copies.

abbrev pub making : ℕ → Label → Content → World → List Edit
making document label body w =
    Making (node (record { number = w.made; document = document; label = label; body = body }) empty empty) ∷ []

abbrev pub copies_edits : ℕ → Forest Content → World → List Edit
copies_edits document copied w = Making (renumbered document w.made copied) ∷ []

abbrev pub clone_edits : Bool → ℕ → World → List Edit
clone_edits deep n w = copies_edits (document_of_clone w n) (original deep n w.forest) w

abbrev pub import_edits : ℕ → Bool → ℕ → World → List Edit
import_edits document deep n w = copies_edits document (original deep n w.forest) w

-- The edits of data.

abbrev pub replace_data_edits : ℕ → ℕ → ℕ → List ℕ → World → List Edit
replace_data_edits n offset count added w = Splice n offset (cut_count (length (data_of w n)) offset count) added ∷ []

abbrev pub set_data_edits : ℕ → List ℕ → World → List Edit
set_data_edits n text w = replace_data_edits n 0 (length (data_of w n)) text w

abbrev pub split_edits_by : Option ℕ → ℕ → ℕ → World → List Edit
split_edits_by None n offset w =
    making (node_document w n) (named Text []) (with_text (tail_of w n offset)) w
    ++ replace_data_edits n offset (length (tail_of w n offset)) [] w
split_edits_by (Some parent) n offset w = Parting (point n offset) w.made ∷ []

abbrev pub split_edits : ℕ → ℕ → World → List Edit
split_edits n offset w = split_edits_by (parent_of w.forest n) n offset w

-- one merge for each Text that follows
abbrev pub merges : ℕ → List ℕ → List Edit
merges n ns = map (λ next. Merge n next) ns

abbrev pub normalize_text_edits : ℕ → World → List Edit
normalize_text_edits t w = if length (data_of w t) == 0 then remove_edits t w else merges t (following_texts w t)

abbrev pub normalize_each_edits : ℕ → List ℕ → World → List Edit
normalize_each_edits n [] w = []
normalize_each_edits n (t ∷ ts) w =
    (if is_descendant w n t then normalize_text_edits t w else [])
    ++ normalize_each_edits n ts (if is_descendant w n t then normalize_text t w else w)

abbrev pub normalize_edits : ℕ → World → List Edit
normalize_edits n w = normalize_each_edits n (text_descendants w n) w

abbrev pub string_replace_all_edits : List ℕ → ℕ → World → List Edit
string_replace_all_edits [] n w = replace_all_edits None n w
string_replace_all_edits (u ∷ us) n w =
    making (node_document w n) (named Text []) (with_text (u ∷ us)) w
    ++ replace_all_edits (Some w.made) n (made_node (node_document w n) (named Text []) (with_text (u ∷ us)) w)

abbrev pub set_text_content_edits_by : Kind → ℕ → List ℕ → World → List Edit
set_text_content_edits_by Element n text w = string_replace_all_edits text n w
set_text_content_edits_by Text n text w = set_data_edits n text w
set_text_content_edits_by ProcessingInstruction n text w = set_data_edits n text w
set_text_content_edits_by Comment n text w = set_data_edits n text w
set_text_content_edits_by Document n text w = []
set_text_content_edits_by DocumentType n text w = []
set_text_content_edits_by DocumentFragment n text w = string_replace_all_edits text n w

abbrev pub set_text_content_edits : ℕ → List ℕ → World → List Edit
set_text_content_edits n text w = by_kind [] (λ k. set_text_content_edits_by k n text w) (entry_in w.forest n)

-- The edits of a range's ends: each end that is set to another point.

abbrev pub end_edit : ℕ → Bool → Point → Point → List Edit
end_edit r side old new = if same_point old new then [] else EndSet r side new ∷ []

abbrev pub ends_edits : ℕ → Range → Range → List Edit
ends_edits r old new = end_edit r true old.start new.start ++ end_edit r false old.end new.end

abbrev pub ends_edits_at : ℕ → Range → World → List Edit
ends_edits_at r new w = for_range (range_at w r) [] (λ old. ends_edits r old new)

-- Longer sequences: a world and the edits so far. Each step goes on from the world that the steps before it left.

pub record Trace : Type 0 where
  pub world : World
  pub edits : List Edit

abbrev pub begun : World → Trace
begun w = record { world = w; edits = [] }

abbrev pub doing : (World → World) → (World → List Edit) → Trace → Trace
doing step edits_of t = record { world = step t.world; edits = t.edits ++ edits_of t.world }

abbrev pub doing_append : ℕ → ℕ → Trace → Trace
doing_append n parent t = doing (append n parent) (append_edits n parent) t

abbrev pub doing_replace_data : ℕ → ℕ → ℕ → List ℕ → Trace → Trace
doing_replace_data n offset count added t = doing (replace_data n offset count added) (replace_data_edits n offset count added) t

abbrev pub doing_clone : Bool → ℕ → Trace → Trace
doing_clone deep n t = doing (clone_node deep n) (clone_edits deep n) t

abbrev pub doing_clone_with : List ℕ → ℕ → Trace → Trace
doing_clone_with units n t =
    doing (clone_with units n) (λ w. copies_edits (node_document w n) (map_nodes (with_data units) (original false n w.forest)) w) t

abbrev pub doing_fragment : ℕ → Trace → Trace
doing_fragment document t = doing (new_fragment document) (making document (named DocumentFragment []) no_content) t

abbrev pub doing_ends : ℕ → Range → Trace → Trace
doing_ends r range t = doing (with_range r range) (ends_edits_at r range) t

abbrev pub doing_remove : ℕ → Trace → Trace
doing_remove n t = doing (remove false n) (remove_edits n) t

abbrev pub doing_remove_each : List ℕ → Trace → Trace
doing_remove_each [] t = t
doing_remove_each (n ∷ ns) t = doing_remove_each ns (doing_remove n t)

-- Delete contents.

abbrev pub doing_cut_from : ℕ → ℕ → Trace → Trace
doing_cut_from n offset t =
    if kind_passes is_character_data t.world.forest n
    then doing_replace_data n offset (length (data_of t.world n) - offset) [] t else t

abbrev pub doing_cut_up_to : ℕ → ℕ → Trace → Trace
doing_cut_up_to n offset t = if kind_passes is_character_data t.world.forest n then doing_replace_data n 0 offset [] t else t

abbrev pub deleted_between_trace : ℕ → Range → World → Trace
deleted_between_trace r range w =
    doing_ends r (collapsed_at (new_place w.forest range))
    (doing_cut_up_to range.end.node range.end.offset
    (doing_remove_each (contained_tops w range)
    (doing_cut_from range.start.node range.start.offset (begun w))))

abbrev pub deleted_edits : ℕ → Range → World → List Edit
deleted_edits r range w =
    if is_collapsed range then []
    else if is_in_one_data w range
    then replace_data_edits range.start.node range.start.offset (range.end.offset - range.start.offset) [] w
    else (deleted_between_trace r range w).edits

abbrev pub delete_contents_edits : ℕ → World → List Edit
delete_contents_edits r w = for_range (range_at w r) [] (λ range. deleted_edits r range w)

-- Extract and clone contents.

abbrev pub doing_cut_if : Bool → ℕ → ℕ → ℕ → Trace → Trace
doing_cut_if false n offset count t = t
doing_cut_if true n offset count t = doing_replace_data n offset count [] t

abbrev pub doing_units : Bool → ℕ → ℕ → ℕ → ℕ → Trace → Trace
doing_units moves into n offset count t =
    doing_cut_if moves n offset count
    (doing_append t.world.made into (doing_clone_with (substring offset count (data_of t.world n)) n t))

abbrev pub doing_child : Bool → ℕ → ℕ → Trace → Trace
doing_child true into n t = doing_append n into t
doing_child false into n t = doing_append t.world.made into (doing_clone true n t)

abbrev pub doing_children : Bool → ℕ → List ℕ → Trace → Trace
doing_children moves into [] t = t
doing_children moves into (n ∷ ns) t = doing_children moves into ns (doing_child moves into n t)

abbrev pub doing_copy : ℕ → ℕ → (ℕ → Trace → Trace) → Trace → Trace
doing_copy into n fill t =
    let copy = t.world.made in
    let held = doing_append copy into (doing_clone false n t) in
    let inner = held.world.made in
    doing_append inner copy (fill inner (doing_fragment (node_document t.world n) held))

abbrev pub doing_tail : Bool → ℕ → ℕ → List ℕ → Trace → Trace
doing_tail moves into offset [] t = t
doing_tail moves into offset (n ∷ []) t =
    if kind_passes is_character_data t.world.forest n then doing_units moves into n offset (length (data_of t.world n) - offset) t
    else doing_copy into n (λ inner v. doing_children moves inner (drop offset (children_of t.world.forest n)) v) t
doing_tail moves into offset (n ∷ m ∷ path) t =
    doing_copy into n (λ inner v. doing_children moves inner (past m (children_of t.world.forest n)) (doing_tail moves inner offset (m ∷ path) v)) t

abbrev pub doing_head : Bool → ℕ → ℕ → List ℕ → Trace → Trace
doing_head moves into offset [] t = t
doing_head moves into offset (n ∷ []) t =
    if kind_passes is_character_data t.world.forest n then doing_units moves into n 0 offset t
    else doing_copy into n (λ inner v. doing_children moves inner (take offset (children_of t.world.forest n)) v) t
doing_head moves into offset (n ∷ m ∷ path) t =
    doing_copy into n (λ inner v. doing_head moves inner offset (m ∷ path) (doing_children moves inner (up_to m (children_of t.world.forest n)) v)) t

abbrev pub doing_parts : Bool → ℕ → Range → Trace → Trace
doing_parts moves into r t =
    doing_head moves into r.end.offset (path_below t.world.forest (common_of t.world r) r.end.node)
    (doing_children moves into (contained_children t.world r)
    (doing_tail moves into r.start.offset (path_below t.world.forest (common_of t.world r) r.start.node) t))

abbrev pub drawn_trace : Bool → Range → World → Trace
drawn_trace moves r w =
    let made = doing_fragment (node_document w r.start.node) (begun w) in
    if is_collapsed r then made
    else if is_in_one_data w r then doing_units moves w.made r.start.node r.start.offset (r.end.offset - r.start.offset) made
    else doing_parts moves w.made r made

abbrev pub extracted_trace : ℕ → Range → World → Trace
extracted_trace r range w =
    if is_collapsed range || is_in_one_data w range then drawn_trace true range w
    else doing_ends r (collapsed_at (new_place w.forest range)) (drawn_trace true range w)

abbrev pub extract_edits : ℕ → World → List Edit
extract_edits r w = for_range (range_at w r) [] (λ range. (extracted_trace r range w).edits)

abbrev pub clone_contents_edits : ℕ → World → List Edit
clone_contents_edits r w = for_range (range_at w r) [] (λ range. (drawn_trace false range w).edits)

-- Insert node and surround contents, where no step refuses.

abbrev pub doing_split_at : Point → Trace → Trace
doing_split_at p t = if is_text t.world p.node then doing (split p.node p.offset) (split_edits p.node p.offset) t else t

abbrev pub doing_pre_insert : ℕ → ℕ → Option ℕ → Trace → Trace
doing_pre_insert n parent child t = doing (pre_insert n parent child) (pre_insert_edits n parent child) t

abbrev pub doing_end_if_collapsed : ℕ → Point → Trace → Trace
doing_end_if_collapsed r p t =
    for_range (range_at t.world r) t (λ range. if is_collapsed range then doing_ends r (record range { end = p }) t else t)

abbrev pub doing_placed : ℕ → ℕ → ℕ → Option ℕ → Trace → Trace
doing_placed r n parent reference t =
    let out = doing_remove n t in
    doing_end_if_collapsed r (record { node = parent; offset = offset_past out.world parent reference n }) (doing_pre_insert n parent reference out)

abbrev pub doing_insert_at : ℕ → ℕ → Point → Trace → Trace
doing_insert_at r n p t =
    let apart = doing_split_at p t in
    doing_placed r n (parent_at t.world p) (reference_child apart.world n (reference_after t.world p)) apart

abbrev pub doing_insert_node : ℕ → ℕ → Trace → Trace
doing_insert_node r n t = for_range (range_at t.world r) t (λ range. doing_insert_at r n range.start t)

abbrev pub insert_node_edits : ℕ → ℕ → World → List Edit
insert_node_edits r n w = (doing_insert_node r n (begun w)).edits

abbrev pub doing_selected : ℕ → Option Range → Trace → Trace
doing_selected r None t = t
doing_selected r (Some ends) t = doing_ends r ends t

abbrev pub doing_select : ℕ → ℕ → Trace → Trace
doing_select r n t = doing_selected r (around t.world.forest n) t

abbrev pub doing_surround : ℕ → ℕ → World → Trace
doing_surround r n w =
    doing_select r n
    (doing_append w.made n
    (doing_insert_node r n
    (doing (replace_all None n) (replace_all_edits None n)
    (doing (extract r) (extract_edits r) (begun w)))))

abbrev pub surround_edits : ℕ → ℕ → World → List Edit
surround_edits r n w = (doing_surround r n w).edits
