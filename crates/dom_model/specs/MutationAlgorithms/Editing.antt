-- Remove, insert, pre-insert, replace, replace all and adopt, as steps on the whole world in the standard's order.
-- DOM Standard, "Mutation algorithms". Ours: a node with a parent is removed from it before ends are moved and siblings are read.
use Rattle.std.specs.Prelude.{ℕ, Bool, true, false, if◌then◌else◌, List, [], ◌∷◌, length, Option, Some, None}
use Rattle.dom_model.specs.declared.Kind.TheVariants.{DocumentFragment}
use Rattle.dom_model.specs.declared.RecordType.TheVariants.{ChildList}
use Rattle.dom_model.specs.PlainLists.Lists.{is_number, last_of}
use Rattle.dom_model.specs.Forests.Arena.{Entry}
use Rattle.dom_model.specs.Forests.Forest.{Node, Forest, entry_in, parent_of, children_of, next_of, previous_of, index_of, ancestors, inclusive_descendants, cut, put, adopted}
use Rattle.dom_model.specs.Worlds.World.{Content, World, Mutation}
use Rattle.dom_model.specs.BoundaryPoints.Points.{map_ranges, after_gap, after_removal}
use Rattle.dom_model.specs.MutationAlgorithms.PreRemoval.{pre_removed_all}
use Rattle.dom_model.specs.MutationObservers.Observing.{noted, standing_on, with_transients}
use Rattle.dom_model.specs.Forests.Nodes.{is_of_kind}

-- a change is noted, with the registrations that stand on the target's inclusive ancestors
abbrev pub queued : Mutation → World → World
queued m w = record w {
  observing = noted (record m { standing = standing_on (ancestors m.target w.forest) w.observing.registrations }) w.observing;
}

-- queue a tree record
abbrev pub tree_record : ℕ → List ℕ → List ℕ → Option ℕ → Option ℕ → World → World
tree_record target added removed previous next w = queued (record {
  type = ChildList;
  target = target;
  name = None;
  old_value = None;
  added = added;
  removed = removed;
  previous = previous;
  next = next;
  standing = [];
}) w

abbrev pub tree_record_unless : Bool → ℕ → List ℕ → List ℕ → Option ℕ → Option ℕ → World → World
tree_record_unless true target added removed previous next w = w
tree_record_unless false target added removed previous next w = tree_record target added removed previous next w

-- live range ends and iterators give way to the removal, and the node becomes a root
abbrev pub taken_out : ℕ → ℕ → World → World
taken_out n parent w = record w {
  ranges = map_ranges (after_removal (inclusive_descendants w.forest n) parent (index_of w.forest n)) w.ranges;
  iterators = pre_removed_all w.forest n w.iterators;
  forest = cut n w.forest;
}

abbrev pub transients_made : ℕ → ℕ → World → World
transients_made n parent w = record w { observing = with_transients n (ancestors parent w.forest) w.observing }

abbrev pub removed_from : Bool → ℕ → Option ℕ → World → World
removed_from suppressed n None w = w
removed_from suppressed n (Some parent) w =
    tree_record_unless suppressed parent [] (n ∷ []) (previous_of w.forest n) (next_of w.forest n)
    (transients_made n parent (taken_out n parent w))

-- remove a node from its parent, where it has one
abbrev pub remove : Bool → ℕ → World → World
remove suppressed n w = removed_from suppressed n (parent_of w.forest n) w

-- remove the nodes of a list one after another, suppressed
abbrev pub remove_all : List ℕ → World → World
remove_all [] w = w
remove_all (n ∷ ns) w = remove_all ns (remove true n w)

abbrev pub is_fragment : World → ℕ → Bool
is_fragment w n = is_of_kind DocumentFragment w.forest n

-- what comes in with a node: a fragment's children, or the node alone
abbrev pub nodes_of : World → ℕ → List ℕ
nodes_of w n = if is_fragment w n then children_of w.forest n else n ∷ []

-- the nodes leave where they stand: a fragment its children with a record of its own, a node its parent
abbrev pub emptied_fragment : ℕ → List ℕ → World → World
emptied_fragment n nodes w = tree_record n [] nodes None None (remove_all nodes w)

abbrev pub freed : ℕ → List ℕ → World → World
freed n nodes w = if is_fragment w n then emptied_fragment n nodes w else remove false n w

abbrev pub document_in : Option (Entry (Node Content)) → ℕ
document_in None = 0
document_in (Some e) = e.value.document

abbrev pub node_document : World → ℕ → ℕ
node_document w n = document_in (entry_in w.forest n)

-- one node put before a child, in the parent's node document
abbrev pub put_in : ℕ → Option ℕ → ℕ → World → World
put_in parent child n w = record w { forest = adopted n (node_document w parent) (put parent n child w.forest) }

abbrev pub put_all : ℕ → Option ℕ → List ℕ → World → World
put_all parent child [] w = w
put_all parent child (n ∷ ns) w = put_all parent child ns (put_in parent child n w)

-- ends after the child's index make room for the nodes
abbrev pub gap_before : ℕ → Option ℕ → ℕ → World → World
gap_before parent None count w = w
gap_before parent (Some c) count w = record w { ranges = map_ranges (after_gap parent (index_of w.forest c) count) w.ranges }

-- the previous sibling of what comes before the child: the child's own, or the last child
abbrev pub previous_to : Forest Content → ℕ → Option ℕ → Option ℕ
previous_to f parent None = last_of (children_of f parent)
previous_to f parent (Some c) = previous_of f c

abbrev pub insert_all : Bool → ℕ → Option ℕ → List ℕ → World → World
insert_all suppressed parent child nodes w =
    tree_record_unless suppressed parent nodes [] (previous_to w.forest parent child) child
    (put_all parent child nodes (gap_before parent child (length nodes) w))

abbrev pub insert_nodes : Bool → ℕ → ℕ → Option ℕ → List ℕ → World → World
insert_nodes suppressed n parent child [] w = w
insert_nodes suppressed n parent child (m ∷ ms) w = insert_all suppressed parent child (m ∷ ms) (freed n (m ∷ ms) w)

-- insert a node into a parent before a child
abbrev pub insert : Bool → ℕ → ℕ → Option ℕ → World → World
insert suppressed n parent child w = insert_nodes suppressed n parent child (nodes_of w n) w

-- the child, or the node's next sibling where it is the node itself
abbrev pub reference_child : World → ℕ → Option ℕ → Option ℕ
reference_child w n child = if is_number child n then next_of w.forest n else child

abbrev pub pre_insert : ℕ → ℕ → Option ℕ → World → World
pre_insert n parent child w = insert false n parent (reference_child w n child) w

abbrev pub append : ℕ → ℕ → World → World
append n parent w = pre_insert n parent None w

-- replace a child with a node: the child goes first, then the node comes in before what followed the child
abbrev pub replace : ℕ → ℕ → ℕ → World → World
replace child n parent w =
    let reference = reference_child w n (next_of w.forest child) in
    let nodes = nodes_of w n in
    let previous = previous_of w.forest child in
    tree_record parent nodes (child ∷ []) previous reference (insert true n parent reference (remove true child w))

abbrev pub added_by : World → Option ℕ → List ℕ
added_by w None = []
added_by w (Some n) = nodes_of w n

abbrev pub insert_if_any : Option ℕ → ℕ → World → World
insert_if_any None parent w = w
insert_if_any (Some n) parent w = insert true n parent None w

abbrev pub replaced_record : ℕ → List ℕ → List ℕ → World → World
replaced_record parent [] [] w = w
replaced_record parent [] (r ∷ rs) w = tree_record parent [] (r ∷ rs) None None w
replaced_record parent (a ∷ others) removed w = tree_record parent (a ∷ others) removed None None w

-- replace all children of a parent with a node, or with nothing
abbrev pub replace_all : Option ℕ → ℕ → World → World
replace_all n parent w =
    replaced_record parent (added_by w n) (children_of w.forest parent)
    (insert_if_any n parent (remove_all (children_of w.forest parent) w))

-- adopt: the node leaves its parent, and its inclusive descendants get the node document
abbrev pub adopt : ℕ → ℕ → World → World
adopt n document w = let out = remove false n w in record out { forest = adopted n document out.forest }
