-- The contents of a live range: deleted, extracted, cloned, and their text. DOM Standard, "Interface Range".
-- The standard extracts what lies in a partially contained child by a range of its own, from the start to the child's end or from the
-- child's start to the end. Such a range has its outer end at the child itself, so what is left of it is the path down to the other end:
-- the children beside the path are contained, and the node on the path is the next partially contained child.
use Rattle.std.specs.Prelude.{ℕ, ◌-◌, ◌==◌, Bool, true, false, not, ◌&&◌, ◌||◌, if◌then◌else◌, List, [], ◌∷◌, ◌++◌, filter, find, reverse, take, drop, length, Option, Some, None, unwrap_or, option_and_then}
use Rattle.dom_model.specs.declared.Kind.TheVariants.{Text, DocumentType, DocumentFragment}
use Rattle.dom_model.specs.declared.DomError.{DomError}
use Rattle.dom_model.specs.declared.DomError.TheVariants.{HierarchyRequestError}
use Rattle.dom_model.specs.PlainLists.Lists.{among, past, first_refusal, up_to}
use Rattle.dom_model.specs.Forests.Kinds.{is_character_data}
use Rattle.dom_model.specs.Forests.Forest.{Forest, numbers, parent_of, children_of, ancestors, map_nodes}
use Rattle.dom_model.specs.Forests.Texts.{substring}
use Rattle.dom_model.specs.Worlds.World.{Content, Point, Range, World, no_content}
use Rattle.dom_model.specs.MutationAlgorithms.Checks.{if_given, has_kind}
use Rattle.dom_model.specs.Forests.Nodes.{kind_passes, is_of_kind}
use Rattle.dom_model.specs.MutationAlgorithms.Editing.{append, node_document}
use Rattle.dom_model.specs.Worlds.Making.{made_node, named}
use Rattle.dom_model.specs.Worlds.Lengths.{unit_count}
use Rattle.dom_model.specs.RangesAndContents.Ranges.{is_collapsed, collapsed_at, point_after, is_contained, common_ancestor, range_at, with_range}
use Rattle.dom_model.specs.DataAndCopies.Data.{data_of, with_data, replace_data, joined_data, remove_each}
use Rattle.dom_model.specs.DataAndCopies.Clones.{original, with_copies, clone_node}

-- what is done with a range, where there is one of that number
abbrev pub for_range : {A : Type 0} → Option Range → A → (Range → A) → A
for_range None other act = other
for_range (Some range) other act = act range

-- both ends stand in one node with data
abbrev pub is_in_one_data : World → Range → Bool
is_in_one_data w r = (r.start.node == r.end.node) && kind_passes is_character_data w.forest r.start.node

-- the units from an offset on, where the node has data
abbrev pub cut_from : ℕ → ℕ → World → World
cut_from n offset w =
    if kind_passes is_character_data w.forest n then replace_data n offset (length (data_of w n) - offset) [] w else w

-- the units up to an offset, where the node has data
abbrev pub cut_up_to : ℕ → ℕ → World → World
cut_up_to n offset w = if kind_passes is_character_data w.forest n then replace_data n 0 offset [] w else w

abbrev pub contained_in : World → Range → ℕ → Bool
contained_in w r n = is_contained unit_count w.forest r n

-- the contained nodes whose parent is not contained, in tree order
abbrev pub contained_tops : World → Range → List ℕ
contained_tops w r =
    filter (λ n. contained_in w r n && not (if_given (contained_in w r) (parent_of w.forest n))) (numbers w.forest)

-- Where both ends stand once the contents are gone: at the start, if its node is an inclusive ancestor of the end node, and else after the
-- nearest inclusive ancestor of the start node whose parent is an inclusive ancestor of the end node.
abbrev pub new_place : Forest Content → Range → Point
new_place f r =
    if among r.start.node (ancestors r.end.node f) then r.start
    else unwrap_or (option_and_then (point_after f)
    (find (λ q. if_given (λ p. among p (ancestors r.end.node f)) (parent_of f q)) (ancestors r.start.node f))) r.start

abbrev pub deleted_between : ℕ → Range → World → World
deleted_between r range w =
    with_range r (collapsed_at (new_place w.forest range))
    (cut_up_to range.end.node range.end.offset
    (remove_each (contained_tops w range)
    (cut_from range.start.node range.start.offset w)))

abbrev pub deleted : ℕ → Range → World → World
deleted r range w =
    if is_collapsed range then w
    else if is_in_one_data w range then replace_data range.start.node range.start.offset (range.end.offset - range.start.offset) [] w
    else deleted_between r range w

-- delete contents
abbrev pub delete_contents : ℕ → World → World
delete_contents r w = for_range (range_at w r) w (λ range. deleted r range w)

abbrev pub new_fragment : ℕ → World → World
new_fragment document w = made_node document (named DocumentFragment []) no_content w

-- a copy of a node with data, with part of its units
abbrev pub clone_with : List ℕ → ℕ → World → World
clone_with units n w = with_copies (node_document w n) (map_nodes (with_data units) (original false n w.forest)) w

abbrev pub cut_if : Bool → ℕ → ℕ → ℕ → World → World
cut_if false n offset count w = w
cut_if true n offset count w = replace_data n offset count [] w

-- From here on `moves` tells whether the contents are extracted, or else cloned.
-- Some units of a node go into a fragment, by a copy of the node; where they are moved, they are cut.
abbrev pub units_into : Bool → ℕ → ℕ → ℕ → ℕ → World → World
units_into moves into n offset count w =
    cut_if moves n offset count (append w.made into (clone_with (substring offset count (data_of w n)) n w))

-- a contained child goes into a fragment, itself or as a copy with its descendants
abbrev pub child_into : Bool → ℕ → ℕ → World → World
child_into true into n w = append n into w
child_into false into n w = append w.made into (clone_node true n w)

abbrev pub children_into : Bool → ℕ → List ℕ → World → World
children_into moves into [] w = w
children_into moves into (n ∷ ns) w = children_into moves into ns (child_into moves into n w)

-- A copy of a partially contained node goes into a fragment; a further fragment is filled, and goes into the copy.
abbrev pub copy_into : ℕ → ℕ → (ℕ → World → World) → World → World
copy_into into n fill w =
    let copy = w.made in
    let held = append copy into (clone_node false n w) in
    let inner = held.made in
    append inner copy (fill inner (new_fragment (node_document w n) held))

-- What lies from an offset of the path's last node to the end of its first goes into a fragment.
abbrev pub tail_into : Bool → ℕ → ℕ → List ℕ → World → World
tail_into moves into offset [] w = w
tail_into moves into offset (n ∷ []) w =
    if kind_passes is_character_data w.forest n then units_into moves into n offset (length (data_of w n) - offset) w
    else copy_into into n (λ inner v. children_into moves inner (drop offset (children_of w.forest n)) v) w
tail_into moves into offset (n ∷ m ∷ path) w =
    copy_into into n (λ inner v. children_into moves inner (past m (children_of w.forest n)) (tail_into moves inner offset (m ∷ path) v)) w

-- What lies from the start of the path's first node to an offset of its last goes into a fragment.
abbrev pub head_into : Bool → ℕ → ℕ → List ℕ → World → World
head_into moves into offset [] w = w
head_into moves into offset (n ∷ []) w =
    if kind_passes is_character_data w.forest n then units_into moves into n 0 offset w
    else copy_into into n (λ inner v. children_into moves inner (take offset (children_of w.forest n)) v) w
head_into moves into offset (n ∷ m ∷ path) w =
    copy_into into n (λ inner v. head_into moves inner offset (m ∷ path) (children_into moves inner (up_to m (children_of w.forest n)) v)) w

-- the path from a child of the ancestor down to the node; empty where the node is the ancestor
abbrev pub path_below : Forest Content → ℕ → ℕ → List ℕ
path_below f ancestor n = reverse (up_to ancestor (ancestors n f))

abbrev pub common_of : World → Range → ℕ
common_of w r = common_ancestor w.forest r.start.node r.end.node

abbrev pub contained_children : World → Range → List ℕ
contained_children w r = filter (contained_in w r) (children_of w.forest (common_of w r))

-- the first partially contained child, the contained children, the last partially contained child
abbrev pub parts_into : Bool → ℕ → Range → World → World
parts_into moves into r w =
    head_into moves into r.end.offset (path_below w.forest (common_of w r) r.end.node)
    (children_into moves into (contained_children w r)
    (tail_into moves into r.start.offset (path_below w.forest (common_of w r) r.start.node) w))

-- a new fragment with the contents; it has the next number
abbrev pub contents_drawn : Bool → Range → World → World
contents_drawn moves r w =
    let made = new_fragment (node_document w r.start.node) w in
    if is_collapsed r then made
    else if is_in_one_data w r then units_into moves w.made r.start.node r.start.offset (r.end.offset - r.start.offset) made
    else parts_into moves w.made r made

-- the refusal to extract or clone: a doctype among the contained children
abbrev pub check_draw : World → Range → Option DomError
check_draw w r = first_refusal ((has_kind DocumentType w.forest (contained_children w r), HierarchyRequestError) ∷ [])

abbrev pub check_extract : ℕ → World → Option DomError
check_extract r w = for_range (range_at w r) None (λ range. check_draw w range)

-- within one node with data the ends follow the cut
abbrev pub extracted : ℕ → Range → World → World
extracted r range w =
    if is_collapsed range || is_in_one_data w range then contents_drawn true range w
    else with_range r (collapsed_at (new_place w.forest range)) (contents_drawn true range w)

-- extract: the fragment has the next number
abbrev pub extract : ℕ → World → World
extract r w = for_range (range_at w r) w (λ range. extracted r range w)

-- clone contents: the fragment has the next number
abbrev pub clone_contents : ℕ → World → World
clone_contents r w = for_range (range_at w r) w (λ range. contents_drawn false range w)

-- the units of a Text in a part of its data; of another node none
abbrev pub text_part : World → ℕ → ℕ → ℕ → List ℕ
text_part w n offset count = if is_of_kind Text w.forest n then substring offset count (data_of w n) else []

abbrev pub text_between : World → Range → List ℕ
text_between w r =
    text_part w r.start.node r.start.offset (length (data_of w r.start.node) - r.start.offset)
    ++ (joined_data w (filter (λ n. is_of_kind Text w.forest n && contained_in w r n) (numbers w.forest))
    ++ text_part w r.end.node 0 r.end.offset)

-- the stringifier of a range: the data of Text nodes alone, cut at the two ends
abbrev pub range_text : World → Range → List ℕ
range_text w r =
    if (r.start.node == r.end.node) && is_of_kind Text w.forest r.start.node
    then text_part w r.start.node r.start.offset (r.end.offset - r.start.offset)
    else text_between w r
