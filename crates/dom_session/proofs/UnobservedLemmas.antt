-- Worlds that differ in their observing parts alone: insert node and surround contents refuse alike, and the steps keep the two so.
-- DOM Standard, "Mutation algorithms", "Interface Range".
use Rattle.std.proofs.Common.{◌≡◌, ℕ, ◌-◌, Bool, true, false, ◌||◌, if◌then◌else◌, List, [], ◌∷◌, length, take, drop, Option, Some, None, refl, Ok, Err}
use Rattle.dom_model.specs.declared.{Kind.TheVariants.Text, Kind.TheVariants.DocumentFragment, DomError.DomError, DomError.TheVariants.InvalidNodeTypeError}
use Rattle.dom_model.specs.Definitions.{Label, is_character_data, Forest, parent_of, children_of, next_of, previous_of, index_of, map_nodes, substring, Content, Point, Range, Observing, Mutation, World, no_content, map_ranges, after_split, past, up_to, check_insert, kind_passes, queued, tree_record, tree_record_unless, taken_out, transients_made, removed_from, remove, remove_all, is_fragment, nodes_of, freed, put_in, put_all, gap_before, previous_to, insert_all, insert_nodes, insert, reference_child, pre_insert, append, added_by, insert_if_any, replaced_record, replace_all, node_document, made_node, named, with_text, data_of, with_data, cut_count, data_record, replace_units, replace_data, tail_of, split_off, split, original, with_copies, document_of_clone, clone_node, is_collapsed, collapsed_at, around, range_at, with_range, for_range, is_in_one_data, new_place, new_fragment, clone_with, cut_if, units_into, child_into, children_into, copy_into, tail_into, head_into, path_below, common_of, contained_children, parts_into, contents_drawn, check_extract, extracted, extract, Outcome, and_then, unless, try_pre_insert, is_text, reference_at, parent_at, check_start, split_at, reference_after, offset_past, end_if_collapsed, placed_at, inserted_at, insert_node, check_surround, try_extract, selected, try_select, surrounded, surround, refusal_in}

-- the second world is the first one with any observing part
pub data Beside (x : World) : World → Type 0 where
  beside : (o : Observing) → Beside x (record x { observing = o })

-- a step keeps two worlds so
abbrev Keeps : (World → World) → Type 0
Keeps step = (x y : World) → Beside x y → Beside (step x) (step y)

-- one of two steps by a test
choice-beside : (t : Bool) {x y x2 y2 : World} → Beside x y → Beside x2 y2 → Beside (if t then x else x2) (if t then y else y2)
choice-beside true h k = h
choice-beside false h k = k

-- Records, transient registrations, ranges, iterators and the forest.

queued-beside : (m : Mutation) → Keeps (queued m)
queued-beside m x _ (beside o) = beside (queued m (record x { observing = o })).observing

moved_ranges-beside : (move : Point → Point) → Keeps (λ w. record w { ranges = map_ranges move w.ranges })
moved_ranges-beside move x _ (beside o) = beside o

with_forest-beside : (change : Forest Content → Forest Content) → Keeps (λ w. record w { forest = change w.forest })
with_forest-beside change x _ (beside o) = beside o

tree_record-beside : (target : ℕ) (added removed : List ℕ) (previous next : Option ℕ) → Keeps (tree_record target added removed previous next)
tree_record-beside target added removed previous next x _ (beside o) = beside (tree_record target added removed previous next (record x { observing = o })).observing

tree_record_unless-beside : (t : Bool) (target : ℕ) (added removed : List ℕ) (previous next : Option ℕ) → Keeps (tree_record_unless t target added removed previous next)
tree_record_unless-beside true target added removed previous next x y h = h
tree_record_unless-beside false target added removed previous next x y h = tree_record-beside target added removed previous next x y h

transients_made-beside : (n parent : ℕ) → Keeps (transients_made n parent)
transients_made-beside n parent x _ (beside o) = beside (transients_made n parent (record x { observing = o })).observing

-- Remove.

taken_out-beside : (n parent : ℕ) → Keeps (taken_out n parent)
taken_out-beside n parent x _ (beside o) = beside o

removed_from-beside : (suppressed : Bool) (n : ℕ) (parent : Option ℕ) → Keeps (removed_from suppressed n parent)
removed_from-beside suppressed n None x y h = h
removed_from-beside suppressed n (Some parent) x _ (beside o) =
    tree_record_unless-beside suppressed parent [] (n ∷ []) (previous_of x.forest n) (next_of x.forest n) _ _
    (transients_made-beside n parent _ _ (taken_out-beside n parent x _ (beside o)))

remove-beside : (suppressed : Bool) (n : ℕ) → Keeps (remove suppressed n)
remove-beside suppressed n x _ (beside o) = removed_from-beside suppressed n (parent_of x.forest n) x _ (beside o)

remove_all-beside : (ns : List ℕ) → Keeps (remove_all ns)
remove_all-beside [] x y h = h
remove_all-beside (n ∷ ns) x y h = remove_all-beside ns _ _ (remove-beside true n x y h)

-- Insert.

freed-beside : (n : ℕ) (nodes : List ℕ) → Keeps (freed n nodes)
freed-beside n nodes x _ (beside o) =
    choice-beside (is_fragment x n)
    (tree_record-beside n [] nodes None None _ _ (remove_all-beside nodes x _ (beside o)))
    (remove-beside false n x _ (beside o))

put_in-beside : (parent : ℕ) (child : Option ℕ) (n : ℕ) → Keeps (put_in parent child n)
put_in-beside parent child n x _ (beside o) = beside o

put_all-beside : (parent : ℕ) (child : Option ℕ) (ns : List ℕ) → Keeps (put_all parent child ns)
put_all-beside parent child [] x y h = h
put_all-beside parent child (n ∷ ns) x y h = put_all-beside parent child ns _ _ (put_in-beside parent child n x y h)

gap_before-beside : (parent : ℕ) (child : Option ℕ) (count : ℕ) → Keeps (gap_before parent child count)
gap_before-beside parent None count x y h = h
gap_before-beside parent (Some c) count x _ (beside o) = beside o

insert_all-beside : (suppressed : Bool) (parent : ℕ) (child : Option ℕ) (nodes : List ℕ) → Keeps (insert_all suppressed parent child nodes)
insert_all-beside suppressed parent child nodes x _ (beside o) =
    tree_record_unless-beside suppressed parent nodes [] (previous_to x.forest parent child) child _ _
    (put_all-beside parent child nodes _ _ (gap_before-beside parent child (length nodes) x _ (beside o)))

insert_nodes-beside : (suppressed : Bool) (n parent : ℕ) (child : Option ℕ) (nodes : List ℕ) → Keeps (insert_nodes suppressed n parent child nodes)
insert_nodes-beside suppressed n parent child [] x y h = h
insert_nodes-beside suppressed n parent child (m ∷ ms) x y h = insert_all-beside suppressed parent child (m ∷ ms) _ _ (freed-beside n (m ∷ ms) x y h)

insert-beside : (suppressed : Bool) (n parent : ℕ) (child : Option ℕ) → Keeps (insert suppressed n parent child)
insert-beside suppressed n parent child x _ (beside o) = insert_nodes-beside suppressed n parent child (nodes_of x n) x _ (beside o)

pre_insert-beside : (n parent : ℕ) (child : Option ℕ) → Keeps (pre_insert n parent child)
pre_insert-beside n parent child x _ (beside o) = insert-beside false n parent (reference_child x n child) x _ (beside o)

append-beside : (n parent : ℕ) → Keeps (append n parent)
append-beside n parent = pre_insert-beside n parent None

-- Replace all.

insert_if_any-beside : (n : Option ℕ) (parent : ℕ) → Keeps (insert_if_any n parent)
insert_if_any-beside None parent x y h = h
insert_if_any-beside (Some n) parent x y h = insert-beside true n parent None x y h

replaced_record-beside : (parent : ℕ) (added removed : List ℕ) → Keeps (replaced_record parent added removed)
replaced_record-beside parent [] [] x y h = h
replaced_record-beside parent [] (r ∷ rs) x y h = tree_record-beside parent [] (r ∷ rs) None None x y h
replaced_record-beside parent (a ∷ others) removed x y h = tree_record-beside parent (a ∷ others) removed None None x y h

replace_all-beside : (n : Option ℕ) (parent : ℕ) → Keeps (replace_all n parent)
replace_all-beside n parent x _ (beside o) =
    replaced_record-beside parent (added_by x n) (children_of x.forest parent) _ _
    (insert_if_any-beside n parent _ _ (remove_all-beside (children_of x.forest parent) x _ (beside o)))

-- Data, and Texts that are split.

data_record-beside : (n : ℕ) → Keeps (data_record n)
data_record-beside n x _ (beside o) = beside (data_record n (record x { observing = o })).observing

replace_units-beside : (n offset count : ℕ) (added : List ℕ) → Keeps (replace_units n offset count added)
replace_units-beside n offset count added x _ (beside o) = beside o

replace_data-beside : (n offset count : ℕ) (added : List ℕ) → Keeps (replace_data n offset count added)
replace_data-beside n offset count added x _ (beside o) =
    replace_units-beside n offset (cut_count (length (data_of x n)) offset count) added _ _ (data_record-beside n x _ (beside o))

made_node-beside : (document : ℕ) (label : Label) (body : Content) → Keeps (made_node document label body)
made_node-beside document label body x _ (beside o) = beside o

split_ends-beside : (n offset new parent : ℕ) → Keeps (λ w. record w { ranges = map_ranges (after_split n offset new parent (index_of w.forest n)) w.ranges })
split_ends-beside n offset new parent x _ (beside o) = beside o

split_off-beside : (n offset new : ℕ) (parent : Option ℕ) → Keeps (split_off n offset new parent)
split_off-beside n offset new None x y h = h
split_off-beside n offset new (Some parent) x _ (beside o) =
    split_ends-beside n offset new parent _ _ (insert-beside false new parent (next_of x.forest n) x _ (beside o))

split-beside : (n offset : ℕ) → Keeps (split n offset)
split-beside n offset x _ (beside o) =
    replace_data-beside n offset (length (tail_of x n offset)) [] _ _
    (split_off-beside n offset x.made (parent_of x.forest n) _ _
    (made_node-beside (node_document x n) (named Text []) (with_text (tail_of x n offset)) x _ (beside o)))

-- Copies.

with_copies-beside : (document : ℕ) (copied : Forest Content) → Keeps (with_copies document copied)
with_copies-beside document copied x _ (beside o) = beside o

clone_node-beside : (deep : Bool) (n : ℕ) → Keeps (clone_node deep n)
clone_node-beside deep n x _ (beside o) = with_copies-beside (document_of_clone x n) (original deep n x.forest) x _ (beside o)

-- Extract.

with_range-beside : (r : ℕ) (range : Range) → Keeps (with_range r range)
with_range-beside r range x _ (beside o) = beside o

-- a step for a range, where there is one
for_range-beside : (range : Option Range) (step : Range → World → World) → ((range : Range) → Keeps (step range)) → Keeps (λ w. for_range range w (λ range. step range w))
for_range-beside None step k x y h = h
for_range-beside (Some range) step k x y h = k range x y h

new_fragment-beside : (document : ℕ) → Keeps (new_fragment document)
new_fragment-beside document = made_node-beside document (named DocumentFragment []) no_content

clone_with-beside : (units : List ℕ) (n : ℕ) → Keeps (clone_with units n)
clone_with-beside units n x _ (beside o) =
    with_copies-beside (node_document x n) (map_nodes (with_data units) (original false n x.forest)) x _ (beside o)

cut_if-beside : (moves : Bool) (n offset count : ℕ) → Keeps (cut_if moves n offset count)
cut_if-beside false n offset count x y h = h
cut_if-beside true n offset count x y h = replace_data-beside n offset count [] x y h

units_into-beside : (moves : Bool) (into n offset count : ℕ) → Keeps (units_into moves into n offset count)
units_into-beside moves into n offset count x _ (beside o) =
    cut_if-beside moves n offset count _ _
    (append-beside x.made into _ _ (clone_with-beside (substring offset count (data_of x n)) n x _ (beside o)))

child_into-beside : (moves : Bool) (into n : ℕ) → Keeps (child_into moves into n)
child_into-beside true into n x y h = append-beside n into x y h
child_into-beside false into n x _ (beside o) = append-beside x.made into _ _ (clone_node-beside true n x _ (beside o))

children_into-beside : (moves : Bool) (into : ℕ) (ns : List ℕ) → Keeps (children_into moves into ns)
children_into-beside moves into [] x y h = h
children_into-beside moves into (n ∷ ns) x y h = children_into-beside moves into ns _ _ (child_into-beside moves into n x y h)

-- a further fragment is filled, and goes into the copy
held-beside : (document copy : ℕ) (fill : ℕ → World → World) → ((inner : ℕ) → Keeps (fill inner)) → Keeps (λ w. append w.made copy (fill w.made (new_fragment document w)))
held-beside document copy fill k x _ (beside o) =
    append-beside x.made copy _ _ (k x.made _ _ (new_fragment-beside document x _ (beside o)))

copy_into-beside : (into n : ℕ) (fill : ℕ → World → World) → ((inner : ℕ) → Keeps (fill inner)) → Keeps (copy_into into n fill)
copy_into-beside into n fill k x _ (beside o) =
    held-beside (node_document x n) x.made fill k _ _
    (append-beside x.made into _ _ (clone_node-beside false n x _ (beside o)))

tail_into-beside : (moves : Bool) (into offset : ℕ) (path : List ℕ) → Keeps (tail_into moves into offset path)
tail_into-beside moves into offset [] x y h = h
tail_into-beside moves into offset (n ∷ []) x _ (beside o) =
    choice-beside (kind_passes is_character_data x.forest n)
    (units_into-beside moves into n offset (length (data_of x n) - offset) x _ (beside o))
    (copy_into-beside into n (λ inner v. children_into moves inner (drop offset (children_of x.forest n)) v)
    (λ inner. children_into-beside moves inner (drop offset (children_of x.forest n))) x _ (beside o))
tail_into-beside moves into offset (n ∷ m ∷ path) x _ (beside o) =
    copy_into-beside into n (λ inner v. children_into moves inner (past m (children_of x.forest n)) (tail_into moves inner offset (m ∷ path) v))
    (λ inner v u k. children_into-beside moves inner (past m (children_of x.forest n)) _ _ (tail_into-beside moves inner offset (m ∷ path) v u k))
    x _ (beside o)

head_into-beside : (moves : Bool) (into offset : ℕ) (path : List ℕ) → Keeps (head_into moves into offset path)
head_into-beside moves into offset [] x y h = h
head_into-beside moves into offset (n ∷ []) x _ (beside o) =
    choice-beside (kind_passes is_character_data x.forest n)
    (units_into-beside moves into n 0 offset x _ (beside o))
    (copy_into-beside into n (λ inner v. children_into moves inner (take offset (children_of x.forest n)) v)
    (λ inner. children_into-beside moves inner (take offset (children_of x.forest n))) x _ (beside o))
head_into-beside moves into offset (n ∷ m ∷ path) x _ (beside o) =
    copy_into-beside into n (λ inner v. head_into moves inner offset (m ∷ path) (children_into moves inner (up_to m (children_of x.forest n)) v))
    (λ inner v u k. head_into-beside moves inner offset (m ∷ path) _ _ (children_into-beside moves inner (up_to m (children_of x.forest n)) v u k))
    x _ (beside o)

parts_into-beside : (moves : Bool) (into : ℕ) (r : Range) → Keeps (parts_into moves into r)
parts_into-beside moves into r x _ (beside o) =
    head_into-beside moves into r.end.offset (path_below x.forest (common_of x r) r.end.node) _ _
    (children_into-beside moves into (contained_children x r) _ _
    (tail_into-beside moves into r.start.offset (path_below x.forest (common_of x r) r.start.node) x _ (beside o)))

contents_drawn-beside : (moves : Bool) (r : Range) → Keeps (contents_drawn moves r)
contents_drawn-beside moves r x _ (beside o) =
    choice-beside (is_collapsed r) made
    (choice-beside (is_in_one_data x r)
    (units_into-beside moves x.made r.start.node r.start.offset (r.end.offset - r.start.offset) _ _ made)
    (parts_into-beside moves x.made r _ _ made))
  where
    made : Beside (new_fragment (node_document x r.start.node) x) (new_fragment (node_document x r.start.node) (record x { observing = o }))
    made = new_fragment-beside (node_document x r.start.node) x _ (beside o)

extracted-beside : (r : ℕ) (range : Range) → Keeps (extracted r range)
extracted-beside r range x _ (beside o) =
    choice-beside (is_collapsed range || is_in_one_data x range)
    (contents_drawn-beside true range x _ (beside o))
    (with_range-beside r (collapsed_at (new_place x.forest range)) _ _ (contents_drawn-beside true range x _ (beside o)))

extract-beside : (r : ℕ) → Keeps (extract r)
extract-beside r x _ (beside o) = for_range-beside (range_at x r) (extracted r) (extracted-beside r) x _ (beside o)

-- Steps that may refuse.

-- one refusal, or worlds that are so
data AlikeOutcome : Outcome → Outcome → Type 0 where
  both_done : {x y : World} → Beside x y → AlikeOutcome (Ok x) (Ok y)
  both_refused : (e : DomError) → AlikeOutcome (Err e) (Err e)

-- a step that may refuse keeps two worlds so
abbrev MayKeep : (World → Outcome) → Type 0
MayKeep step = (x y : World) → Beside x y → AlikeOutcome (step x) (step y)

and_then-beside : (step : World → Outcome) → MayKeep step → (s t : Outcome) → AlikeOutcome s t → AlikeOutcome (and_then s step) (and_then t step)
and_then-beside step k _ _ (both_done h) = k _ _ h
and_then-beside step k _ _ (both_refused e) = both_refused e

unless-beside : (e : Option DomError) → MayKeep (unless e)
unless-beside None x y h = both_done h
unless-beside (Some e) x y h = both_refused e

for_range-outcome : (range : Option Range) (step : Range → World → Outcome) → ((range : Range) → MayKeep (step range)) → MayKeep (λ w. for_range range (Ok w) (λ range. step range w))
for_range-outcome None step k x y h = both_done h
for_range-outcome (Some range) step k x y h = k range x y h

-- Insert node.

try_pre_insert-beside : (n parent : ℕ) (child : Option ℕ) → MayKeep (try_pre_insert n parent child)
try_pre_insert-beside n parent child x _ (beside o) =
    and_then-beside (λ v. Ok (pre_insert n parent child v)) (λ v u k. both_done (pre_insert-beside n parent child v u k)) _ _
    (unless-beside (check_insert x.forest parent n child) x _ (beside o))

split_at-beside : (p : Point) → Keeps (split_at p)
split_at-beside p x _ (beside o) = choice-beside (is_text x p.node) (split-beside p.node p.offset x _ (beside o)) (beside o)

end_of-beside : (r : ℕ) (p : Point) (range : Range) → Keeps (λ w. if is_collapsed range then with_range r (record range { end = p }) w else w)
end_of-beside r p range x y h = choice-beside (is_collapsed range) (with_range-beside r (record range { end = p }) x y h) h

end_if_collapsed-beside : (r : ℕ) (p : Point) → Keeps (end_if_collapsed r p)
end_if_collapsed-beside r p x _ (beside o) =
    for_range-beside (range_at x r) (λ range w. if is_collapsed range then with_range r (record range { end = p }) w else w)
    (end_of-beside r p) x _ (beside o)

put_at-beside : (r n parent : ℕ) (reference : Option ℕ) → MayKeep (λ w. and_then (try_pre_insert n parent reference w) (λ v. Ok (end_if_collapsed r (record { node = parent; offset = offset_past w parent reference n }) v)))
put_at-beside r n parent reference x _ (beside o) =
    let p : Point = record { node = parent; offset = offset_past x parent reference n } in
    and_then-beside (λ v. Ok (end_if_collapsed r p v)) (λ v u k. both_done (end_if_collapsed-beside r p v u k)) _ _
    (try_pre_insert-beside n parent reference x _ (beside o))

placed_at-beside : (r n parent : ℕ) (reference : Option ℕ) → MayKeep (placed_at r n parent reference)
placed_at-beside r n parent reference x y h = put_at-beside r n parent reference _ _ (remove-beside false n x y h)

placed_apart-beside : (r n parent : ℕ) (reference : Option ℕ) → MayKeep (λ w. placed_at r n parent (reference_child w n reference) w)
placed_apart-beside r n parent reference x _ (beside o) = placed_at-beside r n parent (reference_child x n reference) x _ (beside o)

split_and_placed-beside : (r n : ℕ) (p : Point) → MayKeep (λ w. let apart = split_at p w in placed_at r n (parent_at w p) (reference_child apart n (reference_after w p)) apart)
split_and_placed-beside r n p x _ (beside o) =
    placed_apart-beside r n (parent_at x p) (reference_after x p) _ _ (split_at-beside p x _ (beside o))

checked_and_placed-beside : (r n : ℕ) (p : Point) → MayKeep (λ w. and_then (unless (check_insert w.forest (parent_at w p) n (reference_at w p)) w) (λ v. let apart = split_at p v in placed_at r n (parent_at v p) (reference_child apart n (reference_after v p)) apart))
checked_and_placed-beside r n p x _ (beside o) =
    and_then-beside (λ v. let apart = split_at p v in placed_at r n (parent_at v p) (reference_child apart n (reference_after v p)) apart)
    (split_and_placed-beside r n p) _ _
    (unless-beside (check_insert x.forest (parent_at x p) n (reference_at x p)) x _ (beside o))

inserted_at-beside : (r n : ℕ) (p : Point) → MayKeep (inserted_at r n p)
inserted_at-beside r n p x _ (beside o) =
    and_then-beside (λ w. and_then (unless (check_insert w.forest (parent_at w p) n (reference_at w p)) w) (λ v. let apart = split_at p v in placed_at r n (parent_at v p) (reference_child apart n (reference_after v p)) apart))
    (checked_and_placed-beside r n p) _ _
    (unless-beside (check_start x p n) x _ (beside o))

insert_node-beside : (r n : ℕ) → MayKeep (insert_node r n)
insert_node-beside r n x _ (beside o) =
    for_range-outcome (range_at x r) (λ range. inserted_at r n range.start) (λ range. inserted_at-beside r n range.start) x _ (beside o)

-- Surround contents.

try_extract-beside : (r : ℕ) → MayKeep (try_extract r)
try_extract-beside r x _ (beside o) =
    and_then-beside (λ v. Ok (extract r v)) (λ v u k. both_done (extract-beside r v u k)) _ _
    (unless-beside (check_extract r x) x _ (beside o))

selected-beside : (r : ℕ) (ends : Option Range) → MayKeep (selected r ends)
selected-beside r None x y h = both_refused InvalidNodeTypeError
selected-beside r (Some ends) x y h = both_done (with_range-beside r ends x y h)

try_select-beside : (r n : ℕ) → MayKeep (try_select r n)
try_select-beside r n x _ (beside o) = selected-beside r (around x.forest n) x _ (beside o)

-- what follows the extraction
wrapped-beside : (r n fragment : ℕ) → MayKeep (λ v. and_then (insert_node r n (replace_all None n v)) (λ v. and_then (try_pre_insert fragment n None v) (λ v. try_select r n v)))
wrapped-beside r n fragment x y h =
    and_then-beside (λ v. and_then (try_pre_insert fragment n None v) (λ v. try_select r n v))
    (λ v u k. and_then-beside (λ v. try_select r n v) (try_select-beside r n) _ _ (try_pre_insert-beside fragment n None v u k)) _ _
    (insert_node-beside r n _ _ (replace_all-beside None n x y h))

surrounded-beside : (r n : ℕ) (range : Range) → MayKeep (surrounded r n range)
surrounded-beside r n range x _ (beside o) =
    and_then-beside
    (λ v. and_then (try_extract r v) (λ v. and_then (insert_node r n (replace_all None n v)) (λ v. and_then (try_pre_insert x.made n None v) (λ v. try_select r n v))))
    (λ v u k. and_then-beside
    (λ v. and_then (insert_node r n (replace_all None n v)) (λ v. and_then (try_pre_insert x.made n None v) (λ v. try_select r n v)))
    (wrapped-beside r n x.made) _ _ (try_extract-beside r v u k)) _ _
    (unless-beside (check_surround x range n) x _ (beside o))

surround-beside : (r n : ℕ) → MayKeep (surround r n)
surround-beside r n x _ (beside o) = for_range-outcome (range_at x r) (surrounded r n) (surrounded-beside r n) x _ (beside o)

-- The refusals are the same.

refusal-alike : (s t : Outcome) → AlikeOutcome s t → refusal_in t ≡ refusal_in s
refusal-alike _ _ (both_done h) = refl
refusal-alike _ _ (both_refused e) = refl

pub insert_node-refusal : (r n : ℕ) (x y : World) → Beside x y → refusal_in (insert_node r n y) ≡ refusal_in (insert_node r n x)
insert_node-refusal r n x y h = refusal-alike _ _ (insert_node-beside r n x y h)

pub surround-refusal : (r n : ℕ) (x y : World) → Beside x y → refusal_in (surround r n y) ≡ refusal_in (surround r n x)
surround-refusal r n x y h = refusal-alike _ _ (surround-beside r n x y h)
