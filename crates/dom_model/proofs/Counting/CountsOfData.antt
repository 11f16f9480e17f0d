-- How many numbers the steps on data, Texts and attributes give out: at most one, for a node.
-- DOM Standard, "Interface CharacterData", "Interface Text", "Interface Node", "Interface Element".
use Rattle.std.proofs.Common.{◌≡◌, ℕ, ◌+◌, ◌<◌, ◌≤◌, ◌==◌, Bool, true, false, List, [], ◌∷◌, length, Option, Some, None, refl, arith, rules}
use Rattle.dom_model.specs.Definitions.{Label, Entry, Node, Forest, empty, node, occurs, with_node, parent_of, entry_in, next_of, Content, World, made_node, named, with_text, remove, insert, node_document, map_ranges, after_splice, data_of, tail_of, data_record, replace_units, replace_data, set_data, split_off, split, following_texts, joined_data, merged_ends, merge_ends, remove_each, join_following, normalize_text, is_descendant, text_descendants, normalize_each, normalize, by_kind, string_replace_all, set_text_content_by, set_text_content, attribute_record, set_attribute, has_attribute, remove_attribute_if, remove_attribute, is_toggled_on, toggled, toggle_attribute}
use Rattle.dom_model.specs.declared.{Kind.Kind, Kind.TheVariants.Element, Kind.TheVariants.Document, Kind.TheVariants.DocumentType, Kind.TheVariants.DocumentFragment, Kind.TheVariants.Text}
use Rattle.std.proofs.lemmas.Bool.Decides.{nat_tests}
use Rattle.dom_model.proofs.Worlds.SameShape.{bare_node, with_node-alike}
use Rattle.dom_model.proofs.Counting.{NumbersGone.none-alike, NumbersGone.none-beside, CountsKept.IsGrown, CountsKept.grown-then, CountsKept.grown-more, CountsKept.kept-then, CountsKept.kept-same, CountsKept.kept-if, CountsKept.observing-kept, CountsKept.forest-kept, CountsKept.moved-kept, CountsKept.remove-kept, CountsKept.insert-kept, CountsKept.replace_all-kept}

pub made_node-grown : (document : ℕ) (label : Label) (body : Content) (w : World) → IsGrown 1 w (made_node document label body w)
made_node-grown document label body w = let gone = none-beside w.made w.forest new later in search rules
  where
    new : Forest Content
    new = node (record { number = w.made; document = document; label = label; body = body }) empty empty

    later : (n : ℕ) → n < w.made → occurs n new ≡ 0
    later n l = grind (arith, nat_tests)

-- a node with other data or attributes
changed-kept : (change : Node Content → Node Content) → ((x : Node Content) → bare_node (change x) ≡ bare_node x) → (n : ℕ) (w : World) → IsGrown 0 w (record w { forest = with_node n change w.forest })
changed-kept change keeps n w = forest-kept w _ (none-alike (with_node-alike change keeps n w.forest))

replace_units-kept : (n offset count : ℕ) (added : List ℕ) (w : World) → IsGrown 0 w (replace_units n offset count added w)
replace_units-kept n offset count added w =
    kept-then (moved-kept w (after_splice n offset count (length added))) (changed-kept _ (λ x. refl) n (record w { ranges = map_ranges (after_splice n offset count (length added)) w.ranges }))

pub replace_data-kept : (n offset count : ℕ) (added : List ℕ) (w : World) → IsGrown 0 w (replace_data n offset count added w)
replace_data-kept n offset count added w = kept-then (observing-kept w _ refl (λ r. refl)) (replace_units-kept n offset _ added (data_record n w))

pub set_data-kept : (n : ℕ) (text : List ℕ) (w : World) → IsGrown 0 w (set_data n text w)
set_data-kept n text w = replace_data-kept n 0 (length (data_of w n)) text w

split_off-kept : (n offset new : ℕ) (parent : Option ℕ) (w : World) → IsGrown 0 w (split_off n offset new parent w)
split_off-kept n offset new None w = kept-same w
split_off-kept n offset new (Some parent) w =
    let after = insert false new parent (next_of w.forest n) w in
    kept-then (insert-kept false new parent (next_of w.forest n) w) (moved-kept after _)

-- once the new Text is made
parted-kept : (n offset : ℕ) (w : World) → IsGrown 0 (made_node (node_document w n) (named Text []) (with_text (tail_of w n offset)) w) (split n offset w)
parted-kept n offset w =
    let made = made_node (node_document w n) (named Text []) (with_text (tail_of w n offset)) w in
    kept-then (split_off-kept n offset w.made (parent_of w.forest n) made)
    (replace_data-kept n offset (length (tail_of w n offset)) [] (split_off n offset w.made (parent_of w.forest n) made))

pub split-grown : (n offset : ℕ) (w : World) → IsGrown 1 w (split n offset w)
split-grown n offset w = grown-then 1 0 (made_node-grown _ _ _ w) (parted-kept n offset w)

pub split-least : (n offset : ℕ) (w : World) → w.made + 1 ≤ (split n offset w).made
split-least n offset w = (parted-kept n offset w).least

merged_ends-kept : (t into base : ℕ) (parent : Option ℕ) (w : World) → IsGrown 0 w (merged_ends t into base parent w)
merged_ends-kept t into base None w = kept-same w
merged_ends-kept t into base (Some parent) w = moved-kept w _

merge_ends-kept : (into base : ℕ) (ts : List ℕ) (w : World) → IsGrown 0 w (merge_ends into base ts w)
merge_ends-kept into base [] w = kept-same w
merge_ends-kept into base (t ∷ ts) w =
    kept-then (merged_ends-kept t into base (parent_of w.forest t) w)
    (merge_ends-kept into (base + length (data_of w t)) ts (merged_ends t into base (parent_of w.forest t) w))

pub remove_each-kept : (ns : List ℕ) (w : World) → IsGrown 0 w (remove_each ns w)
remove_each-kept [] w = kept-same w
remove_each-kept (n ∷ ns) w = kept-then (remove-kept false n w) (remove_each-kept ns (remove false n w))

join_following-kept : (t : ℕ) (ts : List ℕ) (w : World) → IsGrown 0 w (join_following t ts w)
join_following-kept t ts w =
    let base = length (data_of w t) in
    let joined = replace_data t base 0 (joined_data w ts) w in
    kept-then (replace_data-kept t base 0 (joined_data w ts) w) (kept-then (merge_ends-kept t base ts joined) (remove_each-kept ts (merge_ends t base ts joined)))

normalize_text-kept : (t : ℕ) (w : World) → IsGrown 0 w (normalize_text t w)
normalize_text-kept t w =
    kept-if (length (data_of w t) == 0) w (remove false t w) (join_following t (following_texts w t) w)
    (remove-kept false t w)
    (join_following-kept t (following_texts w t) w)

normalize_each-kept : (n : ℕ) (ts : List ℕ) (w : World) → IsGrown 0 w (normalize_each n ts w)
normalize_each-kept n [] w = kept-same w
normalize_each-kept n (t ∷ ts) w =
    kept-then (kept-if (is_descendant w n t) w (normalize_text t w) w (normalize_text-kept t w) (kept-same w)) (normalize_each-kept n ts _)

pub normalize-kept : (n : ℕ) (w : World) → IsGrown 0 w (normalize n w)
normalize-kept n w = normalize_each-kept n (text_descendants w n) w

string_replace_all-grown : (text : List ℕ) (n : ℕ) (w : World) → IsGrown 1 w (string_replace_all text n w)
string_replace_all-grown [] n w = grown-more 0 1 (omega arith) (replace_all-kept None n w)
string_replace_all-grown (u ∷ us) n w = grown-then 1 0 (made_node-grown _ _ _ w) (replace_all-kept (Some w.made) n _)

set_text_content_by-grown : (k : Kind) (n : ℕ) (text : List ℕ) (w : World) → IsGrown 1 w (set_text_content_by k n text w)
set_text_content_by-grown Element n text w = string_replace_all-grown text n w
set_text_content_by-grown DocumentFragment n text w = string_replace_all-grown text n w
set_text_content_by-grown Document n text w = grown-more 0 1 (omega arith) (kept-same w)
set_text_content_by-grown DocumentType n text w = grown-more 0 1 (omega arith) (kept-same w)
set_text_content_by-grown k n text w = grown-more 0 1 (omega arith) (set_data-kept n text w)

pub set_text_content-grown : (n : ℕ) (text : List ℕ) (w : World) → IsGrown 1 w (set_text_content n text w)
set_text_content-grown n text w = go (entry_in w.forest n)
  where
    go : (e : Option (Entry (Node Content))) → IsGrown 1 w (by_kind w (λ k. set_text_content_by k n text w) e)
    go None = grown-more 0 1 (omega arith) (kept-same w)
    go (Some e) = set_text_content_by-grown e.value.label.kind n text w

pub set_attribute-kept : (n : ℕ) (name value : List ℕ) (w : World) → IsGrown 0 w (set_attribute n name value w)
set_attribute-kept n name value w = kept-then (observing-kept w _ refl (λ r. refl)) (changed-kept _ (λ x. refl) n (attribute_record n name w))

remove_attribute_if-kept : (b : Bool) (n : ℕ) (name : List ℕ) (w : World) → IsGrown 0 w (remove_attribute_if b n name w)
remove_attribute_if-kept false n name w = kept-same w
remove_attribute_if-kept true n name w = kept-then (observing-kept w _ refl (λ r. refl)) (changed-kept _ (λ x. refl) n (attribute_record n name w))

pub remove_attribute-kept : (n : ℕ) (name : List ℕ) (w : World) → IsGrown 0 w (remove_attribute n name w)
remove_attribute-kept n name w = remove_attribute_if-kept (has_attribute w n name) n name w

pub toggle_attribute-kept : (n : ℕ) (name : List ℕ) (force : Option Bool) (w : World) → IsGrown 0 w (toggle_attribute n name force w)
toggle_attribute-kept n name force w = go (has_attribute w n name) (is_toggled_on force (has_attribute w n name))
  where
    go : (before after : Bool) → IsGrown 0 w (toggled before after n name w)
    go false true = set_attribute-kept n name [] w
    go false false = kept-same w
    go true true = kept-same w
    go true false = remove_attribute-kept n name w
