-- Character data, Text, normalize, text content and attributes, as steps on the whole world, with their records.
-- DOM Standard, "Interface CharacterData", "Interface Text", "Interface Node" (normalize, textContent), "Interface Element".
use Rattle.std.specs.Prelude.{ℕ, ◌+◌, ◌-◌, ◌==◌, nat_lt, Bool, true, false, not, if◌then◌else◌, List, [], ◌∷◌, filter, flat_map, take_while, drop, length, Option, Some, None, is_some}
use Rattle.dom_model.specs.declared.Kind.{Kind}
use Rattle.dom_model.specs.declared.Kind.TheVariants.{Element, Text, ProcessingInstruction, Comment, Document, DocumentType, DocumentFragment}
use Rattle.dom_model.specs.declared.DomError.{DomError}
use Rattle.dom_model.specs.declared.DomError.TheVariants.{IndexSizeError}
use Rattle.dom_model.specs.declared.RecordType.TheVariants.{Attributes, CharacterData}
use Rattle.dom_model.specs.PlainLists.Lists.{among, past, first_refusal}
use Rattle.dom_model.specs.Forests.Arena.{Entry, siblings_in}
use Rattle.dom_model.specs.Forests.Forest.{Node, entry_in, parent_of, next_of, index_of, inclusive_descendants, with_node}
use Rattle.dom_model.specs.Forests.Attributes.{Attribute, attribute_value, with_attribute, without_attribute}
use Rattle.dom_model.specs.Forests.Texts.{substring, spliced}
use Rattle.dom_model.specs.Worlds.World.{Content, World}
use Rattle.dom_model.specs.BoundaryPoints.Points.{map_ranges, after_splice, after_split, after_merge}
use Rattle.dom_model.specs.Forests.Nodes.{is_of_kind}
use Rattle.dom_model.specs.MutationAlgorithms.Editing.{queued, remove, insert, replace_all, node_document}
use Rattle.dom_model.specs.Worlds.Making.{made_node, named, with_text}
use Rattle.dom_model.specs.Worlds.Lengths.{length_at}

abbrev pub content_in : Option (Entry (Node Content)) → Content
content_in None = with_text []
content_in (Some e) = e.value.body

-- the data of a node, in units
abbrev pub data_of : World → ℕ → List ℕ
data_of w n = (content_in (entry_in w.forest n)).text

abbrev pub attributes_of : World → ℕ → List Attribute
attributes_of w n = (content_in (entry_in w.forest n)).attributes

-- the node with other data
abbrev pub with_data : List ℕ → Node Content → Node Content
with_data text x = record x { body = record (x.body) { text = text } }

abbrev pub with_attributes : List Attribute → Node Content → Node Content
with_attributes attributes x = record x { body = record (x.body) { attributes = attributes } }

-- a count of units from an offset on, cut at the end; in whole numbers, so that no sum is too large
abbrev pub cut_count : ℕ → ℕ → ℕ → ℕ
cut_count whole offset count = if nat_lt whole (offset + count) then whole - offset else count

-- the refusal of an offset past the end
abbrev pub check_offset : World → ℕ → ℕ → Option DomError
check_offset w n offset = first_refusal ((nat_lt (length_at w n) offset, IndexSizeError) ∷ [])

-- queue a characterData record, with the data as it is before the change
abbrev pub data_record : ℕ → World → World
data_record n w = queued (record {
  type = CharacterData;
  target = n;
  name = None;
  old_value = Some (data_of w n);
  added = [];
  removed = [];
  previous = None;
  next = None;
  standing = [];
}) w

-- the units from an offset on give way to others, and live range ends with them
abbrev pub replace_units : ℕ → ℕ → ℕ → List ℕ → World → World
replace_units n offset count added w = record w {
  forest = with_node n (with_data (spliced offset count added (data_of w n))) w.forest;
  ranges = map_ranges (after_splice n offset count (length added)) w.ranges;
}

-- replace data
abbrev pub replace_data : ℕ → ℕ → ℕ → List ℕ → World → World
replace_data n offset count added w =
    replace_units n offset (cut_count (length (data_of w n)) offset count) added (data_record n w)

-- data set as a whole
abbrev pub set_data : ℕ → List ℕ → World → World
set_data n text w = replace_data n 0 (length (data_of w n)) text w

-- substring data
abbrev pub substring_data : World → ℕ → ℕ → ℕ → List ℕ
substring_data w n offset count = substring offset (cut_count (length (data_of w n)) offset count) (data_of w n)

-- what lies beyond an offset
abbrev pub tail_of : World → ℕ → ℕ → List ℕ
tail_of w n offset = drop offset (data_of w n)

-- split: the new Text comes in after the node, and the ends beyond the offset go into it
abbrev pub split_off : ℕ → ℕ → ℕ → Option ℕ → World → World
split_off n offset new None w = w
split_off n offset new (Some parent) w =
    let after = insert false new parent (next_of w.forest n) w in
    record after { ranges = map_ranges (after_split n offset new parent (index_of after.forest n)) after.ranges }

-- split a Text at an offset: a new Text gets the tail
abbrev pub split : ℕ → ℕ → World → World
split n offset w =
    let tail = tail_of w n offset in
    let made = made_node (node_document w n) (named Text []) (with_text tail) w in
    replace_data n offset (length tail) [] (split_off n offset w.made (parent_of w.forest n) made)

-- the Texts that follow a node among its siblings, one after another
abbrev pub following_texts : World → ℕ → List ℕ
following_texts w n = take_while (is_of_kind Text w.forest) (past n (siblings_in (entry_in w.forest) n))

abbrev pub joined_data : World → List ℕ → List ℕ
joined_data w ns = flat_map (data_of w) ns

-- the ends in a Text that is joined, and those at it, move
abbrev pub merged_ends : ℕ → ℕ → ℕ → Option ℕ → World → World
merged_ends t into base None w = w
merged_ends t into base (Some parent) w =
    record w { ranges = map_ranges (after_merge t into base parent (index_of w.forest t)) w.ranges }

-- for each joined Text in turn, the length so far growing by its own
abbrev pub merge_ends : ℕ → ℕ → List ℕ → World → World
merge_ends into base [] w = w
merge_ends into base (t ∷ ts) w =
    merge_ends into (base + length (data_of w t)) ts (merged_ends t into base (parent_of w.forest t) w)

-- remove the nodes of a list one after another
abbrev pub remove_each : List ℕ → World → World
remove_each [] w = w
remove_each (n ∷ ns) w = remove_each ns (remove false n w)

-- the Texts that follow are joined to a Text
abbrev pub join_following : ℕ → List ℕ → World → World
join_following t ts w =
    let base = length (data_of w t) in
    remove_each ts (merge_ends t base ts (replace_data t base 0 (joined_data w ts) w))

-- a Text without data goes, another takes in those that follow it
abbrev pub normalize_text : ℕ → World → World
normalize_text t w = if length (data_of w t) == 0 then remove false t w else join_following t (following_texts w t) w

abbrev pub is_descendant : World → ℕ → ℕ → Bool
is_descendant w n t = among t (drop 1 (inclusive_descendants w.forest n))

-- the Text descendants, in tree order
abbrev pub text_descendants : World → ℕ → List ℕ
text_descendants w n = filter (is_of_kind Text w.forest) (drop 1 (inclusive_descendants w.forest n))

-- each that is still a descendant when its turn comes
abbrev pub normalize_each : ℕ → List ℕ → World → World
normalize_each n [] w = w
normalize_each n (t ∷ ts) w = normalize_each n ts (if is_descendant w n t then normalize_text t w else w)

abbrev pub normalize : ℕ → World → World
normalize n w = normalize_each n (text_descendants w n) w

-- descendant text content
abbrev pub descendant_text : World → ℕ → List ℕ
descendant_text w n = joined_data w (text_descendants w n)

abbrev pub text_content_by : Kind → World → ℕ → Option (List ℕ)
text_content_by Element w n = Some (descendant_text w n)
text_content_by Text w n = Some (data_of w n)
text_content_by ProcessingInstruction w n = Some (data_of w n)
text_content_by Comment w n = Some (data_of w n)
text_content_by Document w n = None
text_content_by DocumentType w n = None
text_content_by DocumentFragment w n = Some (descendant_text w n)

-- what is asked of a node by its kind; of no node the other value
abbrev pub by_kind : {A : Type 0} → A → (Kind → A) → Option (Entry (Node Content)) → A
by_kind other ask None = other
by_kind other ask (Some e) = ask e.value.label.kind

-- get text content
abbrev pub text_content : World → ℕ → Option (List ℕ)
text_content w n = by_kind None (λ k. text_content_by k w n) (entry_in w.forest n)

-- string replace all: the children give way to a new Text, or to nothing for the empty text
abbrev pub string_replace_all : List ℕ → ℕ → World → World
string_replace_all [] n w = replace_all None n w
string_replace_all (u ∷ us) n w =
    replace_all (Some w.made) n (made_node (node_document w n) (named Text []) (with_text (u ∷ us)) w)

abbrev pub set_text_content_by : Kind → ℕ → List ℕ → World → World
set_text_content_by Element n text w = string_replace_all text n w
set_text_content_by Text n text w = set_data n text w
set_text_content_by ProcessingInstruction n text w = set_data n text w
set_text_content_by Comment n text w = set_data n text w
set_text_content_by Document n text w = w
set_text_content_by DocumentType n text w = w
set_text_content_by DocumentFragment n text w = string_replace_all text n w

-- set text content
abbrev pub set_text_content : ℕ → List ℕ → World → World
set_text_content n text w = by_kind w (λ k. set_text_content_by k n text w) (entry_in w.forest n)

-- queue an attributes record, with the old value or null
abbrev pub attribute_record : ℕ → List ℕ → World → World
attribute_record n name w = queued (record {
  type = Attributes;
  target = n;
  name = Some name;
  old_value = attribute_value name (attributes_of w n);
  added = [];
  removed = [];
  previous = None;
  next = None;
  standing = [];
}) w

-- an attribute set, in place or last; the record comes for an equal value too
abbrev pub set_attribute : ℕ → List ℕ → List ℕ → World → World
set_attribute n name value w =
    let told = attribute_record n name w in
    record told { forest = with_node n (with_attributes (with_attribute name value (attributes_of w n))) told.forest }

abbrev pub has_attribute : World → ℕ → List ℕ → Bool
has_attribute w n name = is_some (attribute_value name (attributes_of w n))

abbrev pub remove_attribute_if : Bool → ℕ → List ℕ → World → World
remove_attribute_if false n name w = w
remove_attribute_if true n name w =
    let told = attribute_record n name w in
    record told { forest = with_node n (with_attributes (without_attribute name (attributes_of w n))) told.forest }

-- an attribute removed, where it is there
abbrev pub remove_attribute : ℕ → List ℕ → World → World
remove_attribute n name w = remove_attribute_if (has_attribute w n name) n name w

-- whether the attribute is there after a toggle, by whether it is there before: what is forced, or else the other way round
abbrev pub is_toggled_on : Option Bool → Bool → Bool
is_toggled_on None present = not present
is_toggled_on (Some force) present = force

abbrev pub toggled : Bool → Bool → ℕ → List ℕ → World → World
toggled false true n name w = set_attribute n name [] w
toggled false false n name w = w
toggled true true n name w = w
toggled true false n name w = remove_attribute n name w

-- toggle attribute: the empty value appended, the attribute removed, or nothing
abbrev pub toggle_attribute : ℕ → List ℕ → Option Bool → World → World
toggle_attribute n name force w = toggled (has_attribute w n name) (is_toggled_on force (has_attribute w n name)) n name w
