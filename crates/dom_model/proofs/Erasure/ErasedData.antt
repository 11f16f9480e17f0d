-- Worlds without some observers: character data, Text, attributes, new nodes and copies keep the two so.
use Rattle.std.proofs.Common.{ℕ, ◌+◌, Bool, true, false, List, [], ◌∷◌, length, Option, Some, None}
use Rattle.dom_model.specs.Definitions.{Label, Entry, Node, Forest, entry_in, parent_of, next_of, index_of, with_node, attribute_value, with_attribute, without_attribute, Content, map_ranges, after_splice, after_split, after_merge, spliced, made_node, data_of, with_data, attributes_of, with_attributes, data_record, replace_units, replace_data, set_data, split_off, split, joined_data, merged_ends, merge_ends, remove_each, join_following, normalize_text, is_descendant, text_descendants, normalize_each, normalize, by_kind, string_replace_all, set_text_content_by, set_text_content, attribute_record, set_attribute, has_attribute, remove_attribute_if, remove_attribute, toggled, toggle_attribute, original, with_copies, document_of_clone, clone_node, import_node}
use Rattle.dom_model.specs.declared.{Kind.Kind, Kind.TheVariants.Element, Kind.TheVariants.Document, Kind.TheVariants.DocumentType, Kind.TheVariants.DocumentFragment, RecordType.TheVariants.Attributes, RecordType.TheVariants.CharacterData}
use Rattle.dom_model.proofs.Erasure.ErasedWorlds.{without, Keeps, moved_ranges-left, with_forest-left, choice-left, queued-left, remove-left, insert-left, replace_all-left}

module _ (erased : ℕ → Bool) (watched : Bool) where
  -- Data.

  data_record-left : (n : ℕ) → Keeps erased watched (data_record n)
  data_record-left n x _ (without o v h) =
      queued-left erased watched (record {
        type = CharacterData;
        target = n;
        name = None;
        old_value = Some (data_of x n);
        added = [];
        removed = [];
        previous = None;
        next = None;
        standing = [];
      }) x _ (without o v h)

  replace_units-left : (n offset count : ℕ) (added : List ℕ) → Keeps erased watched (replace_units n offset count added)
  replace_units-left n offset count added x _ (without o v h) =
      with_forest-left erased watched (with_node n (with_data (spliced offset count added (data_of x n)))) _ _
      (moved_ranges-left erased watched (after_splice n offset count (length added)) x _ (without o v h))

  pub replace_data-left : (n offset count : ℕ) (added : List ℕ) → Keeps erased watched (replace_data n offset count added)
  replace_data-left n offset count added x _ (without o v h) = search (replace_units-left, data_record-left, without)

  pub set_data-left : (n : ℕ) (text : List ℕ) → Keeps erased watched (set_data n text)
  set_data-left n text x _ (without o v h) = replace_data-left n 0 (length (data_of x n)) text x _ (without o v h)

  pub made_node-left : (document : ℕ) (label : Label) (body : Content) → Keeps erased watched (made_node document label body)
  made_node-left document label body x _ (without o v h) = without o v h

  -- Split.

  split_ends-left : (n offset new parent : ℕ) → Keeps erased watched (λ w. record w { ranges = map_ranges (after_split n offset new parent (index_of w.forest n)) w.ranges })
  split_ends-left n offset new parent x _ (without o v h) =
      moved_ranges-left erased watched (after_split n offset new parent (index_of x.forest n)) x _ (without o v h)

  split_off-left : (n offset new : ℕ) (parent : Option ℕ) → Keeps erased watched (split_off n offset new parent)
  split_off-left n offset new None x y h = h
  split_off-left n offset new (Some parent) x _ (without o v h) =
      split_ends-left n offset new parent _ _ (insert-left erased watched false new parent (next_of x.forest n) x _ (without o v h))

  pub split-left : (n offset : ℕ) → Keeps erased watched (split n offset)
  split-left n offset x _ (without o v h) = search (replace_data-left, split_off-left, made_node-left, without)

  -- Normalize.

  merged_ends-left : (t into base : ℕ) (parent : Option ℕ) → Keeps erased watched (merged_ends t into base parent)
  merged_ends-left t into base None x y h = h
  merged_ends-left t into base (Some parent) x _ (without o v h) =
      moved_ranges-left erased watched (after_merge t into base parent (index_of x.forest t)) x _ (without o v h)

  merge_ends-left : (into base : ℕ) (ts : List ℕ) → Keeps erased watched (merge_ends into base ts)
  merge_ends-left into base [] x y h = h
  merge_ends-left into base (t ∷ ts) x _ (without o v h) =
      merge_ends-left into (base + length (data_of x t)) ts _ _ (merged_ends-left t into base (parent_of x.forest t) x _ (without o v h))

  pub remove_each-left : (ns : List ℕ) → Keeps erased watched (remove_each ns)
  remove_each-left [] x y h = h
  remove_each-left (n ∷ ns) x y h = remove_each-left ns _ _ (remove-left erased watched false n x y h)

  join_following-left : (t : ℕ) (ts : List ℕ) → Keeps erased watched (join_following t ts)
  join_following-left t ts x _ (without o v h) =
      let base = length (data_of x t) in
      remove_each-left ts _ _ (merge_ends-left t base ts _ _ (replace_data-left t base 0 (joined_data x ts) x _ (without o v h)))

  normalize_text-left : (t : ℕ) → Keeps erased watched (normalize_text t)
  normalize_text-left t x _ (without o v h) = search (choice-left, remove-left, join_following-left, without)

  normalize_each-left : (n : ℕ) (ts : List ℕ) → Keeps erased watched (normalize_each n ts)
  normalize_each-left n [] x y h = h
  normalize_each-left n (t ∷ ts) x _ (without o v h) =
      normalize_each-left n ts _ _ (choice-left erased watched (is_descendant x n t) (normalize_text-left t x _ (without o v h)) (without o v h))

  pub normalize-left : (n : ℕ) → Keeps erased watched (normalize n)
  normalize-left n x _ (without o v h) = normalize_each-left n (text_descendants x n) x _ (without o v h)

  -- Set text content.

  string_replace_all-left : (text : List ℕ) (n : ℕ) → Keeps erased watched (string_replace_all text n)
  string_replace_all-left [] n x y h = replace_all-left erased watched None n x y h
  string_replace_all-left (u ∷ us) n x _ (without o v h) = search (replace_all-left, made_node-left, without)

  set_text_content_by-left : (k : Kind) (n : ℕ) (text : List ℕ) → Keeps erased watched (set_text_content_by k n text)
  set_text_content_by-left Element n text x y h = string_replace_all-left text n x y h
  set_text_content_by-left DocumentFragment n text x y h = string_replace_all-left text n x y h
  set_text_content_by-left Document n text x y h = h
  set_text_content_by-left DocumentType n text x y h = h
  set_text_content_by-left k n text x y h = set_data-left n text x y h

  content_by-left : (n : ℕ) (text : List ℕ) (e : Option (Entry (Node Content))) → Keeps erased watched (λ w. by_kind w (λ k. set_text_content_by k n text w) e)
  content_by-left n text None x y h = h
  content_by-left n text (Some e) x y h = set_text_content_by-left e.value.label.kind n text x y h

  pub set_text_content-left : (n : ℕ) (text : List ℕ) → Keeps erased watched (set_text_content n text)
  set_text_content-left n text x _ (without o v h) = content_by-left n text (entry_in x.forest n) x _ (without o v h)

  -- Attributes.

  attribute_record-left : (n : ℕ) (name : List ℕ) → Keeps erased watched (attribute_record n name)
  attribute_record-left n name x _ (without o v h) =
      queued-left erased watched (record {
        type = Attributes;
        target = n;
        name = Some name;
        old_value = attribute_value name (attributes_of x n);
        added = [];
        removed = [];
        previous = None;
        next = None;
        standing = [];
      }) x _ (without o v h)

  pub set_attribute-left : (n : ℕ) (name value : List ℕ) → Keeps erased watched (set_attribute n name value)
  set_attribute-left n name value x _ (without o v h) =
      with_forest-left erased watched (with_node n (with_attributes (with_attribute name value (attributes_of x n)))) _ _
      (attribute_record-left n name x _ (without o v h))

  remove_attribute_if-left : (v : Bool) (n : ℕ) (name : List ℕ) → Keeps erased watched (remove_attribute_if v n name)
  remove_attribute_if-left false n name x y h = h
  remove_attribute_if-left true n name x _ (without o v h) =
      with_forest-left erased watched (with_node n (with_attributes (without_attribute name (attributes_of x n)))) _ _
      (attribute_record-left n name x _ (without o v h))

  pub remove_attribute-left : (n : ℕ) (name : List ℕ) → Keeps erased watched (remove_attribute n name)
  remove_attribute-left n name x _ (without o v h) = remove_attribute_if-left (has_attribute x n name) n name x _ (without o v h)

  toggled-left : (present on : Bool) (n : ℕ) (name : List ℕ) → Keeps erased watched (toggled present on n name)
  toggled-left false true n name x y h = set_attribute-left n name [] x y h
  toggled-left false false n name x y h = h
  toggled-left true true n name x y h = h
  toggled-left true false n name x y h = remove_attribute-left n name x y h

  pub toggle_attribute-left : (n : ℕ) (name : List ℕ) (force : Option Bool) → Keeps erased watched (toggle_attribute n name force)
  toggle_attribute-left n name force x _ (without o v h) = search (toggled-left, without)

  -- Copies.

  pub with_copies-left : (document : ℕ) (copied : Forest Content) → Keeps erased watched (with_copies document copied)
  with_copies-left document copied x _ (without o v h) = without o v h

  pub clone_node-left : (deep : Bool) (n : ℕ) → Keeps erased watched (clone_node deep n)
  clone_node-left deep n x _ (without o v h) = with_copies-left (document_of_clone x n) (original deep n x.forest) x _ (without o v h)

  pub import_node-left : (document : ℕ) (deep : Bool) (n : ℕ) → Keeps erased watched (import_node document deep n)
  import_node-left document deep n x _ (without o v h) = with_copies-left document (original deep n x.forest) x _ (without o v h)
