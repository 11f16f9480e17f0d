-- Changes of data and of attributes leave a sound world. DOM Standard, "Interface CharacterData" (replace data), "Interface Element".
use Rattle.std.proofs.Common.{◌≡◌, ℕ, ◌+◌, ◌≤◌, ◌==◌, Bool, true, false, List, [], ◌++◌, take, drop, length, Option, Some, None, All, refl, ap, sym, ◌∙◌, subst, arith, length-append, length-drop}
use Rattle.std.proofs.lemmas.{Bool.false≢true, Bool.Decides.nat_tests, List.length-take-le, Bool.eq-eqb}
use Rattle.dom_model.proofs.Worlds.{Measured.kept-with_node, SameShape.IsAlike, SameShape.bare_node, SameShape.with_node-alike, Measured.data_kind, Measured.entry-with_node}
use Rattle.dom_model.specs.Definitions.{Entry, is_character_data, Node, Forest, with_node, entry_in, Attribute, with_attribute, without_attribute, spliced, Content, Range, World, after_splice, entry_has, kind_passes, unit_count, length_in, node_length, content_in, data_of, attributes_of, with_data, with_attributes, cut_count, data_record, replace_units, replace_data, set_data, attribute_record, set_attribute, has_attribute, remove_attribute_if, remove_attribute, is_toggled_on, toggled, toggle_attribute, IsSound}
use Rattle.dom_model.proofs.PlainLists.Numbers.{same_or, same, apart}
use Rattle.dom_model.proofs.Forests.Changes.{change_at}
use Rattle.dom_model.proofs.Soundness.{SoundForests.IsWood-alike, SoundWorlds.IsLive, SoundWorlds.ranges-moved, SoundWorlds.ranges-kept, SoundWorlds.sound-on}
use Rattle.dom_model.proofs.RangesAndContents.RangesSpliced.{range-alike, iterator-alike, there-alike, range-splice}

pub length-spliced : (at count : ℕ) (added units : List ℕ) → at + count ≤ length units → length (spliced at count added units) + count ≡ length units + length added
length-spliced at count added units h =
    let a = length-append (take at units ++ added) (drop (at + count) units) in
    let b = length-append (take at units) added in
    let c = length-take-le at units (omega arith) in
    let d = length-drop (at + count) units in
    omega arith

-- the length of a node with data is the number of its units
pub length-data : (f : Forest Content) (n : ℕ) → kind_passes is_character_data f n ≡ true → node_length unit_count f n ≡ length (content_in (entry_in f n)).text
length-data f n h = go (entry_in f n) h
  where
    go : (o : Option (Entry (Node Content))) → entry_has is_character_data o ≡ true → length_in unit_count o ≡ length (content_in o).text
    go None k = absurd (false≢true k)
    go (Some e) k = rw (data_kind e.value.label.kind k, k) refl

-- Nodes of one number change, but not their numbers and labels.

module _ (change : Node Content → Node Content) (keeps : (x : Node Content) → bare_node (change x) ≡ bare_node x) (n : ℕ) (w : World) (s : IsSound w) where
  abbrev pub changed : Forest Content
  changed = with_node n change w.forest

  pub alike : IsAlike w.forest changed
  alike = with_node-alike change keeps n w.forest

  number : (x : Node Content) → (change x).number ≡ x.number
  number x = ap (λ (y : Node Content). y.number) (keeps x)

  kind : (x : Node Content) → (change x).label.kind ≡ x.label.kind
  kind x = ap (λ (y : Node Content). y.label.kind) (keeps x)

  pub length-other : (m : ℕ) → (m == n) ≡ false → node_length unit_count changed m ≡ node_length unit_count w.forest m
  length-other m far = kept-with_node change number (length_in unit_count) n m (λ e. rw far refl) w.forest

  pub sound-changed : (ranges : List (Option Range)) → All (IsLive changed) ranges → IsSound (record w { forest = changed; ranges = ranges })
  sound-changed ranges h = sound-on w s changed w.made ranges (IsWood-alike s.forest alike) h (iterator-alike alike) (there-alike alike)

-- Data.

pub sound-replace_units : (n offset count : ℕ) (added : List ℕ) (w : World) → IsSound w → kind_passes is_character_data w.forest n ≡ true → offset + count ≤ length (data_of w n) → IsSound (replace_units n offset count added w)
sound-replace_units n offset count added w s k fits =
    sound-changed change keeps n w s _
    (ranges-moved w.forest g (after_splice n offset count (length added))
    (range-splice s.forest (alike change keeps n w s) n offset count (length added) k (length-other change keeps n w s) itself (subst (λ x. offset + count ≤ x) (sym whole) fits))
    w.ranges s.ranges)
  where
    change : Node Content → Node Content
    change = with_data (spliced offset count added (data_of w n))

    keeps : (x : Node Content) → bare_node (change x) ≡ bare_node x
    keeps x = refl

    g : Forest Content
    g = with_node n change w.forest

    whole : node_length unit_count w.forest n ≡ length (data_of w n)
    whole = length-data w.forest n k

    itself : node_length unit_count g n + count ≡ node_length unit_count w.forest n + length added
    itself =
        let a : node_length unit_count g n ≡ length (spliced offset count added (data_of w n)) = ap (length_in unit_count) (entry-with_node change (λ x. refl) n n None w.forest) ∙ go (entry_in w.forest n) k in
        omega (arith, length-spliced offset count added (data_of w n) fits, whole)
      where
        go : (o : Option (Entry (Node Content))) → entry_has is_character_data o ≡ true → length_in unit_count (change_at change n n o) ≡ length (spliced offset count added (data_of w n))
        go None k = absurd (false≢true k)
        go (Some e) k = rw (eq-eqb n n refl, data_kind e.value.label.kind k, k) refl

pub cut_fits : (whole offset count : ℕ) → offset ≤ whole → offset + cut_count whole offset count ≤ whole
cut_fits whole offset count h = grind (arith, nat_tests)

pub sound-data_record : (n : ℕ) (w : World) → IsSound w → IsSound (data_record n w)
sound-data_record n w s = record { forest = s.forest; ranges = s.ranges; iterators = s.iterators; walkers = s.walkers; registrations = s.registrations; statics = s.statics }

-- replace data, from an offset within it
pub sound-replace_data : (n offset count : ℕ) (added : List ℕ) (w : World) → IsSound w → kind_passes is_character_data w.forest n ≡ true → offset ≤ length (data_of w n) → IsSound (replace_data n offset count added w)
sound-replace_data n offset count added w s k h =
    sound-replace_units n offset (cut_count (length (data_of w n)) offset count) added (data_record n w) (sound-data_record n w s) k (cut_fits (length (data_of w n)) offset count h)

pub sound-set_data : (n : ℕ) (text : List ℕ) (w : World) → IsSound w → kind_passes is_character_data w.forest n ≡ true → IsSound (set_data n text w)
sound-set_data n text w s k = sound-replace_data n 0 (length (data_of w n)) text w s k (omega arith)

-- Attributes.

sound-with_attributes : (n : ℕ) (attributes : List Attribute) (w : World) → IsSound w → IsSound (record w { forest = with_node n (with_attributes attributes) w.forest })
sound-with_attributes n attributes w s =
    sound-changed (with_attributes attributes) (λ x. refl) n w s w.ranges
    (ranges-kept w.forest g (range-alike (alike (with_attributes attributes) (λ x. refl) n w s) lengths) w.ranges s.ranges)
  where
    g : Forest Content
    g = with_node n (with_attributes attributes) w.forest

    lengths : (m : ℕ) → node_length unit_count g m ≡ node_length unit_count w.forest m
    lengths m =
        kept-with_node (with_attributes attributes) (λ x. refl) (length_in unit_count) n m (λ e. elim (same_or m n) [ same _ t ↦ rw t refl | apart _ t ↦ rw t refl ]) w.forest

sound-attribute_record : (n : ℕ) (name : List ℕ) (w : World) → IsSound w → IsSound (attribute_record n name w)
sound-attribute_record n name w s = record { forest = s.forest; ranges = s.ranges; iterators = s.iterators; walkers = s.walkers; registrations = s.registrations; statics = s.statics }

pub sound-set_attribute : (n : ℕ) (name value : List ℕ) (w : World) → IsSound w → IsSound (set_attribute n name value w)
sound-set_attribute n name value w s = sound-with_attributes n (with_attribute name value (attributes_of w n)) (attribute_record n name w) (sound-attribute_record n name w s)

pub sound-remove_attribute : (n : ℕ) (name : List ℕ) (w : World) → IsSound w → IsSound (remove_attribute n name w)
sound-remove_attribute n name w s = go (has_attribute w n name)
  where
    go : (v : Bool) → IsSound (remove_attribute_if v n name w)
    go false = s
    go true = sound-with_attributes n (without_attribute name (attributes_of w n)) (attribute_record n name w) (sound-attribute_record n name w s)

pub sound-toggle_attribute : (n : ℕ) (name : List ℕ) (force : Option Bool) (w : World) → IsSound w → IsSound (toggle_attribute n name force w)
sound-toggle_attribute n name force w s = go (has_attribute w n name) (is_toggled_on force (has_attribute w n name))
  where
    go : (v u : Bool) → IsSound (toggled v u n name w)
    go false true = sound-set_attribute n name [] w s
    go false false = s
    go true true = s
    go true false = sound-remove_attribute n name w s
