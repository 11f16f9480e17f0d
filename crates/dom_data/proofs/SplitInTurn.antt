-- A split in the order of the code comes to a split.
use Rattle.std.proofs.Common.{◌≡◌, ℕ, ◌+◌, ◌<◌, ◌≤◌, ◌==◌, Bool, true, false, if◌then◌else◌, List, [], ◌∷◌, length, Option, Some, None, refl, ap, sym, ◌∙◌, arith, length-drop}
use Rattle.std.proofs.lemmas.Bool.{le-ltb}
use Rattle.dom_model.specs.declared.{Kind.TheVariants.Text, Kind.TheVariants.DocumentFragment, RecordType.TheVariants.ChildList, RecordType.TheVariants.CharacterData}
use Rattle.dom_model.specs.Definitions.{is_number, after, before, last_of, is_kind, Entry, list_under, siblings_in, spliced, Node, Forest, empty, node, HasNode, IsForest, occurs, beside, tree_at, without, placed_before, placed_under, put, map_nodes, with_node, in_document, adopted, entry_in, parent_of, next_of, index_of, Content, Mutation, World, map_ranges, after_gap, after_splice, after_split, noted, standing_on, queued, tree_record, is_fragment, document_in, node_document, put_in, gap_before, previous_to, insert, made_node, named, with_text, content_in, data_of, with_data, cut_count, data_record, replace_units, replace_data, tail_of, split_off, split}
use Rattle.dom_model.proofs.PlainLists.Numbers.{Same, same_or, same, apart}
use Rattle.dom_model.proofs.Forests.{Changes.link_at, Changes.change_at, Entries.occurs-HasNode, Entries.entry-put, Paths.parent-path, OneMoreRoot.more-once, OneMoreRoot.more-there, OneMoreRoot.new-there, OneMoreRoot.entry-more, OneMoreRoot.parent-new, OneMoreRoot.root-kind, ForestsBeside.tree_at-younger}
use Rattle.dom_model.proofs.Worlds.{SameShape.IsAlike, SameShape.with_node-alike, SameShape.ancestors-alike, SameShape.parent-alike, SameShape.children-alike, SameShape.kind-alike, SameShape.index-alike, Measured.entry-with_node, Measured.unplaced, Measured.unplaced_entry, Measured.entry-unplaced, Measured.adopted-unplaced}
use Rattle.dom_model.proofs.Soundness.SoundSplitting.{insert-root}
use Rattle.dom_model.proofs.TokenText.Marked.MarkedSplice.{with_node-absent}
use Rattle.dom_data.specs.SplitInTurn.{put_behind, tail_moved, split_in_turn}
use Rattle.dom_model.proofs.MutationAlgorithms.Extending.{gap-forest}

-- A change of the nodes of one number, beside the steps on forests.
module _ (m : ℕ) (tail : List ℕ) where
  abbrev change : Forest Content → Forest Content
  change f = with_node m (with_data tail) f

  numbered : (x : Node Content) (v : Bool) → (if v then with_data tail x else x).number ≡ x.number
  numbered x true = refl
  numbered x false = refl

  change-beside : (f g : Forest Content) → change (beside f g) ≡ beside (change f) (change g)
  change-beside empty g = refl
  change-beside (node x kids rest) g = ap (node (if x.number == m then with_data tail x else x) (change kids)) (change-beside rest g)

  change-tree_at : (c : ℕ) (f : Forest Content) → tree_at c (change f) ≡ change (tree_at c f)
  change-tree_at c empty = refl
  change-tree_at c (node x kids rest) =
      let e = ap (λ k. k == c) (numbered x (x.number == m)) in
      elim (same_or x.number c) [
        | same _ u ↦ rw (e, u) (rw (change-tree_at c rest) refl)
        | apart _ u ↦ rw (e, u) (rw (change-tree_at c kids, change-tree_at c rest) (sym (change-beside (tree_at c kids) (tree_at c rest))))
      ]

  change-without : (c : ℕ) (f : Forest Content) → without c (change f) ≡ change (without c f)
  change-without c empty = refl
  change-without c (node x kids rest) =
      let e = ap (λ k. k == c) (numbered x (x.number == m)) in
      elim (same_or x.number c) [
        | same _ u ↦ rw (e, u) (change-without c rest)
        | apart _ u ↦ rw (e, u) (rw (change-without c kids, change-without c rest) refl)
      ]

  change-placed_before : (b : Option ℕ) (g f : Forest Content) → placed_before b (change g) (change f) ≡ change (placed_before b g f)
  change-placed_before b g empty = refl
  change-placed_before b g (node x kids rest) =
      ap (λ k. if is_number b k then beside (change g) (change (node x kids rest)) else node (if x.number == m then with_data tail x else x) (change kids) (placed_before b (change g) (change rest))) (numbered x (x.number == m))
      ∙ go (is_number b x.number) (change-placed_before b g rest)
    where
      go : (v : Bool) → placed_before b (change g) (change rest) ≡ change (placed_before b g rest)
          → (if v then beside (change g) (change (node x kids rest)) else node (if x.number == m then with_data tail x else x) (change kids) (placed_before b (change g) (change rest)))
          ≡ change (if v then beside g (node x kids rest) else node x kids (placed_before b g rest))
      go true i = sym (change-beside g (node x kids rest))
      go false i = ap (node (if x.number == m then with_data tail x else x) (change kids)) i

  change-placed_under : (p : ℕ) (b : Option ℕ) (g f : Forest Content) → placed_under p b (change g) (change f) ≡ change (placed_under p b g f)
  change-placed_under p b g empty = refl
  change-placed_under p b g (node x kids rest) =
      let e = ap (λ k. k == p) (numbered x (x.number == m)) in
      elim (same_or x.number p) [
        | same _ u ↦ rw (e, u) (rw (change-placed_under p b g kids, change-placed_under p b g rest, change-placed_before b g (placed_under p b g kids)) refl)
        | apart _ u ↦ rw (e, u) (rw (change-placed_under p b g kids, change-placed_under p b g rest) refl)
      ]

  change-put : (p c : ℕ) (b : Option ℕ) (f : Forest Content) → put p c b (change f) ≡ change (put p c b f)
  change-put p c b f = rw (change-tree_at c f, change-without c f) (change-placed_under p b (tree_at c f) (without c f))

  change-map : (d : ℕ) (f : Forest Content) → map_nodes (in_document d) (change f) ≡ change (map_nodes (in_document d) f)
  change-map d empty = refl
  change-map d (node x kids rest) = rw (change-map d kids, change-map d rest) (ap (λ y. node y (change (map_nodes (in_document d) kids)) (change (map_nodes (in_document d) rest))) (go (x.number == m)))
    where
      go : (v : Bool) → in_document d (if v then with_data tail x else x) ≡ (if v then with_data tail (in_document d x) else in_document d x)
      go true = refl
      go false = refl

  change-adopted : (c d : ℕ) (f : Forest Content) → adopted c d (change f) ≡ change (adopted c d f)
  change-adopted c d empty = refl
  change-adopted c d (node x kids rest) =
      let e = ap (λ k. k == c) (numbered x (x.number == m)) in
      elim (same_or x.number c) [
        | same _ u ↦ rw (e, u) (ap (λ g. beside g (adopted c d (change rest))) (change-map d (node x kids empty)) ∙ ap (beside (change (map_nodes (in_document d) (node x kids empty)))) (change-adopted c d rest) ∙ sym (change-beside (map_nodes (in_document d) (node x kids empty)) (adopted c d rest)))
        | apart _ u ↦ rw (e, u) (rw (change-adopted c d kids, change-adopted c d rest) refl)
      ]

  -- another change, of another node
  change-other : (n : ℕ) (units : List ℕ) → (n ≡ m → ⊥) → (f : Forest Content) → with_node n (with_data units) (change f) ≡ change (with_node n (with_data units) f)
  change-other n units ne empty = refl
  change-other n units ne (node x kids rest) =
      rw (change-other n units ne kids, change-other n units ne rest) (ap (λ y. node y (change (with_node n (with_data units) kids)) (change (with_node n (with_data units) rest))) (go (same_or x.number n) (same_or x.number m)))
    where
      go : Same x.number n → Same x.number m
          → (if (if x.number == m then with_data tail x else x).number == n then with_data units (if x.number == m then with_data tail x else x) else (if x.number == m then with_data tail x else x))
          ≡ (if (if x.number == n then with_data units x else x).number == m then with_data tail (if x.number == n then with_data units x else x) else (if x.number == n then with_data units x else x))
      go (same a u) (same b v) = absurd (ne (sym a ∙ b))
      go (same a u) (apart b v) = rw (u, v, u) refl
      go (apart a u) (same b v) = rw (u, v, u) refl
      go (apart a u) (apart b v) = rw (u, v, u) refl

  -- What is asked of nodes by their places is as it was.
  alike : (f : Forest Content) → IsAlike f (change f)
  alike f = with_node-alike (with_data tail) (λ x. refl) m f

  siblings-change : (f : Forest Content) (n : ℕ) → siblings_in (entry_in (change f)) n ≡ siblings_in (entry_in f) n
  siblings-change f n = ap (list_under (entry_in (change f))) (parent-alike (alike f) n) ∙ under (parent_of f n)
    where
      under : (p : Option ℕ) → list_under (entry_in (change f)) p ≡ list_under (entry_in f) p
      under None = refl
      under (Some p) = children-alike (alike f) p

  next-change : (f : Forest Content) (n : ℕ) → next_of (change f) n ≡ next_of f n
  next-change f n = ap (after n) (siblings-change f n)

  previous-change : (f : Forest Content) (p : ℕ) (b : Option ℕ) → previous_to (change f) p b ≡ previous_to f p b
  previous-change f p None = ap last_of (children-alike (alike f) p)
  previous-change f p (Some c) = ap (before c) (siblings-change f c)

  entry-change : (f : Forest Content) (n : ℕ) → entry_in (change f) n ≡ change_at (with_data tail) m n (entry_in f n)
  entry-change f n = entry-with_node (with_data tail) (λ x. refl) m n None f

  -- Worlds.
  abbrev changed : World → World
  changed w = record w { forest = change w.forest }

  document-changed : (w : World) (p : ℕ) → node_document (changed w) p ≡ node_document w p
  document-changed w p = ap document_in (entry-change w.forest p) ∙ go (entry_in w.forest p)
    where
      one : (v : Bool) (x : Node Content) → (if v then with_data tail x else x).document ≡ x.document
      one true x = refl
      one false x = refl

      go : (o : Option (Entry (Node Content))) → document_in (change_at (with_data tail) m p o) ≡ document_in o
      go None = refl
      go (Some e) = one (p == m) e.value

  data-changed : (w : World) (n : ℕ) → (n ≡ m → ⊥) → data_of (changed w) n ≡ data_of w n
  data-changed w n ne = ap (λ o. (content_in o).text) (entry-change w.forest n) ∙ go (entry_in w.forest n) (same_or n m)
    where
      go : (o : Option (Entry (Node Content))) → Same n m → (content_in (change_at (with_data tail) m n o)).text ≡ (content_in o).text
      go None s = refl
      go (Some e) (same d t) = absurd (ne d)
      go (Some e) (apart d t) = rw t refl

  queued-changed : (mu : Mutation) (w : World) → queued mu (changed w) ≡ changed (queued mu w)
  queued-changed mu w = ap (λ ns. record w { forest = change w.forest; observing = noted (record mu { standing = standing_on ns w.observing.registrations }) w.observing }) (ancestors-alike (alike w.forest) mu.target)

  gap-changed : (p : ℕ) (b : Option ℕ) (count : ℕ) (w : World) → gap_before p b count (changed w) ≡ changed (gap_before p b count w)
  gap-changed p None count w = refl
  gap-changed p (Some c) count w = ap (λ i. record w { forest = change w.forest; ranges = map_ranges (after_gap p i count) w.ranges }) (index-alike (alike w.forest) c)

  put-changed : (p : ℕ) (b : Option ℕ) (c : ℕ) (w : World) → put_in p b c (changed w) ≡ changed (put_in p b c w)
  put-changed p b c w =
      ap (λ (f : Forest Content). record w { forest = f })
      (ap (λ d. adopted c d (put p c b (change w.forest))) (document-changed w p)
      ∙ ap (adopted c (node_document w p)) (change-put p c b w.forest)
      ∙ change-adopted c (node_document w p) (put p c b w.forest))

  insert-changed : (p : ℕ) (b : Option ℕ) (v : World) → is_fragment v m ≡ false → parent_of v.forest m ≡ None → insert false m p b (changed v) ≡ changed (insert false m p b v)
  insert-changed p b v g r =
      let placed = put_in p b m (gap_before p b 1 v) in
      let told : Mutation = record { type = ChildList; target = p; name = None; old_value = None; added = m ∷ []; removed = []; previous = previous_to v.forest p b; next = b; standing = [] } in
      insert-root m p b (changed v) (kind-alike (alike v.forest) (is_kind DocumentFragment) m ∙ g) (parent-alike (alike v.forest) m ∙ r)
      ∙ ap (λ q. tree_record p (m ∷ []) [] q b (put_in p b m (gap_before p b 1 (changed v)))) (previous-change v.forest p b)
      ∙ ap (queued told) (ap (put_in p b m) (gap-changed p b 1 v) ∙ put-changed p b m (gap_before p b 1 v))
      ∙ queued-changed told placed
      ∙ ap changed (sym (insert-root m p b v g r))

  abbrev divided : ℕ → ℕ → ℕ → World → World
  divided n offset p u = record u { ranges = map_ranges (after_split n offset m p (index_of u.forest n)) u.ranges }

  split_off-changed : (n offset : ℕ) (parent : Option ℕ) (v : World) → is_fragment v m ≡ false → parent_of v.forest m ≡ None → split_off n offset m parent (changed v) ≡ changed (split_off n offset m parent v)
  split_off-changed n offset None v g r = refl
  split_off-changed n offset (Some p) v g r =
      let u = insert false m p (next_of v.forest n) v in
      ap (λ b. divided n offset p (insert false m p b (changed v))) (next-change v.forest n)
      ∙ ap (divided n offset p) (insert-changed p (next_of v.forest n) v g r)
      ∙ ap (λ i. record u { forest = change u.forest; ranges = map_ranges (after_split n offset m p i) u.ranges }) (index-alike (alike u.forest) n)

  abbrev told_of : ℕ → List ℕ → Mutation
  told_of n units = record { type = CharacterData; target = n; name = None; old_value = Some units; added = []; removed = []; previous = None; next = None; standing = [] }

  record-changed : (n : ℕ) (u : World) → (n ≡ m → ⊥) → data_record n (changed u) ≡ changed (data_record n u)
  record-changed n u ne = ap (λ (units : List ℕ). queued (told_of n units) (changed u)) (data-changed u n ne) ∙ queued-changed (told_of n (data_of u n)) u

  -- the data of the new Text and of the old one, and the ends, at last
  abbrev finished : ℕ → ℕ → World → World
  finished n offset u = record u {
    forest = change (with_node n (with_data (spliced offset (length tail) [] (data_of u n))) u.forest);
    ranges = map_ranges (after_splice n offset (length tail) 0) u.ranges;
  }

  replaced-changed : (n offset : ℕ) (u : World) → (n ≡ m → ⊥) → replace_units n offset (length tail) [] (changed u) ≡ finished n offset u
  replaced-changed n offset u ne =
      ap (λ (f : Forest Content). record u { forest = f; ranges = map_ranges (after_splice n offset (length tail) 0) u.ranges })
      (ap (λ (units : List ℕ). with_node n (with_data (spliced offset (length tail) [] units)) (change u.forest)) (data-changed u n ne)
      ∙ change-other n (spliced offset (length tail) [] (data_of u n)) ne u.forest)

  finished-moved : (n offset : ℕ) (parent : Option ℕ) (v : World) → finished n offset (data_record n (split_off n offset m parent v)) ≡ tail_moved n offset m parent tail (data_record n (put_behind n m parent v))
  finished-moved n offset None v = refl
  finished-moved n offset (Some p) v = refl

-- The data of a node, where another node comes in.
abbrev text_of : Option (Entry (Node Content)) → List ℕ
text_of o = (content_in o).text

text-adopted : (c d : ℕ) (f : Forest Content) (n : ℕ) → text_of (entry_in (adopted c d f) n) ≡ text_of (entry_in f n)
text-adopted c d f n = sym (plain (adopted c d f)) ∙ ap (λ g. text_of (entry_in g n)) (adopted-unplaced c d f) ∙ plain f
  where
    plain : (g : Forest Content) → text_of (entry_in (map_nodes unplaced g) n) ≡ text_of (entry_in g n)
    plain g = ap text_of (entry-unplaced None n g) ∙ go (entry_in g n)
      where
        go : (o : Option (Entry (Node Content))) → text_of (unplaced_entry o) ≡ text_of o
        go None = refl
        go (Some e) = refl

module _ (n offset : ℕ) (w : World) (s : IsForest (record { forest = w.forest; made = w.made })) (held : HasNode w.forest n) (within : offset ≤ length (data_of w n)) where
  hn : 0 < occurs n w.forest
  hn = occurs-HasNode w.forest n held

  absent : occurs w.made w.forest ≡ 0
  absent = s.small w.made (omega arith)

  other : (k : ℕ) → 0 < occurs k w.forest → k ≡ w.made → ⊥
  other k h e = let z : occurs k w.forest ≡ 0 = ap (λ i. occurs i w.forest) e ∙ absent in omega arith

  abbrev tail : List ℕ
  tail = tail_of w n offset

  abbrev text_node : Node Content
  text_node = record { number = w.made; document = node_document w n; label = named Text []; body = with_text [] }

  -- the world with an empty Text
  abbrev fresh : World
  fresh = made_node (node_document w n) (named Text []) (with_text []) w

  made-changed : made_node (node_document w n) (named Text []) (with_text tail) w ≡ changed w.made tail fresh
  made-changed =
      ap (λ (f : Forest Content). record w { forest = f; made = w.made + 1 })
      (sym (change-beside w.made tail w.forest (node text_node empty empty)
      ∙ ap (λ (f : Forest Content). beside f (with_node w.made (with_data tail) (node text_node empty empty))) (with_node-absent w.made (with_data tail) w.forest absent)
      ∙ ap (λ y. beside w.forest (node y empty empty)) here))
    where
      here : (if w.made == w.made then with_data tail text_node else text_node) ≡ with_data tail text_node
      here = elim (same_or w.made w.made) [ same e t ↦ rw t refl | apart ne t ↦ absurd (ne refl) ]

  no_fragment : is_fragment fresh w.made ≡ false
  no_fragment = root-kind w.forest s.once text_node absent (is_kind DocumentFragment)

  root : parent_of fresh.forest w.made ≡ None
  root = parent-new w.forest s.once text_node absent

  abbrev behind : World
  behind = split_off n offset w.made (parent_of w.forest n) fresh

  data-put : (parent : Option ℕ) → parent_of w.forest n ≡ parent → data_of (split_off n offset w.made parent fresh) n ≡ data_of w n
  data-put None e = ap text_of (entry-more w.forest s.once text_node absent n hn)
  data-put (Some p) e =
      let b = next_of fresh.forest n in
      let hp = (parent-path w.forest s.once n p hn e).0 in
      let gap = gap_before p b 1 fresh in
      ap (λ (v : World). data_of v n) (insert-root w.made p b fresh no_fragment root)
      ∙ text-adopted w.made (node_document gap p) (put p w.made b gap.forest) n
      ∙ ap (λ (f : Forest Content). text_of (entry_in (put p w.made b f) n)) (gap-forest p b 1 fresh)
      ∙ ap text_of (entry-put fresh.forest (more-once w.forest s.once text_node absent) p w.made b (more-there w.forest s.once text_node absent p hp) (new-there w.forest s.once text_node absent) root (apart_from p hp) n)
      ∙ go b p (entry_in fresh.forest n)
      ∙ ap text_of (entry-more w.forest s.once text_node absent n hn)
    where
      apart_from : (p : ℕ) → 0 < occurs p w.forest → occurs p (tree_at w.made fresh.forest) ≡ 0
      apart_from p h =
          ap (λ (g : Forest Content). occurs p g) (tree_at-younger w.made w.forest (node text_node empty empty) absent)
          ∙ elim (same_or w.made w.made) [ same _ v ↦ rw v (elim (same_or w.made p) [ same d u ↦ absurd (other p h (sym d)) | apart _ u ↦ rw u refl ]) | apart ne v ↦ absurd (ne refl) ]

      go : (b : Option ℕ) (p : ℕ) (o : Option (Entry (Node Content))) → text_of (link_at p b w.made n o) ≡ text_of o
      go b p None = refl
      go b p (Some e) = refl

  counted : cut_count (length (data_of (changed w.made tail behind) n)) offset (length tail) ≡ length tail
  counted =
      let l = length-drop offset (data_of w n) in
      let fits : offset + length tail ≤ length (data_of w n) = omega arith in
      ap (λ (units : List ℕ). cut_count (length units) offset (length tail)) (data-changed w.made tail behind n (other n hn) ∙ data-put (parent_of w.forest n) refl)
      ∙ rw (le-ltb (length (data_of w n)) (offset + length tail) fits) refl

  in_turn : split n offset w ≡ split_in_turn n offset w
  in_turn =
      ap (λ (v : World). replace_data n offset (length tail) [] (split_off n offset w.made (parent_of w.forest n) v)) made-changed
      ∙ ap (replace_data n offset (length tail) []) (split_off-changed w.made tail n offset (parent_of w.forest n) fresh no_fragment root)
      ∙ ap (λ k. replace_units n offset k [] (data_record n (changed w.made tail behind))) counted
      ∙ ap (replace_units n offset (length tail) []) (record-changed w.made tail n behind (other n hn))
      ∙ replaced-changed w.made tail n offset (data_record n behind) (other n hn)
      ∙ finished-moved w.made tail n offset (parent_of w.forest n) fresh

-- a split in turn comes to a split
pub split-in-turn : (n offset : ℕ) (w : World) → IsForest (record { forest = w.forest; made = w.made }) → HasNode w.forest n → offset ≤ length (data_of w n) → split_in_turn n offset w ≡ split n offset w
split-in-turn n offset w s held within = sym (in_turn n offset w s held within)
