-- A split leaves a sound world. DOM Standard, "Interface Text": split.
use Rattle.std.proofs.Common.{◌≡◌, ℕ, ◌+◌, ◌-◌, ◌<◌, ◌≤◌, ◌==◌, Bool, true, false, [], ◌∷◌, length, Option, Some, None, refl, ap, sym, ◌∙◌, subst, arith, length-drop}
use Rattle.std.proofs.lemmas.{Bool.false≢true, Bool.eq-eqb, Bool.ne_eqb, Bool.cond-false, Bool.Decides.nat_tests}
use Rattle.dom_model.specs.Definitions.{or_else, parent_in, children_in, is_kind, is_character_data, Node, Forest, empty, node, occurs, one_at, tree_at, put, entry_in, parent_of, children_of, next_of, index_of, Content, Point, Range, World, after_gap, after_split, moved_range, map_ranges, order_of, entry_has, kind_passes, is_of_kind, unit_count, length_in, node_length, made_node, named, with_text, tree_record, removed_from, remove, is_fragment, nodes_of, freed, node_document, put_in, gap_before, previous_to, insert_nodes, insert, content_in, data_of, replace_data, tail_of, split_off, split, IsBoundary, IsRange, IsSound, Lives, IsPlaceable, IsChildOf, hits}
use Rattle.dom_model.specs.declared.{Kind.Kind, Kind.TheVariants.Text, Kind.TheVariants.DocumentType, Kind.TheVariants.DocumentFragment}
use Rattle.dom_model.proofs.PlainLists.Places.{place_before}
use Rattle.dom_model.proofs.Forests.{Totals.total-beside, Climbing.hits-ancestors, Entries.occurs-HasNode, Entries.entry_under-absent, Paths.parent-path, Indices.child-listed, Siblings.place-next}
use Rattle.dom_model.proofs.BoundaryPoints.SplitOrder.{inside-childless, split_point, index-split, index-new, split-order_kept}
use Rattle.dom_model.proofs.Worlds.{SameShape.IsAlike, SameShape.index-alike, SameShape.order-alike, Measured.entry-joined, Measured.entry-beside, Measured.kind-beside, Measured.length-beside, Measured.parent-beside, Measured.length-put, Measured.length-adopted, Parts.range-from_part}
use Rattle.dom_model.proofs.Soundness.{SoundForests.IsWood, SoundForests.entry_there, SoundForests.data-childless, SoundForests.parent-passes, SoundWorlds.each-moved, SoundPlacing.gap_each, SoundPlacing.sound-put_one, SoundPlacing.after_put, SoundPlacing.after_adoption, SoundPlacing.renamed, SoundPlacing.range_placed, SoundPlacing.occurs_placed, SoundPlacing.parent_placed, SoundPlacing.kind_placed, SoundPlacing.placed-forest, SoundMaking.sound-made_node, SoundData.length-data, SoundData.sound-replace_data, SoundEditing.next_child, SoundForests.passes-also}
use Rattle.dom_model.proofs.RangesAndContents.RangesSplit.{IsWithin, boundary-split}

-- A root that is no fragment is inserted: it is put, with a gap and a record.

pub insert-root : (n parent : ℕ) (child : Option ℕ) (w : World) → is_fragment w n ≡ false → parent_of w.forest n ≡ None → insert false n parent child w ≡ tree_record parent (n ∷ []) [] (previous_to w.forest parent child) child (put_in parent child n (gap_before parent child 1 w))
insert-root n parent child w g r =
    let a : nodes_of w n ≡ n ∷ [] = cond-false (is_fragment w n) (children_of w.forest n) (n ∷ []) g in
    let b : freed n (n ∷ []) w ≡ remove false n w = cond-false (is_fragment w n) _ (remove false n w) g in
    let c : remove false n w ≡ w = ap (λ p. removed_from false n p w) r in
    ap (λ ns. insert_nodes false n parent child ns w) a
    ∙ ap (λ v. tree_record parent (n ∷ []) [] (previous_to v.forest parent child) child (put_in parent child n (gap_before parent child 1 v))) (b ∙ c)

text_data : (k : Kind) → is_kind Text k ≡ true → is_character_data k ≡ true
text_data Text h = refl
text_data k h = absurd (false≢true h)

-- a Text has data
pub text_has_data : (w : World) (n : ℕ) → is_of_kind Text w.forest n ≡ true → kind_passes is_character_data w.forest n ≡ true
text_has_data w n h = passes-also (is_kind Text) is_character_data true text_data w.forest n h

-- the Text that gets what is beyond the offset
abbrev pub new_text : ℕ → ℕ → World → Node Content
new_text n offset w = record { number = w.made; document = node_document w n; label = named Text []; body = with_text (tail_of w n offset) }

-- A Text with a parent is split.
module _ (n parent offset : ℕ) (w : World) (s : IsSound w) (hn : 0 < occurs n w.forest) (text : is_of_kind Text w.forest n ≡ true) (par : parent_of w.forest n ≡ Some parent) (within : offset ≤ length (data_of w n)) where
  abbrev pub new_node : Node Content
  new_node = new_text n offset w

  abbrev pub made : World
  made = made_node (node_document w n) (named Text []) (with_text (tail_of w n offset)) w

  pub sm : IsSound made
  sm = sound-made_node (node_document w n) (named Text []) (with_text (tail_of w n offset)) w s

  absent : occurs w.made w.forest ≡ 0
  absent = s.forest.small w.made (omega arith)

  pub entry-new : entry_in made.forest w.made ≡ Some (record { value = new_node; parent = None; children = [] })
  entry-new =
      entry-joined None w.made w.forest (node new_node empty empty)
      ∙ ap (λ o. or_else o (entry_in (node new_node empty empty) w.made)) (entry_under-absent None w.made w.forest absent)
      ∙ (rw (eq-eqb w.made w.made refl) refl)

  pub there-new : 0 < occurs w.made made.forest
  there-new = occurs-HasNode made.forest w.made (rw entry-new refl)

  apart-new : (m : ℕ) → 0 < occurs m w.forest → m ≡ w.made → ⊥
  apart-new m h e = let z : occurs m w.forest ≡ 0 = ap (λ k. occurs k w.forest) e ∙ absent in omega arith

  pub there-old : (m : ℕ) → 0 < occurs m w.forest → 0 < occurs m made.forest
  there-old m h = let t = total-beside (one_at m) w.forest (node new_node empty empty) in omega arith

  pub hp : 0 < occurs parent w.forest
  hp = (parent-path w.forest s.forest.once n parent hn par).0

  pub par-made : parent_of made.forest n ≡ Some parent
  par-made = parent-beside w.forest (node new_node empty empty) n hn ∙ par

  pub text-made : (test : Kind → Bool) → kind_passes test made.forest n ≡ kind_passes test w.forest n
  text-made test = kind-beside w.forest (node new_node empty empty) n hn test

  pub has_data : kind_passes is_character_data w.forest n ≡ true
  has_data = text_has_data w n text

  bare : children_of made.forest n ≡ []
  bare = data-childless sm.forest n (text-made is_character_data ∙ has_data)

  bare-new : children_of made.forest w.made ≡ []
  bare-new = ap children_in entry-new

  pub root-new : parent_of made.forest w.made ≡ None
  root-new = ap parent_in entry-new

  pub placeable : IsPlaceable made.forest parent w.made
  placeable =
      record {
        there = there-new;
        root = root-new;
        outside = (let i = hits-ancestors w.made parent made.forest sm.forest.once in let j = inside-childless made.forest sm.forest.once w.made parent bare-new (there-old parent hp) (apart-new parent hp) in omega arith);
        fits = (let p = parent-passes sm.forest n parent par-made (there-old n hn) in let e = entry_there made.forest parent (there-old parent hp) in let q = rw e.1 at p in rw (e.1, entry-new) q);
      }

  pub before_child : IsChildOf made.forest parent (next_of made.forest n)
  before_child = go (next_of made.forest n) refl
    where
      go : (b : Option ℕ) → next_of made.forest n ≡ b → IsChildOf made.forest parent b
      go None e = tt
      go (Some d) e = (next_child made.forest sm.forest.once parent n d par-made e).child

  abbrev pub placed : World
  placed = put_in parent (next_of made.forest n) w.made (gap_before parent (next_of made.forest n) 1 made)

  sp : IsSound placed
  sp = sound-put_one parent w.made (next_of made.forest n) made sm (there-old parent hp) placeable before_child

  abbrev pub parted : Forest Content
  parted = after_adoption parent w.made (next_of made.forest n) made sm (there-old parent hp) placeable

  pub forest_is : placed.forest ≡ parted
  forest_is = placed-forest parent w.made (next_of made.forest n) made sm (there-old parent hp) placeable

  pub there-parted : (m : ℕ) → 0 < occurs m made.forest → 0 < occurs m parted
  there-parted m h = subst (λ x. 0 < x) (sym (occurs_placed parent w.made (next_of made.forest n) made sm (there-old parent hp) placeable m)) h

  pub kind-parted : (test : Kind → Bool) (m : ℕ) → kind_passes test parted m ≡ kind_passes test made.forest m
  kind-parted = kind_placed parent w.made (next_of made.forest n) made sm (there-old parent hp) placeable

  pub par-parted : parent_of parted n ≡ Some parent
  par-parted =
      parent_placed parent w.made (next_of made.forest n) made sm (there-old parent hp) placeable n (there-old n hn)
      ∙ (rw (ne_eqb n w.made (apart-new n hn)) par-made)

  pub par-new : parent_of parted w.made ≡ Some parent
  par-new =
      parent_placed parent w.made (next_of made.forest n) made sm (there-old parent hp) placeable w.made there-new
      ∙ (rw (eq-eqb w.made w.made refl) refl)

  alike : IsAlike (after_put parent w.made (next_of made.forest n) made sm (there-old parent hp) placeable) parted
  alike = renamed parent w.made (next_of made.forest n) made sm (there-old parent hp) placeable

  pub index-kept : index_of parted n ≡ index_of made.forest n
  index-kept = index-alike alike n ∙ index-split made.forest sm.forest.once parent n w.made offset (there-old n hn) there-new par-made root-new bare bare-new

  pub index-after : index_of parted w.made ≡ index_of parted n + 1
  index-after =
      index-alike alike w.made
      ∙ index-new made.forest sm.forest.once parent n w.made offset (there-old n hn) there-new par-made root-new bare bare-new
      ∙ ap (λ i. i + 1) (sym (index-alike alike n))

  -- lengths: only the parent's is another
  apart-parent : (m : ℕ) → children_of made.forest m ≡ [] → (m == parent) ≡ false
  apart-parent m e =
      grind (arith, nat_tests, child-listed made.forest sm.forest.once n parent (there-old n hn) par-made, ap (hits n) e)

  apart_inside : occurs parent (tree_at w.made made.forest) ≡ 0
  apart_inside = inside-childless made.forest sm.forest.once w.made parent bare-new (there-old parent hp) (apart-new parent hp)

  length-parted : (m : ℕ) → children_of made.forest m ≡ [] → node_length unit_count parted m ≡ node_length unit_count made.forest m
  length-parted m e =
      length-adopted w.made (node_document made parent) (put parent w.made (next_of made.forest n) made.forest) m
      ∙ length-put made.forest sm.forest.once parent w.made (next_of made.forest n) (there-old parent hp) there-new root-new apart_inside m (apart-parent m e)

  pub length-text : node_length unit_count parted n ≡ length (data_of w n)
  length-text = length-parted n bare ∙ length-beside w.forest (node new_node empty empty) n hn ∙ length-data w.forest n has_data

  length-rest : node_length unit_count parted w.made ≡ length (data_of w n) - offset
  length-rest = length-parted w.made bare-new ∙ ap (length_in unit_count) entry-new ∙ length-drop offset (data_of w n)

  kind-new : is_of_kind DocumentType parted w.made ≡ false
  kind-new = kind-parted (is_kind DocumentType) w.made ∙ ap (entry_has (is_kind DocumentType)) entry-new

  pub wood : IsWood parted placed.made
  wood = subst (λ (g : Forest Content). IsWood g placed.made) forest_is sp.forest

  abbrev opened : Point → Point
  opened q = after_gap parent (place_before (next_of made.forest n) (children_of made.forest parent)) 1 q

  abbrev divided : Point → Point
  divided q = after_split n offset w.made parent (index_of parted n) q

  -- a boundary point of a live range goes to one
  point-divided : (q : Point) → IsBoundary parted q → IsWithin parted q.node (divided q)
  point-divided q b =
      boundary-split wood parent n w.made offset (there-parted n (there-old n hn)) (there-parted w.made there-new) par-parted par-new index-after kind-new
      (let a = length-text in let d = length-rest in omega arith) q b

  split_is : (q : Point) → divided (opened q) ≡ split_point n offset w.made parent (index_of made.forest n) q
  split_is q =
      ap (λ i. after_split n offset w.made parent i (opened q)) index-kept
      ∙ ap (λ i. after_split n offset w.made parent (index_of made.forest n) (after_gap parent i 1 q)) (place-next made.forest sm.forest.once n parent (there-old n hn) par-made)

  range_of_made : (r : Range) → IsRange w.forest r → IsRange made.forest r
  range_of_made r h = range-from_part w.forest made.forest s.forest.once sm.forest.once (λ m k. entry-beside w.forest (node new_node empty empty) m k) r h

  range-divided : (r : Range) → IsRange w.forest r → IsRange parted (moved_range divided (moved_range opened r))
  range-divided r h =
      let hs = occurs-HasNode w.forest r.start.node h.starts.there in
      let he = occurs-HasNode w.forest r.end.node h.ends.there in
      let rm = range_of_made r h in
      let k = range_placed parent w.made (next_of made.forest n) made sm (there-old parent hp) placeable r rm in
      let a = point-divided (opened r.start) k.starts in
      let b = point-divided (opened r.end) k.ends in
      record {
        starts = a.boundary;
        ends = b.boundary;
        one_root = a.one_root ∙ k.one_root ∙ sym b.one_root;
        in_order = λ g. rm.in_order (
            sym (split-order_kept made.forest sm.forest.once parent n w.made offset (there-old n hn) there-new par-made root-new bare bare-new r.start.node r.end.node r.start.offset r.end.offset (there-old r.start.node hs) (there-old r.end.node he) (apart-new r.start.node hs) (apart-new r.end.node he) rm.one_root)
            ∙ sym (order-alike alike (split_point n offset w.made parent (index_of made.forest n) r.start) (split_point n offset w.made parent (index_of made.forest n) r.end))
            ∙ ap (λ q. order_of parted q (split_point n offset w.made parent (index_of made.forest n) r.end)) (sym (split_is r.start))
            ∙ ap (order_of parted (divided (opened r.start))) (sym (split_is r.end))
            ∙ g);
      }

  ranges-divided : Lives (IsRange placed.forest) (map_ranges (after_split n offset w.made parent (index_of placed.forest n)) placed.ranges)
  ranges-divided =
      subst (λ (g : Forest Content). Lives (IsRange g) (map_ranges (after_split n offset w.made parent (index_of g n)) placed.ranges)) (sym forest_is)
      (each-moved (λ r. IsRange parted (moved_range divided r)) (IsRange parted) divided (λ r k. k) placed.ranges
      (gap_each (IsRange w.forest) (λ r. IsRange parted (moved_range divided r)) parent (next_of made.forest n) made before_child (parent-passes sm.forest n parent par-made (there-old n hn)) range_of_made range-divided s.ranges))

  abbrev pub after_parting : World
  after_parting =
      let told = tree_record parent (w.made ∷ []) [] (previous_to made.forest parent (next_of made.forest n)) (next_of made.forest n) placed in
      record told { ranges = map_ranges (after_split n offset w.made parent (index_of told.forest n)) told.ranges }

  pub sound-after_parting : IsSound after_parting
  sound-after_parting = record { forest = sp.forest; ranges = ranges-divided; iterators = sp.iterators; walkers = sp.walkers; registrations = sp.registrations; statics = sp.statics }

  pub split_off_is : split_off n offset w.made (Some parent) made ≡ after_parting
  split_off_is =
      ap (λ (v : World). record v { ranges = map_ranges (after_split n offset w.made parent (index_of v.forest n)) v.ranges })
      (insert-root w.made parent (next_of made.forest n) made (ap (entry_has (is_kind DocumentFragment)) entry-new) root-new)

  data_after : kind_passes is_character_data after_parting.forest n ≡ true
  data_after = ap (λ (g : Forest Content). kind_passes is_character_data g n) forest_is ∙ kind-parted is_character_data n ∙ text-made is_character_data ∙ has_data

  pub length_after : length (data_of after_parting n) ≡ length (data_of w n)
  length_after = sym (length-data after_parting.forest n data_after) ∙ ap (λ (g : Forest Content). node_length unit_count g n) forest_is ∙ length-text

  sound-parted : IsSound (replace_data n offset (length (tail_of w n offset)) [] (split_off n offset w.made (Some parent) made))
  sound-parted =
      subst (λ v. IsSound (replace_data n offset (length (tail_of w n offset)) [] v)) (sym split_off_is)
      (sound-replace_data n offset (length (tail_of w n offset)) [] after_parting sound-after_parting data_after (let e = length_after in omega arith))

pub sound-split : (n offset : ℕ) (w : World) → IsSound w → 0 < occurs n w.forest → is_of_kind Text w.forest n ≡ true → offset ≤ length (data_of w n) → IsSound (split n offset w)
sound-split n offset w s hn text within = go (parent_of w.forest n) refl
  where
    fresh : World
    fresh = made_node (node_document w n) (named Text []) (with_text (tail_of w n offset)) w

    alone : IsSound (replace_data n offset (length (tail_of w n offset)) [] fresh)
    alone =
        let g = node (new_text n offset w) empty empty in
        let e = entry-beside w.forest g n hn in
        let data_of_alone : data_of fresh n ≡ data_of w n = ap (λ o. (content_in o).text) e in
        let k : kind_passes is_character_data fresh.forest n ≡ true = kind-beside w.forest g n hn is_character_data ∙ text_has_data w n text in
        sound-replace_data n offset (length (tail_of w n offset)) [] fresh (sound-made_node (node_document w n) (named Text []) (with_text (tail_of w n offset)) w s) k (subst (λ xs. offset ≤ length xs) (sym data_of_alone) within)

    go : (p : Option ℕ) → parent_of w.forest n ≡ p → IsSound (replace_data n offset (length (tail_of w n offset)) [] (split_off n offset w.made p fresh))
    go None e = alone
    go (Some parent) e = sound-parted n parent offset w s hn text e within
