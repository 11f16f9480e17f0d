-- Extracting the contents of a live range leaves of the text of its root what deleting them leaves, and the range where deleting leaves it.
-- DOM Standard, "Interface Range".
use Rattle.std.proofs.Common.{◌≡◌, ℕ, ◌-◌, ◌<◌, Bool, true, false, [], length, Option, Some, None, is_some, option_map, slice_index_or, refl, ap, sym, ◌∙◌, subst, arith, inl, inr}
use Rattle.std.proofs.lemmas.Bool.Decides.{nat_tests}
use Rattle.dom_model.specs.Definitions.{hits, is_kind, is_character_data, Forest, empty, node, occurs, tops, tree_at, map_nodes, parent_of, root_of, substring, Content, Point, Range, World, IsRange, IsSound, after_splice, moved_range, map_ranges, kind_passes, is_fragment, node_document, append, original, data_of, with_data, cut_count, replace_data, remove_each, is_collapsed, collapsed_at, range_at, with_range, for_range, is_in_one_data, cut_from, cut_up_to, contained_tops, new_place, deleted_between, deleted, delete_contents, new_fragment, clone_with, units_into, parts_into, contents_drawn, check_extract, extracted, extract, root_text}
use Rattle.dom_model.specs.declared.Kind.TheVariants.{DocumentFragment}
use Rattle.dom_model.proofs.PlainLists.Numbers.{same_or, same, apart}
use Rattle.dom_model.proofs.Forests.{Totals.IsOnce, Totals.tree_at-absent, Tops.hits-tops, Paths.root-path, WaysMeeting.above-root, Changes.seen, Changes.nothing, Changes.just}
use Rattle.dom_model.proofs.DataAndCopies.CopiesPlaced.{parent-copies, kind-copy}
use Rattle.dom_model.proofs.Soundness.{SoundContents.sound-extract, SoundDeleting.in_data, SoundDeleting.sound-delete_contents, SoundWorlds.child_there, SoundForests.passes-also}
use Rattle.dom_model.proofs.RangesAndContents.{LiveRangesKept.is_live, LiveRangesKept.live-there, PlacesLeft.place_is, TreesOfRoots.top-parent, OldTrees.cut_data, OldTrees.HasTree, OldTrees.inside-above, OldTrees.append-outside, OldTrees.copies-has, OldTrees.fragment-has, OldTrees.replace-has, OldTrees.IsOld, TreesDrawn.same-kind, TreesDrawn.same-data, TreesDrawn.units-has}
use Rattle.dom_model.proofs.TokenText.{EditsMade.EditsOfDrawnContents.sound-range, EditsMade.EditsOfDrawnContents.check-range, EditsMade.EditsOfDrawnContents.live-contents_drawn, EditsMade.EditsOfSteps.range-set, Contents.PartsByGaps.parts-by_gaps, Contents.DeletedInPlace.IsLeft, Contents.DeletedUnits.moved-at, Contents.NodesTaken.is-cut, Contents.TreesLeft.first-has, Contents.TreesLeft.first-old, Contents.TreesLeft.start_in, Contents.TreesLeft.left_tree, Contents.TreesLeft.extracted-has, Contents.TreesLeft.deleted-has, Contents.TreesLeft.common-left, Contents.DeletedLeft.range-left}

-- The text of a root is that of its tree.

text-of_tree : (root : ℕ) (f : Forest Content) → IsOnce f → 0 < hits root (tops f) → root_text f root ≡ root_text (tree_at root f) root
text-of_tree root empty o h = refl
text-of_tree root (node x kids rest) o h =
    let oc = o root in
    elim (same_or x.number root) [
      | same d t ↦ rw (t, t) refl
      | apart ne t ↦
          let g = rw t at h in
          let c = rw t at oc in
          let l = hits-tops root rest in
          let z : occurs root kids ≡ 0 = omega arith in
          rw (t, tree_at-absent root kids z) (text-of_tree root rest (λ m. let i = o m in omega arith) (omega arith))
    ]

module _ (root low : ℕ) (t : Forest Content) (v : World) (h : HasTree root low t v) where
  text-has : root_text v.forest root ≡ root_text t root
  text-has = text-of_tree root v.forest h.once h.top ∙ ap (λ (g : Forest Content). root_text g root) h.tree

  root-has : (n : ℕ) → 0 < occurs n t → root_of v.forest n ≡ Some root
  root-has n k =
      let i = inside-above root low t v h n k in
      let l = hits-tops root v.forest in
      let j = h.top in
      let there : 0 < occurs root v.forest = omega arith in
      let p = root-path v.forest h.once root there (top-parent root v.forest h.once h.top) in
      sym (above-root v.forest h.once root n i.0 there i.1) ∙ (rw p refl)

  has-ranges : (r : ℕ) (range : Range) → HasTree root low t (with_range r range v)
  has-ranges r range = record { once = h.once; small = h.small; top = h.top; tree = h.tree; begun = h.begun }

-- two worlds with one text of the root, and in it a live range at one place
pub record AreAlike (r root : ℕ) (u v : World) : Type 0 where
  pub place : Range
  pub first : range_at u r ≡ Some place
  pub second : range_at v r ≡ Some place
  pub text : root_text u.forest root ≡ root_text v.forest root
  pub first_root : root_of u.forest place.start.node ≡ Some root
  pub second_root : root_of v.forest place.start.node ≡ Some root

alike-by_tree : (r root low more : ℕ) (t : Forest Content) (u v : World) (place : Range) → HasTree root low t u → HasTree root more t v → range_at u r ≡ Some place → range_at v r ≡ Some place → 0 < occurs place.start.node t → AreAlike r root u v
alike-by_tree r root low more t u v place h k e d i =
    record {
      place = place;
      first = e;
      second = d;
      text = text-has root low t u h ∙ sym (text-has root more t v k);
      first_root = root-has root low t u h place.start.node i;
      second_root = root-has root more t v k place.start.node i;
    }

-- what is ahead of the markers and behind them is alike too
pub left-alike : (w u v : World) (r root : ℕ) → IsSound u → IsSound v → AreAlike r root u v → IsLeft r root w v → IsLeft r root w u
left-alike w u v r root su sv a left =
    let p = parts-by_gaps u r root a.place su a.first a.first_root in
    let q = parts-by_gaps v r root a.place sv a.second a.second_root in
    let text = a.text in
    let start : p.a ≡ q.a = cc in
    let end : p.b ≡ q.b = cc in
    record {
      before = p.before ∙ (rw (start, text) refl) ∙ sym q.before ∙ left.before;
      after = p.after ∙ (rw (end, text) refl) ∙ sym q.after ∙ left.after;
      gone = p.inside ∙ (rw (start, end, text) refl) ∙ sym q.inside ∙ left.gone;
      place = left.place;
      together = a.first ∙ sym a.second ∙ left.together;
    }

-- units that come and go leave an end in its node
pub splice-node : (at offset count added : ℕ) (p : Point) → (after_splice at offset count added p).node ≡ p.node
splice-node at offset count added p = grind (arith, nat_tests)

-- Appending a root that is no fragment moves no range.

append-ranges : (n p : ℕ) (v : World) → is_fragment v n ≡ false → parent_of v.forest n ≡ None → (append n p v).ranges ≡ v.ranges
append-ranges n p v e q = rw (e, e, q) refl

module _ (w : World) (r root : ℕ) (range : Range) (sound : IsSound w) (h : range_at w r ≡ Some range) (rooted : root_of w.forest range.start.node ≡ Some root) (check : check_extract r w ≡ None) where
  is : IsRange w.forest range
  is = sound-range w r range sound h

  abbrev made : World
  made = new_fragment (node_document w range.start.node) w

  made-has : HasTree root w.made (tree_at root w.forest) made
  made-has = fragment-has root w.made (node_document w range.start.node) (tree_at root w.forest) w (first-has w sound range is root rooted)

  start_there : 0 < occurs range.start.node (tree_at root w.forest)
  start_there = start_in w sound range is root rooted

  -- No contents.

  none-alike : AreAlike r root made w
  none-alike = alike-by_tree r root w.made w.made (tree_at root w.forest) made w range made-has (first-has w sound range is root rooted) h h start_there

  -- Within the data of one node.

  module _ (kind : kind_passes is_character_data w.forest range.start.node ≡ true) where
    abbrev count : ℕ
    count = range.end.offset - range.start.offset

    abbrev copied : World
    copied = clone_with (substring range.start.offset count (data_of made range.start.node)) range.start.node made

    abbrev placed : World
    placed = append made.made w.made copied

    old : IsOld root w.made (tree_at root w.forest)
    old = first-old w sound range is root rooted

    copied-has : HasTree root w.made (tree_at root w.forest) copied
    copied-has = copies-has root w.made (node_document made range.start.node) (map_nodes (with_data (substring range.start.offset count (data_of made range.start.node))) (original false range.start.node made.forest)) (tree_at root w.forest) made made-has

    placed-has : HasTree root w.made (tree_at root w.forest) placed
    placed-has = append-outside root w.made made.made w.made (tree_at root w.forest) copied (old.below made.made made-has.begun) (old.below w.made (omega arith)) copied-has

    copy_root : parent_of copied.forest made.made ≡ None
    copy_root =
        elim (seen (parent_of copied.forest made.made)) [
          | nothing e ↦ e
          | just q e ↦ elim (parent-copies (node_document made range.start.node) made.made made.forest (map_nodes (with_data (substring range.start.offset count (data_of made range.start.node))) (original false range.start.node made.forest)) made.made q e) [
            | inl d ↦ absurd (let i = child_there made.forest made.made q d in let z = made-has.small made.made (omega arith) in omega arith)
            | inr i ↦ absurd (omega arith)
          ]
        ]

    made_there : 0 < occurs range.start.node made.forest
    made_there = (inside-above root w.made (tree_at root w.forest) made made-has range.start.node start_there).0

    copy_data : is_fragment copied made.made ≡ false
    copy_data =
        kind-copy (is_kind DocumentFragment) (node_document made range.start.node) made.made false (with_data (substring range.start.offset count (data_of made range.start.node))) (λ x. refl) range.start.node made.forest made-has.once (made-has.small made.made (omega arith)) made_there
        ∙ passes-also is_character_data (is_kind DocumentFragment) false (λ k e. grind arith) made.forest range.start.node made_kind
      where
        made_kind : kind_passes is_character_data made.forest range.start.node ≡ true
        made_kind = same-kind root w.made range.start.node (tree_at root w.forest) made start_there made-has ∙ sym (same-kind root w.made range.start.node (tree_at root w.forest) w start_there (first-has w sound range is root rooted)) ∙ kind

    placed-ranges : placed.ranges ≡ w.ranges
    placed-ranges = append-ranges made.made w.made copied copy_data copy_root

    units-range : range_at (replace_data range.start.node range.start.offset count [] placed) r ≡ range_at (replace_data range.start.node range.start.offset count [] w) r
    units-range =
        let a = same-data root w.made range.start.node (tree_at root w.forest) placed start_there placed-has in
        let b = same-data root w.made range.start.node (tree_at root w.forest) w start_there (first-has w sound range is root rooted) in
        ap (λ us. slice_index_or (map_ranges (after_splice range.start.node range.start.offset (cut_count (length us) range.start.offset count) 0) placed.ranges) r None) (a ∙ sym b)
        ∙ ap (λ ranges. slice_index_or (map_ranges (after_splice range.start.node range.start.offset (cut_count (length (data_of w range.start.node)) range.start.offset count) 0) ranges) r None) placed-ranges

    within-alike : AreAlike r root (units_into true w.made range.start.node range.start.offset count made) (replace_data range.start.node range.start.offset count [] w)
    within-alike =
        let to : Range = moved_range (after_splice range.start.node range.start.offset (cut_count (length (data_of w range.start.node)) range.start.offset count) 0) range in
        let e : range_at (replace_data range.start.node range.start.offset count [] w) r ≡ Some to =
        moved-at (after_splice range.start.node range.start.offset (cut_count (length (data_of w range.start.node)) range.start.offset count) 0) w.ranges r
        ∙ ap (λ (x : Option Range). option_map (moved_range (after_splice range.start.node range.start.offset (cut_count (length (data_of w range.start.node)) range.start.offset count) 0)) x) h
        in
        let left = replace-has root w.made range.start.node range.start.offset count (tree_at root w.forest) w start_there (first-has w sound range is root rooted) in
        let same = is-cut range.start.node range.start.offset count (tree_at root w.forest) in
        alike-by_tree r root w.made w.made (cut_data range.start.node range.start.offset count (tree_at root w.forest)) (units_into true w.made range.start.node range.start.offset count made) (replace_data range.start.node range.start.offset count [] w) to
        (units-has root w.made range.start.node w.made range.start.offset count (tree_at root w.forest) made start_there (omega arith) old made-has)
        left (units-range ∙ e) e
        (let n = splice-node range.start.node range.start.offset (cut_count (length (data_of w range.start.node)) range.start.offset count) 0 range.start in
        subst (λ m. 0 < occurs m (cut_data range.start.node range.start.offset count (tree_at root w.forest))) (sym n) (let k = start_there in let l = same.numbers range.start.node in omega arith))

  -- From one node to another.

  module _ (two : is_in_one_data w range ≡ false) where
    parts-alike : is_collapsed range ≡ false → AreAlike r root (with_range r (collapsed_at (new_place w.forest range)) (parts_into true w.made range made)) (deleted_between r range w)
    parts-alike e =
        let drawn : contents_drawn true range w ≡ parts_into true w.made range made = rw (e, two) refl in
        let live_drawn : is_live r (parts_into true w.made range made) ≡ true = ap (is_live r) (sym drawn) ∙ live-contents_drawn w sound range is (check-range w r range h check) true r ∙ ap is_some h in
        let a = live-there r (parts_into true w.made range made) live_drawn in
        let at = place_is sound.forest range is two in
        alike-by_tree r root w.made w.made (left_tree w sound range is root rooted two)
        (with_range r (collapsed_at (new_place w.forest range)) (parts_into true w.made range made)) (deleted_between r range w) (collapsed_at (new_place w.forest range))
        (has-ranges root w.made (left_tree w sound range is root rooted two) (parts_into true w.made range made) (extracted-has w sound range is root rooted two) r (collapsed_at (new_place w.forest range)))
        (has-ranges root w.made (left_tree w sound range is root rooted two) (cut_up_to range.end.node range.end.offset (remove_each (contained_tops w range) (cut_from range.start.node range.start.offset w))) (deleted-has w sound range is root rooted two) r (collapsed_at (new_place w.forest range)))
        (range-set (parts_into true w.made range made) r a.0 (collapsed_at (new_place w.forest range)) a.1)
        (range-left w sound range is root rooted two r h)
        (subst (λ m. 0 < occurs m (left_tree w sound range is root rooted two)) (sym at.common) (common-left w sound range is root rooted two))

-- extract, and delete contents
pub extracted-alike : (w : World) (r root : ℕ) (range : Range) → IsSound w → range_at w r ≡ Some range → root_of w.forest range.start.node ≡ Some root → check_extract r w ≡ None → AreAlike r root (extract r w) (delete_contents r w)
extracted-alike w r root range sound h rooted check = go (is_collapsed range) (is_in_one_data w range) refl refl
  where
    both : (u v : World) → extracted r range w ≡ u → deleted r range w ≡ v → AreAlike r root u v → AreAlike r root (extract r w) (delete_contents r w)
    both u v a b k =
        let c : extract r w ≡ u = ap (λ (o : Option Range). for_range o w (λ x. extracted r x w)) h ∙ a in
        let d : delete_contents r w ≡ v = ap (λ (o : Option Range). for_range o w (λ x. deleted r x w)) h ∙ b in
        subst (λ (x : World). AreAlike r root x (delete_contents r w)) (sym c) (subst (λ (y : World). AreAlike r root u y) (sym d) k)

    go : (c v : Bool) → is_collapsed range ≡ c → is_in_one_data w range ≡ v → AreAlike r root (extract r w) (delete_contents r w)
    go true v e d = both (new_fragment (node_document w range.start.node) w) w (rw e refl) (rw e refl) (none-alike w r root range sound h rooted check)
    go false true e d =
        both (units_into true w.made range.start.node range.start.offset (range.end.offset - range.start.offset) (new_fragment (node_document w range.start.node) w)) (replace_data range.start.node range.start.offset (range.end.offset - range.start.offset) [] w)
        (rw (e, d) refl) (rw (e, d) refl) (within-alike w r root range sound h rooted check (in_data range w d))
    go false false e d =
        both (with_range r (collapsed_at (new_place w.forest range)) (parts_into true w.made range (new_fragment (node_document w range.start.node) w))) (deleted_between r range w)
        (rw (e, d) refl) (rw (e, d) refl) (parts-alike w r root range sound h rooted check d e)

-- the text of the root, and the range
pub extracted-as_deleted : (w : World) (r root : ℕ) (range : Range) → IsSound w → range_at w r ≡ Some range → root_of w.forest range.start.node ≡ Some root → check_extract r w ≡ None → (root_text (extract r w).forest root ≡ root_text (delete_contents r w).forest root) × (range_at (extract r w) r ≡ range_at (delete_contents r w) r)
extracted-as_deleted w r root range sound h rooted check =
    let a = extracted-alike w r root range sound h rooted check in
    (a.text, a.first ∙ sym a.second)

-- so extracting leaves what is to be left, if deleting does
pub extracted-left_as : (w : World) (r root : ℕ) (range : Range) → IsSound w → range_at w r ≡ Some range → root_of w.forest range.start.node ≡ Some root → check_extract r w ≡ None → IsLeft r root w (delete_contents r w) → IsLeft r root w (extract r w)
extracted-left_as w r root range sound h rooted check left =
    left-alike w (extract r w) (delete_contents r w) r root (sound-extract r w sound check) (sound-delete_contents r w sound) (extracted-alike w r root range sound h rooted check) left
