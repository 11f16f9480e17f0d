-- Inserting a node into a live range leaves a sound world. DOM Standard, "Interface Range": insert.
use Rattle.std.proofs.Common.{◌≡◌, ℕ, ◌<◌, ◌≤◌, ◌==◌, Bool, true, false, ◌&&◌, ◌||◌, List, [], ◌∷◌, length, Option, Some, None, is_none, unwrap_or, slice_get, option_map, Ok, refl, ap, sym, ◌∙◌, subst, arith}
use Rattle.std.proofs.lemmas.{Bool.false≢true, Bool.or_parts, Bool.Decides.nat_tests, Bool.cond-true, Bool.cond-false, Bool.ne_eqb}
use Rattle.dom_model.specs.Definitions.{hits, among, place_in, Entry, is_kind, is_character_data, Node, Forest, occurs, cut, entry_in, parent_of, children_of, ancestors, index_of, inclusive_descendants, Content, Point, Range, World, moved_range, check_insert, entry_has, kind_passes, is_of_kind, remove, reference_child, range_at, data_of, split, for_range, and_then, unless, is_text, reference_at, parent_by, parent_at, check_start, split_at, reference_after, placed_at, inserted_at, insert_node, IsBoundary, IsRange, IsSound}
use Rattle.dom_model.specs.declared.{Kind.Kind, Kind.TheVariants.Element, Kind.TheVariants.Text, Kind.TheVariants.ProcessingInstruction, Kind.TheVariants.Comment, DomError.TheVariants.HierarchyRequestError}
use Rattle.dom_model.proofs.PlainLists.Places.{place_before}
use Rattle.dom_model.proofs.Forests.{Changes.seen, Changes.nothing, Changes.just, Entries.occurs-HasNode, Paths.parent-path, Indices.child-listed, Indices.child-once, Indices.child-parent, Indices.index-child, Indices.index-cut, Chains.place-apart, Listed.hits-other}
use Rattle.dom_model.proofs.Worlds.Measured.{length-parent}
use Rattle.dom_model.proofs.Soundness.{SoundForests.data-childless, SoundWorlds.IsLive, SoundWorlds.child_there, SoundData.length-data, SoundSplitting.text_has_data, SoundSplitting.sound-split, SoundEditing.clear, SoundPaths.may_hold_other, SoundDrawing.new_apart, SoundRangeSteps.live_range, SoundPlacedNode.Gives, SoundPlacedNode.gives-unless, SoundPlacedNode.gives-after, SoundPlacedNode.StartsAhead, SoundPlacedNode.placed-next}
use Rattle.dom_model.proofs.MutationAlgorithms.Loosened.{forest-remove, parent-remove}
use Rattle.dom_model.proofs.BoundaryPoints.{SplitEnds.IsParted, SplitEnds.split_parts, SplitEnds.keeps_split, MovedPoints.KeepsPoint, MovedPoints.range_at-moved, MovedPoints.leaves_by, GapsKept.position, GapsKept.ahead}
use Rattle.dom_model.proofs.RangesAndContents.{EndsGrown.boundary_ahead, StartsAhead.from_child, StartsAhead.outside_before, StartsAhead.got_place, StartsAhead.start_left, StartsAhead.outside_removed, StartsAhead.starts_at_child}

-- The start stands in a Text, which is split: the node comes in before the new Text.
module _ (r n parent : ℕ) (w : World) (range : Range) (s : IsSound w) (hn : 0 < occurs n w.forest) (e : range_at w r ≡ Some range) (h : IsRange w.forest range) (text : is_of_kind Text w.forest range.start.node ≡ true) (par : parent_of w.forest range.start.node ≡ Some parent) (other : range.start.node ≡ n → ⊥) where
  abbrev p : Point
  p = range.start

  ht : 0 < occurs p.node w.forest
  ht = occurs-HasNode w.forest p.node h.starts.there

  within : p.offset ≤ length (data_of w p.node)
  within = let i = h.starts.within in let j = length-data w.forest p.node (text_has_data w p.node text) in omega arith

  abbrev apart_world : World
  apart_world = split p.node p.offset w

  pub sound_apart : IsSound apart_world
  sound_apart = sound-split p.node p.offset w s ht text within

  parts : IsParted w p.node parent apart_world.forest
  parts = split_parts p.node parent p.offset w s ht text par within

  pub there_apart : (m : ℕ) → 0 < occurs m w.forest → 0 < occurs m apart_world.forest
  there_apart m k = parts.there m k

  keeps : KeepsPoint (split p.node p.offset) w p
  keeps = keeps_split p.node parent p.offset w s ht text par within

  range_apart : range_at apart_world r ≡ Some (moved_range keeps.by.moves range)
  range_apart = range_at-moved (split p.node p.offset) w keeps.by r ∙ ap (option_map (moved_range keeps.by.moves)) e

  new_other : w.made ≡ n → ⊥
  new_other d = new_apart w s n w.made (omega arith) hn (sym d)

  abbrev ns : List ℕ
  ns = children_of apart_world.forest parent

  text_child : 0 < hits p.node ns
  text_child = child-listed apart_world.forest sound_apart.forest.once p.node parent (child_there apart_world.forest p.node parent parts.parent_text) parts.parent_text

  -- the node does not stand where the Text does
  elsewhere : place_in n ns ≡ place_in p.node ns → ⊥
  elsewhere d = other (place-apart p.node n ns text_child (sym d))

  index_less : index_of (cut n apart_world.forest) p.node < index_of (cut n apart_world.forest) w.made
  index_less =
      let far_text : (p.node == n) ≡ false = ne_eqb p.node n other in
      let far_new : (w.made == n) ≡ false = ne_eqb w.made n new_other in
      let a = index-cut apart_world.forest sound_apart.forest.once n p.node parent far_text parts.parent_text in
      let b = index-cut apart_world.forest sound_apart.forest.once n w.made parent far_new parts.parent_new in
      let c = index-child apart_world.forest p.node parent parts.parent_text in
      let d = parts.next in
      let ne : place_in n ns ≡ index_of apart_world.forest p.node → ⊥ = λ x. elsewhere (x ∙ c) in
      grind (arith, nat_tests)

  pub starts_at_text : StartsAhead r n parent (reference_child apart_world n (Some w.made)) (remove false n apart_world)
  starts_at_text so root k range_out d ho =
      let ha = there_apart n hn in
      let out = remove false n apart_world in
      let f = forest-remove false n apart_world sound_apart ha in
      let ht2 = child_there apart_world.forest p.node parent parts.parent_text in
      let hp2 = (parent-path apart_world.forest sound_apart.forest.once p.node parent ht2 parts.parent_text) in
      let above = outside_before apart_world.forest sound_apart.forest.once n parent hp2.0 (subst (λ (g : Forest Content). hits n (ancestors parent g) ≡ 0) f k.outside) in
      let outside : hits n (ancestors p.node apart_world.forest) ≡ 0 = ap (hits n) hp2.1 ∙ hits-other n p.node (ancestors parent apart_world.forest) other ∙ above in
      let q = start_left r n apart_world (moved_range keeps.by.moves range) range_out range_apart d ∙ ap (leaves_by (parent_of apart_world.forest n) apart_world n) keeps.kept ∙ stays (parent_of apart_world.forest n) refl (outside_removed apart_world sound_apart n p.node ht2 outside) in
      let par_out : parent_of out.forest p.node ≡ Some parent = parent-remove false n apart_world sound_apart ha p.node ∙ (rw (ne_eqb p.node n other) parts.parent_text) in
      let par_new : parent_of out.forest w.made ≡ Some parent = parent-remove false n apart_world sound_apart ha w.made ∙ (rw (ne_eqb w.made n new_other) parts.parent_new) in
      let ref_is : reference_child apart_world n (Some w.made) ≡ Some w.made = (rw (ne_eqb w.made n new_other) refl) in
      let place_is : position n parent (reference_child apart_world n (Some w.made)) out so root k ≡ index_of out.forest w.made = ap (λ b. place_before b (children_of out.forest parent)) ref_is ∙ sym (index-child out.forest w.made parent par_new) in
      let less : index_of out.forest p.node < index_of out.forest w.made = subst (λ (g : Forest Content). index_of g p.node < index_of g w.made) (sym f) index_less in
      subst (λ x. IsRange out.forest (record { start = x; end = ahead n parent (reference_child apart_world n (Some w.made)) out so root k })) (sym q)
      (from_child out.forest so.forest.once p.node parent p.offset (position n parent (reference_child apart_world n (Some w.made)) out so root k) par_out (omega arith) (subst (IsBoundary out.forest) q ho.starts) (boundary_ahead n parent (reference_child apart_world n (Some w.made)) out so root k))
    where
      bare : children_of apart_world.forest p.node ≡ []
      bare = data-childless sound_apart.forest p.node (text_has_data apart_world p.node parts.text)

      not_parent : (u : ℕ) → parent_of apart_world.forest n ≡ Some u → (p.node == u) ≡ false
      not_parent u i =
          grind (arith, nat_tests, child-listed apart_world.forest sound_apart.forest.once n u (child_there apart_world.forest n u i) i, ap (hits n) bare)

      stays : (o : Option ℕ) → parent_of apart_world.forest n ≡ o → among p.node (inclusive_descendants apart_world.forest n) ≡ false → leaves_by o apart_world n p ≡ p
      stays None i a = refl
      stays (Some u) i a = rw (a, not_parent u i) refl

no_data_kind : (k : Kind) → is_kind Text k ≡ false → is_kind ProcessingInstruction k ≡ false → is_kind Comment k ≡ false → is_character_data k ≡ false
no_data_kind Element t i c = refl
no_data_kind k t i c = cc

no_data : (f : Forest Content) (n : ℕ) → is_of_kind Text f n ≡ false → is_of_kind ProcessingInstruction f n ≡ false → is_of_kind Comment f n ≡ false → kind_passes is_character_data f n ≡ false
no_data f n t i c = go (entry_in f n) t i c
  where
    go : (o : Option (Entry (Node Content))) → entry_has (is_kind Text) o ≡ false → entry_has (is_kind ProcessingInstruction) o ≡ false → entry_has (is_kind Comment) o ≡ false → entry_has is_character_data o ≡ false
    go None t i c = refl
    go (Some e) t i c = no_data_kind e.value.label.kind t i c

inserted-next : (r n : ℕ) (w : World) (range : Range) → IsSound w → 0 < occurs n w.forest → range_at w r ≡ Some range → IsRange w.forest range → Gives w (inserted_at r n range.start w)
inserted-next r n w range s hn e h =
    gives-unless w (check_start w p n) (λ v. and_then (unless (check_insert v.forest (parent_at v p) n (reference_at v p)) v) (λ u. placed_at r n (parent_at u p) (reference_child (split_at p u) n (reference_after u p)) (split_at p u)))
    (λ c. gives-unless w (check_insert w.forest (parent_at w p) n (reference_at w p)) (λ u. placed_at r n (parent_at u p) (reference_child (split_at p u) n (reference_after u p)) (split_at p u))
    (λ _. go (is_text w p.node) refl
    (clear ((is_of_kind ProcessingInstruction w.forest p.node || is_of_kind Comment w.forest p.node, HierarchyRequestError)
    ∷ (is_text w p.node && is_none (parent_of w.forest p.node), HierarchyRequestError)
    ∷ (p.node == n, HierarchyRequestError)
    ∷ []) c)))
  where
    p : Point
    p = range.start

    other : (p.node == n) ≡ false → p.node ≡ n → ⊥
    other t d = grind (arith, nat_tests)

    in_text : is_text w p.node ≡ true → (parent : ℕ) → parent_of w.forest p.node ≡ Some parent → (p.node ≡ n → ⊥) → Gives w (placed_at r n (parent_at w p) (reference_child (split_at p w) n (reference_after w p)) (split_at p w))
    in_text t parent i ne =
        let a : split_at p w ≡ split p.node p.offset w = cond-true (is_text w p.node) (split p.node p.offset w) w t in
        let b : reference_after w p ≡ Some w.made = cond-true (is_text w p.node) (Some w.made) (reference_at w p) t in
        let c : reference_at w p ≡ Some p.node = cond-true (is_text w p.node) (Some p.node) (slice_get (children_of w.forest p.node) p.offset) t in
        let d : parent_at w p ≡ parent = ap (parent_by w p) c ∙ ap (λ o. unwrap_or o p.node) i in
        let v = split p.node p.offset w in
        let next = placed-next r n parent (reference_child v n (Some w.made)) v (sound_apart r n parent w range s hn e h t i ne) (there_apart r n parent w range s hn e h t i ne n hn) (starts_at_text r n parent w range s hn e h t i ne) in
        let whole = gives-after w v (placed_at r n parent (reference_child v n (Some w.made)) v) (record { sound = sound_apart r n parent w range s hn e h t i ne; there = there_apart r n parent w range s hn e h t i ne }) next in
        subst (λ x. Gives w (placed_at r n (parent_at w p) (reference_child x n (reference_after w p)) x)) (sym a)
        (subst (λ x. Gives w (placed_at r n (parent_at w p) (reference_child v n x) v)) (sym b)
        (subst (λ x. Gives w (placed_at r n x (reference_child v n (Some w.made)) v)) (sym d) whole))

    at_child : is_text w p.node ≡ false → (is_of_kind ProcessingInstruction w.forest p.node || is_of_kind Comment w.forest p.node) ≡ false → Gives w (placed_at r n (parent_at w p) (reference_child (split_at p w) n (reference_after w p)) (split_at p w))
    at_child t x =
        let got = slice_get (children_of w.forest p.node) p.offset in
        let a : split_at p w ≡ w = cond-false (is_text w p.node) (split p.node p.offset w) w t in
        let c : reference_at w p ≡ got = cond-false (is_text w p.node) (Some p.node) got t in
        let b : reference_after w p ≡ got = cond-false (is_text w p.node) (Some w.made) (reference_at w p) t ∙ c in
        let d : parent_at w p ≡ p.node = ap (parent_by w p) c ∙ parent_is got refl in
        let y = or_parts (is_of_kind ProcessingInstruction w.forest p.node) (is_of_kind Comment w.forest p.node) x in
        let hp = occurs-HasNode w.forest p.node h.starts.there in
        let may = may_hold_other w p.node hp (no_data w.forest p.node t y.0 y.1) h.starts.kind in
        let whole : p.offset ≤ length (children_of w.forest p.node) = (let i = h.starts.within in let j = length-parent w.forest p.node may in omega arith) in
        let next = placed-next r n p.node (reference_child w n got) w s hn (starts_at_child r n w range s hn e h whole) in
        subst (λ v. Gives w (placed_at r n (parent_at w p) (reference_child v n (reference_after w p)) v)) (sym a)
        (subst (λ v. Gives w (placed_at r n (parent_at w p) (reference_child w n v) w)) (sym b)
        (subst (λ v. Gives w (placed_at r n v (reference_child w n got) w)) (sym d) next))
      where
        parent_is : (o : Option ℕ) → slice_get (children_of w.forest p.node) p.offset ≡ o → parent_by w p o ≡ p.node
        parent_is None i = refl
        parent_is (Some c) i =
            let g = got_place (children_of w.forest p.node) p.offset c (λ m. child-once w.forest s.forest.once m p.node) i in
            ap (λ o. unwrap_or o p.node) (child-parent w.forest s.forest.once c p.node g.1)

    go : (v : Bool) → is_text w p.node ≡ v → (((is_of_kind ProcessingInstruction w.forest p.node || is_of_kind Comment w.forest p.node) ≡ false) × (((is_text w p.node && is_none (parent_of w.forest p.node)) ≡ false) × (((p.node == n) ≡ false) × Unit {0}))) → Gives w (placed_at r n (parent_at w p) (reference_child (split_at p w) n (reference_after w p)) (split_at p w))
    go false t c = at_child t c.0
    go true t c =
        elim (seen (parent_of w.forest p.node)) [
          | nothing i ↦ absurd (let k = rw (t, i) at c.1.0 in false≢true (sym k))
          | just parent i ↦ in_text t parent i (other c.1.1.0)
        ]

pub insert-next : (r n : ℕ) (w : World) → IsSound w → 0 < occurs n w.forest → Gives w (insert_node r n w)
insert-next r n w s hn = go (range_at w r) refl (live_range w s r)
  where
    go : (o : Option Range) → range_at w r ≡ o → IsLive w.forest o → Gives w (for_range o (Ok w) (λ range. inserted_at r n range.start w))
    go None e h = record { sound = s; there = λ m k. k }
    go (Some range) e h = inserted-next r n w range s hn e h
