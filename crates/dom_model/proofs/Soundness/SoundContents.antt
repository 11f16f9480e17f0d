-- The contents of a live range, as a new fragment: extract and clone contents leave a sound world. DOM Standard, "Interface Range".
use Rattle.std.proofs.Common.{◌≡◌, ℕ, ◌-◌, ◌<◌, Bool, true, false, ◌||◌, if◌then◌else◌, List, [], ◌∷◌, filter, Option, Some, None, unwrap_or, refl, ap, sym, ◌∙◌, subst, arith}
use Rattle.std.proofs.lemmas.{Bool.Decides.nat_tests, Bool.cases_Bool}
use Rattle.dom_model.specs.Definitions.{hits, among, head_of, is_kind, is_character_data, may_be_parent, Forest, empty, node, occurs, entry_in, parent_of, children_of, index_of, ancestors, Content, Point, Range, World, no_content, has_kind, kind_passes, is_of_kind, unit_count, node_length, named, node_document, is_less, is_before, is_collapsed, collapsed_at, range_at, with_range, for_range, is_in_one_data, contained_in, new_place, new_fragment, units_into, common_of, contained_children, parts_into, contents_drawn, check_draw, check_extract, extracted, extract, clone_contents, IsRange, IsSound}
use Rattle.dom_model.specs.declared.{Kind.TheVariants.DocumentType, Kind.TheVariants.DocumentFragment, DomError.DomError, DomError.TheVariants.HierarchyRequestError}
use Rattle.dom_model.proofs.Forests.{Entries.occurs-HasNode, Indices.child-there}
use Rattle.dom_model.proofs.Worlds.{Measured.entry-beside, Measured.parent-beside, Measured.children-beside, Parts.path-there, Parts.ancestors-part, Parts.root-part, Parts.order-part, Parts.length-part, Parts.range-from_part}
use Rattle.dom_model.proofs.Soundness.{SoundWorlds.IsLive, SoundWorlds.child_there, SoundEditing.clear, SoundEditing.holder_there, SoundNormalizing.filter-passed, SoundAppending.IsFragment, SoundAppending.fragment_made, SoundCopies.filled_units, SoundRangeSteps.live_range, SoundRangeSteps.sound-with_range, SoundDeleting.not_contained, SoundDeleting.in_data, SoundDeleting.offset_of_start, SoundExtracting.none_listed, SoundExtracting.common_above, SoundExtracting.sound-parts, SoundExtracting.parts_there, SoundExtracting.parts_kind, SoundExtracting.parts_parent, SoundDrawing.IsFilled}
use Rattle.dom_model.proofs.RangesAndContents.{RangesSet.range_at_point, PlacesLeft.IsNewPlace, PlacesLeft.place_is, PlacesLeft.place_stays}

filter-kept : (p : ℕ → Bool) (ns : List ℕ) (m : ℕ) → 0 < hits m ns → p m ≡ true → 0 < hits m (filter p ns)
filter-kept p [] m h e = absurd (omega arith)
filter-kept p (n ∷ ns) m h e = grind (arith, nat_tests, filter-kept p ns m, cases_Bool (p n))

module _ (moves : Bool) (r : Range) (w : World) (s : IsSound w) (h : IsRange w.forest r) (checked : check_draw w r ≡ None) where
  abbrev made : World
  made = new_fragment (node_document w r.start.node) w

  fragment : IsFragment w made
  fragment = fragment_made (node_document w r.start.node) w s

  abbrev new : Forest Content
  new = node (record { number = w.made; document = node_document w r.start.node; label = named DocumentFragment []; body = no_content }) empty empty

  entries : (m : ℕ) → 0 < occurs m w.forest → entry_in made.forest m ≡ entry_in w.forest m
  entries m k = entry-beside w.forest new m k

  hs : 0 < occurs r.start.node w.forest
  hs = occurs-HasNode w.forest r.start.node h.starts.there

  he : 0 < occurs r.end.node w.forest
  he = occurs-HasNode w.forest r.end.node h.ends.there

  range_made : IsRange made.forest r
  range_made = range-from_part w.forest made.forest s.forest.once fragment.drawn.sound.forest.once entries r h

  same_common : common_of made r ≡ common_of w r
  same_common =
      ap (λ ns. unwrap_or (head_of (filter (λ a. among a (ancestors r.end.node made.forest)) ns)) r.start.node) (ancestors-part w.forest made.forest s.forest.once fragment.drawn.sound.forest.once entries r.start.node hs)
      ∙ ap (λ ns. unwrap_or (head_of (filter (λ a. among a ns) (ancestors r.start.node w.forest))) r.start.node) (ancestors-part w.forest made.forest s.forest.once fragment.drawn.sound.forest.once entries r.end.node he)

  common_there : 0 < occurs (common_of w r) w.forest
  common_there = path-there w.forest s.forest.once r.start.node (common_of w r) (common_above w s r h).0

  same_before : (p q : Point) → 0 < occurs p.node w.forest → 0 < occurs q.node w.forest → is_before made.forest p q ≡ is_before w.forest p q
  same_before p q hp hq = ap is_less (order-part w.forest made.forest s.forest.once fragment.drawn.sound.forest.once entries p q hp hq)

  same_contained : (m : ℕ) → 0 < occurs m w.forest → contained_in made r m ≡ contained_in w r m
  same_contained m k =
      cc (
        root-part w.forest made.forest s.forest.once fragment.drawn.sound.forest.once entries m k,
        root-part w.forest made.forest s.forest.once fragment.drawn.sound.forest.once entries r.start.node hs,
        length-part w.forest made.forest s.forest.once fragment.drawn.sound.forest.once entries m k,
        same_before r.start (record { node = m; offset = 0 }) hs k,
        same_before (record { node = m; offset = node_length unit_count w.forest m }) r.end k he,
      )

  -- no doctype is among the contained children
  doctypes : (m : ℕ) → 0 < hits m (contained_children made r) → is_of_kind DocumentType made.forest m ≡ false
  doctypes m k =
      let i = filter-passed (contained_in made r) (children_of made.forest (common_of made r)) m k in
      let j : 0 < hits m (children_of w.forest (common_of w r)) = subst (λ ns. 0 < hits m ns) (ap (children_of made.forest) same_common ∙ children-beside w.forest new (common_of w r) common_there) i.1 in
      let hm = child-there w.forest s.forest.once m (common_of w r) j in
      let l = filter-kept (contained_in w r) (children_of w.forest (common_of w r)) m j (sym (same_contained m hm) ∙ i.0) in
      let c = clear ((has_kind DocumentType w.forest (contained_children w r), HierarchyRequestError) ∷ []) checked in
      fragment.drawn.extends.kinds (is_kind DocumentType) m hm ∙ none_listed (is_of_kind DocumentType w.forest) (contained_children w r) m c.0 l

  -- within one node with data
  one_data : is_in_one_data w r ≡ true → kind_passes is_character_data w.forest r.start.node ≡ true
  one_data = in_data r w

  units : is_in_one_data w r ≡ true → IsFilled made (units_into moves w.made r.start.node r.start.offset (r.end.offset - r.start.offset) made) []
  units e =
      let k : kind_passes is_character_data made.forest r.start.node ≡ true = fragment.drawn.extends.kinds is_character_data r.start.node hs ∙ one_data e in
      filled_units moves w.made r.start.node r.start.offset (r.end.offset - r.start.offset) made fragment.drawn.sound fragment.holder (fragment.drawn.extends.there r.start.node hs) k
      (offset_of_start made r range_made k)

  pub sound-drawn : IsSound (contents_drawn moves r w)
  sound-drawn = go (is_collapsed r) (is_in_one_data w r) refl
    where
      go : (c v : Bool) → is_in_one_data w r ≡ v → IsSound (if c then made else if v then units_into moves w.made r.start.node r.start.offset (r.end.offset - r.start.offset) made else parts_into moves w.made r made)
      go true v e = fragment.drawn.sound
      go false true e = (units e).sound
      go false false e = sound-parts moves w.made r made fragment.drawn.sound fragment.holder range_made doctypes

  -- the nodes that were there, and the fragment, are there
  there-made : (m : ℕ) → 0 < occurs m made.forest → 0 < occurs m (contents_drawn moves r w).forest
  there-made m k = go (is_collapsed r) (is_in_one_data w r) refl
    where
      go : (c v : Bool) → is_in_one_data w r ≡ v → 0 < occurs m (if c then made else if v then units_into moves w.made r.start.node r.start.offset (r.end.offset - r.start.offset) made else parts_into moves w.made r made).forest
      go true v e = k
      go false true e = (units e).there m k
      go false false e = parts_there moves w.made r made fragment.drawn.sound fragment.holder range_made doctypes m k

  pub there-drawn : (m : ℕ) → 0 < occurs m w.forest → 0 < occurs m (contents_drawn moves r w).forest
  there-drawn m k = there-made m (fragment.drawn.extends.there m k)

  pub fragment-drawn : 0 < occurs w.made (contents_drawn moves r w).forest
  fragment-drawn = there-made w.made fragment.holder.there

  -- The ends go to the new place.

  module _ (two : is_in_one_data w r ≡ false) where
    abbrev q : Point
    q = new_place w.forest r

    place : IsNewPlace w.forest r q
    place = place_is s.forest r h two

    abbrev after : World
    after = parts_into moves w.made r made

    node_there : 0 < occurs q.node w.forest
    node_there = holder_there w.forest q.node place.may_hold

    holds_after : kind_passes may_be_parent after.forest q.node ≡ true
    holds_after =
        parts_kind moves w.made r made fragment.drawn.sound fragment.holder range_made doctypes may_be_parent q.node (fragment.drawn.extends.there q.node node_there)
        ∙ fragment.drawn.extends.kinds may_be_parent q.node node_there
        ∙ place.may_hold

    child_after : (c : ℕ) → parent_of w.forest c ≡ Some q.node → index_of w.forest c < q.offset → parent_of after.forest c ≡ Some q.node
    child_after c e lt =
        let hc = child_there w.forest c q.node e in
        let same_node : q.node ≡ common_of made r = place.common ∙ sym same_common in
        let d : parent_of made.forest c ≡ Some (common_of made r) = parent-beside w.forest new c hc ∙ e ∙ ap (λ x. Some x) same_node in
        let out : contained_in made r c ≡ false = not_contained made r c (same_before r.start (record { node = c; offset = 0 }) hs hc ∙ place.ahead c e lt) in
        parts_parent moves w.made r made fragment.drawn.sound fragment.holder range_made doctypes c (fragment.drawn.extends.there c hc) d out ∙ ap (λ x. Some x) (sym same_node)

    pub place_after : IsRange after.forest (collapsed_at q)
    place_after =
        range_at_point after.forest q
        (place_stays w.forest after.forest w.made after.made s.forest (sound-parts moves w.made r made fragment.drawn.sound fragment.holder range_made doctypes).forest q holds_after place.within child_after)

-- Extract.

pub sound-extracted : (r : ℕ) (range : Range) (w : World) → IsSound w → IsRange w.forest range → check_draw w range ≡ None → IsSound (extracted r range w)
sound-extracted r range w s h c = go (is_collapsed range) (is_in_one_data w range) refl refl
  where
    drawn : IsSound (contents_drawn true range w)
    drawn = sound-drawn true range w s h c

    go : (x v : Bool) → is_collapsed range ≡ x → is_in_one_data w range ≡ v → IsSound (if x || v then contents_drawn true range w else with_range r (collapsed_at (new_place w.forest range)) (contents_drawn true range w))
    go true v d e = drawn
    go false true d e = drawn
    go false false d e = sound-with_range r (collapsed_at (new_place w.forest range)) (contents_drawn true range w) drawn (subst (λ (v : World). IsRange v.forest (collapsed_at (new_place w.forest range))) (sym drawn_is) (place_after true range w s h c e))
      where
        drawn_is : contents_drawn true range w ≡ parts_into true w.made range (new_fragment (node_document w range.start.node) w)
        drawn_is = rw (d, e) refl

none_of_range : (o : Option Range) (check : Range → Option DomError) (range : Range) → o ≡ Some range → for_range o None check ≡ None → check range ≡ None
none_of_range o check range e h = sym (ap (λ x. for_range x None check) e) ∙ h

-- what is done with a live range whose contents may be drawn
drawing : (r : ℕ) (w : World) → IsSound w → check_extract r w ≡ None → (act : Range → World) → ((range : Range) → IsRange w.forest range → check_draw w range ≡ None → IsSound (act range)) → IsSound (for_range (range_at w r) w act)
drawing r w s c act k = go (range_at w r) refl (live_range w s r)
  where
    go : (o : Option Range) → range_at w r ≡ o → IsLive w.forest o → IsSound (for_range o w act)
    go None e h = s
    go (Some range) e h = k range h (none_of_range (range_at w r) (λ x. check_draw w x) range e c)

pub sound-extract : (r : ℕ) (w : World) → IsSound w → check_extract r w ≡ None → IsSound (extract r w)
sound-extract r w s c = drawing r w s c (λ range. extracted r range w) (λ range h d. sound-extracted r range w s h d)

pub sound-clone_contents : (r : ℕ) (w : World) → IsSound w → check_extract r w ≡ None → IsSound (clone_contents r w)
sound-clone_contents r w s c = drawing r w s c (λ range. contents_drawn false range w) (λ range h d. sound-drawn false range w s h d)
