-- The refusal to surround is told by the world before the first step. DOM Standard, "Interface Range" (surroundContents).
use Rattle.std.proofs.Common.{◌≡◌, ℕ, ◌<◌, Bool, true, false, not, ◌&&◌, ◌||◌, if◌then◌else◌, List, [], ◌∷◌, take, drop, filter, Option, Some, None, unwrap_or, slice_get, Ok, Err, refl, ap, sym, ◌∙◌, subst, arith}
use Rattle.std.proofs.lemmas.Bool.{false≢true}
use Rattle.std.specs.List.{list_any}
use Rattle.dom_model.specs.declared.{Kind.Kind, Kind.TheVariants.Element, Kind.TheVariants.Text, Kind.TheVariants.Document, Kind.TheVariants.DocumentType, Kind.TheVariants.DocumentFragment, DomError.DomError, DomError.TheVariants.HierarchyRequestError}
use Rattle.dom_model.specs.Definitions.{hits, among, Entry, is_kind, may_be_parent, Node, occurs, entry_in, parent_of, children_of, index_of, ancestors, Content, Point, Range, World, IsRange, IsSound, has_kind, element_refused, entry_has, kind_passes, is_of_kind, replace_all, is_collapsed, range_at, for_range, is_in_one_data, contained_in, new_place, common_of, contained_children, check_draw, extracted, Outcome, and_then, try_pre_insert, is_text, reference_at, inserted_at, insert_node, try_select, refusal_in}
use Rattle.dom_model.proofs.PlainLists.Numbers.{same_or, same, apart}
use Rattle.dom_model.proofs.Forests.{Entries.occurs-HasNode, Climbing.among-hits, Climbing.hits-among, Climbing.hits-not_among, Climbing.hits-self, Indices.child-once, Indices.child-parent, Indices.child-there, Indices.index-child}
use Rattle.dom_model.proofs.Worlds.Parts.{path-there}
use Rattle.dom_model.proofs.MutationAlgorithms.ChecksKept.{or_second, any-same}
use Rattle.dom_model.proofs.Soundness.{SoundDeleting.not_contained, SoundContents.sound-extracted, SoundEditing.clear, SoundEditing.sound-replace_all, SoundNormalizing.filter-passed, SoundExtracting.none_listed, SoundExtracting.common_above, SoundRangeSteps.live_range, SoundWorlds.IsLive}
use Rattle.dom_model.proofs.RangesAndContents.{PlacesLeft.IsNewPlace, PlacesLeft.place_is, DrawnPaths.hits-drop, DrawnPaths.hits-take}
use Rattle.dom_wrap.specs.SurroundRefusal.{holder_of, is_refused_at, is_full, is_refused_between}
use Rattle.dom_wrap.proofs.{AllowAbove.none-or-some, AllowCleared.IsEmptied, AllowCleared.emptied, AllowPlaces.text-passes, AllowPlaces.start-passes, AllowPlaces.insert-passes, AllowPlaces.inserted-told, AllowShape.IsNear, AllowChildren.among-filter, AllowChildren.place-taken, AllowChildren.drop-filter, AllowChildren.any-filter, AllowChildren.any-kept, AllowDrawn.IsTaken, AllowDrawn.IsStill, AllowDrawn.IsLeft, AllowDrawn.extracted-still, AllowDrawn.extracted-left, AllowFollowed.followed, AllowAlike.element-told, AllowAlike.refused-above, AllowAlike.holder-outside, AllowAlike.holder-above, AllowAlike.refused-alike, AllowAlike.common-self}

-- the steps from the emptied parent on
abbrev pub steps_from : ℕ → ℕ → ℕ → World → Outcome
steps_from r n into u = and_then (insert_node r n u) (λ x. and_then (try_pre_insert into n None x) (λ y. try_select r n y))

abbrev pub told_by : Bool → Option DomError
told_by t = if t then Some HierarchyRequestError else None

pub refused-first : (o : Outcome) (step : World → Outcome) (d : DomError) → refusal_in o ≡ Some d → refusal_in (and_then o step) ≡ Some d
refused-first (Ok v) step d e = absurd (cc e)
refused-first (Err x) step d e = e

module _ (r : ℕ) (range : Range) (w : World) (s : IsSound w) (n : ℕ) (hn : 0 < occurs n w.forest) (e : range_at w r ≡ Some range) (h : IsRange w.forest range) (element : is_of_kind Element w.forest n ≡ true) where
  abbrev a : ℕ
  a = range.start.node

  abbrev b : ℕ
  b = range.end.node

  abbrev c : ℕ
  c = common_of w range

  ha : 0 < occurs a w.forest
  ha = occurs-HasNode w.forest a h.starts.there

  hc : 0 < occurs c w.forest
  hc = path-there w.forest s.forest.once a c (common_above w s range h).0

  fresh : occurs w.made w.forest ≡ 0
  fresh = s.forest.small w.made (omega arith)

  new_apart : hits w.made (ancestors c w.forest) ≡ 0
  new_apart = none-or-some w.made (ancestors c w.forest) (λ z. z) (λ lt. absurd (let i = path-there w.forest s.forest.once c w.made lt in let k = fresh in omega arith))

  -- From a world that an extraction left, with the start of the range in the common ancestor.
  module _ (v : World) (sv : IsSound v) (next : Range) (found : range_at v r ≡ Some next) (node_is : next.start.node ≡ c) (taken : IsTaken w v c) where
    hv : 0 < occurs next.start.node v.forest
    hv = subst (λ m. 0 < occurs m v.forest) (sym node_is) (taken.there c hc)

    abbrev u : World
    u = replace_all None n v

    em : IsEmptied n r next v u
    em = emptied n r v sv next found hv

    su : IsSound u
    su = sound-replace_all None n v sv tt

    there_u : (m : ℕ) → 0 < occurs m w.forest → 0 < occurs m u.forest
    there_u m k = subst (λ x. 0 < x) (sym (em.numbers m)) (taken.there m k)

    kinds_u : (test : Kind → Bool) (m : ℕ) → 0 < occurs m w.forest → kind_passes test u.forest m ≡ kind_passes test w.forest m
    kinds_u test m k = em.kinds test m ∙ taken.kinds test m k

    element_u : is_of_kind Element u.forest n ≡ true
    element_u = kinds_u (is_kind Element) n hn ∙ element

    last_range : IsRange u.forest em.range
    last_range = subst (IsLive u.forest) em.found (live_range u su r)

    start_there : 0 < occurs em.range.start.node u.forest
    start_there = occurs-HasNode u.forest em.range.start.node last_range.starts.there

    fragment_u : is_of_kind DocumentFragment u.forest w.made ≡ true
    fragment_u = em.kinds (is_kind DocumentFragment) w.made ∙ taken.fragment

    fragment_there : 0 < occurs w.made u.forest
    fragment_there = held (entry_in u.forest w.made) refl fragment_u
      where
        held : (o : Option (Entry (Node Content))) → entry_in u.forest w.made ≡ o → entry_has (is_kind DocumentFragment) o ≡ true → 0 < occurs w.made u.forest
        held None d k = absurd (false≢true k)
        held (Some x) d k = occurs-HasNode u.forest w.made (rw d refl)

    above_v : ancestors next.start.node v.forest ≡ ancestors c w.forest
    above_v = ap (λ m. ancestors m v.forest) node_is ∙ taken.above

    abbrev place_refused : Bool
    place_refused = is_refused_at u em.range.start n

    inserted-is : refusal_in (insert_node r n u) ≡ told_by place_refused
    inserted-is =
        ap (λ (o : Option Range). refusal_in (for_range o (Ok u) (λ (x : Range). inserted_at r n x.start u))) em.found
        ∙ inserted-told u su em.range.start n (there_u n hn) element_u r

    -- the node stands above the place
    refused-inside : 0 < hits n (ancestors c w.forest) → refusal_in (steps_from r n w.made u) ≡ told_by true
    refused-inside k =
        let i = em.inside (subst (λ ns. 0 < hits n ns) (sym above_v) k) in
        let t = refused-above u su n element_u em.range.start start_there i in
        refused-first (insert_node r n u) _ HierarchyRequestError (inserted-is ∙ ap told_by t)

    start_kept : hits n (ancestors c w.forest) ≡ 0 → em.range.start ≡ next.start
    start_kept z = (em.aside (ap (hits n) above_v ∙ z)).0

    above_u : hits n (ancestors c w.forest) ≡ 0 → ancestors c u.forest ≡ ancestors c w.forest
    above_u z = ap (λ m. ancestors m u.forest) (sym node_is) ∙ (em.aside (ap (hits n) above_v ∙ z)).1 ∙ above_v

    -- it does not
    told-aside : hits n (ancestors c w.forest) ≡ 0 → (t : Bool) → is_refused_at u next.start n ≡ t → refusal_in (steps_from r n w.made u) ≡ told_by t
    told-aside z true i = refused-first (insert_node r n u) _ HierarchyRequestError (inserted-is ∙ ap (λ p. told_by (is_refused_at u p n)) (start_kept z) ∙ ap told_by i)
    told-aside z false i =
        let t : place_refused ≡ false = ap (λ p. is_refused_at u p n) (start_kept z) ∙ i in
        let same_node : em.range.start.node ≡ c = ap (λ (p : Point). p.node) (start_kept z) ∙ node_is in
        let off : hits w.made (ancestors em.range.start.node u.forest) ≡ 0 = ap (λ m. hits w.made (ancestors m u.forest)) same_node ∙ ap (hits w.made) (above_u z) ∙ new_apart in
        followed u su n (there_u n hn) r em.range em.found last_range.starts
        (start-passes u su em.range.start n (there_u n hn) element_u t) (insert-passes u su em.range.start n (there_u n hn) element_u t)
        element_u t w.made fragment_there fragment_u (holder-outside u su w.made em.range.start.node start_there off)

    children_u : hits n (ancestors c w.forest) ≡ 0 → (m : ℕ) → 0 < hits m (ancestors c w.forest) → children_of u.forest m ≡ children_of v.forest m
    children_u z m k = em.children m (λ d. let i = ap (λ x. hits x (ancestors c w.forest)) d in omega arith)

  -- Nothing leaves.

  module _ (checked : check_draw w range ≡ None) (z : (is_collapsed range || is_in_one_data w range) ≡ true) where
    still : IsStill w (extracted r range w) r c range
    still = extracted-still r range w s e h checked z

    one_node : a ≡ b
    one_node = elim (same_or a b) [ same d t ↦ d | apart ne t ↦ absurd (false≢true (let k = rw t at z in k)) ]

    common_is : c ≡ a
    common_is = common-self w.forest a b ha one_node

    node_still : still.next.start.node ≡ c
    node_still = ap (λ (p : Point). p.node) still.start ∙ sym common_is

    abbrev v : World
    v = extracted r range w

    sv : IsSound (extracted r range w)
    sv = sound-extracted r range w s h checked

    still-alike : hits n (ancestors c w.forest) ≡ 0 → is_refused_at (replace_all None n v) still.next.start n ≡ is_refused_at w range.start n
    still-alike k =
        let above : ancestors a (replace_all None n v).forest ≡ ancestors a w.forest = ap (λ m. ancestors m (replace_all None n v).forest) (sym common_is) ∙ above_u v sv still.next still.found node_still still.taken k ∙ ap (λ m. ancestors m w.forest) common_is in
        let on_path : (m : ℕ) → 0 < hits m (ancestors a w.forest) → 0 < hits m (ancestors c w.forest) = λ m i. subst (λ x. 0 < hits m (ancestors x w.forest)) (sym common_is) i in
        let kids : (m : ℕ) → 0 < hits m (ancestors a w.forest) → children_of (replace_all None n v).forest m ≡ children_of w.forest m =
        λ m i. children_u v sv still.next still.found node_still still.taken k m (on_path m i) ∙ still.children m (path-there w.forest s.forest.once a m i) in
        ap (λ p. is_refused_at (replace_all None n v) p n) still.start
        ∙ refused-alike w (replace_all None n v) s (su v sv still.next still.found node_still still.taken) range.start ha (there_u v sv still.next still.found node_still still.taken a ha) (kinds_u v sv still.next still.found node_still still.taken) above n
        (ap (λ x. hits n (ancestors x w.forest)) (sym common_is) ∙ k)
        (kids (holder_of w a) (holder-above w s a ha)) (kids a (hits-self a a w.forest refl ha))

    pub told-still : refusal_in (steps_from r n w.made (replace_all None n (extracted r range w))) ≡ told_by (is_refused_at w range.start n)
    told-still =
        none-or-some n (ancestors c w.forest)
        (λ k. told-aside v sv still.next still.found node_still still.taken k (is_refused_at w range.start n) (still-alike k))
        (λ lt.
        refused-inside v sv still.next still.found node_still still.taken lt
        ∙ sym (ap told_by (refused-above w s n element range.start ha (subst (λ x. 0 < hits n (ancestors x w.forest)) common_is lt))))

  -- The contained children leave.

  module _ (checked : check_draw w range ≡ None) (z : (is_collapsed range || is_in_one_data w range) ≡ false) (first : IsNear w.forest c a) (last : IsNear w.forest c b) where
    left : IsLeft w (extracted r range w) r c range
    left = extracted-left r range w s e h checked first last z

    two : is_in_one_data w range ≡ false
    two = or_second (is_collapsed range) (is_in_one_data w range) z

    abbrev place : Point
    place = new_place w.forest range

    at_place : IsNewPlace w.forest range place
    at_place = place_is s.forest range h two

    node_left : left.next.start.node ≡ c
    node_left = ap (λ (p : Point). p.node) left.start ∙ at_place.common

    abbrev drawn : World
    drawn = extracted r range w

    sound_drawn : IsSound (extracted r range w)
    sound_drawn = sound-extracted r range w s h checked

    abbrev bare : World
    bare = replace_all None n drawn

    su_left : IsSound (replace_all None n (extracted r range w))
    su_left = su drawn sound_drawn left.next left.found node_left left.taken

    kinds_left : (test : Kind → Bool) (m : ℕ) → 0 < occurs m w.forest → kind_passes test bare.forest m ≡ kind_passes test w.forest m
    kinds_left = kinds_u drawn sound_drawn left.next left.found node_left left.taken

    abbrev kids : List ℕ
    kids = children_of w.forest c

    abbrev stays : ℕ → Bool
    stays m = not (contained_in w range m)

    kid_there : (m : ℕ) → 0 < hits m kids → 0 < occurs m w.forest
    kid_there m k = child-there w.forest s.forest.once m c k

    holds : kind_passes may_be_parent w.forest c ≡ true
    holds = ap (kind_passes may_be_parent w.forest) (sym at_place.common) ∙ at_place.may_hold

    no_text : is_text bare place.node ≡ false
    no_text =
        ap (is_text bare) at_place.common ∙ kinds_left (is_kind Text) c hc
        ∙ go (is_text w c) refl
      where
        go : (t : Bool) → is_text w c ≡ t → t ≡ false
        go false i = refl
        go true i = absurd (false≢true (sym (text-passes w.forest c may_be_parent i) ∙ holds))

    holder_left : holder_of bare place.node ≡ c
    holder_left = ap (λ t. if t then unwrap_or (parent_of bare.forest place.node) place.node else place.node) no_text ∙ at_place.common

    reference_left : reference_at bare place ≡ slice_get (children_of bare.forest c) place.offset
    reference_left =
        ap (λ t. if t then Some place.node else slice_get (children_of bare.forest place.node) place.offset) no_text
        ∙ ap (λ m. slice_get (children_of bare.forest m) place.offset) at_place.common

    -- what is ahead of the place stays
    ahead_stays : (m : ℕ) → 0 < hits m (take place.offset kids) → stays m ≡ true
    ahead_stays m k =
        let i : 0 < hits m kids = (let x = hits-take m place.offset kids in omega arith) in
        let par : parent_of w.forest m ≡ Some c = child-parent w.forest s.forest.once m c i in
        let lt : index_of w.forest m < place.offset = (let x = place-taken m place.offset kids k in let y = index-child w.forest m c par in omega arith) in
        ap not (not_contained w range m (at_place.ahead m (par ∙ ap (λ x. Some x) (sym at_place.common)) lt))

    doctype_stays : (m : ℕ) → 0 < hits m kids → is_of_kind DocumentType w.forest m ≡ true → stays m ≡ true
    doctype_stays m k t = go (contained_in w range m) refl
      where
        go : (x : Bool) → contained_in w range m ≡ x → not x ≡ true
        go false i = refl
        go true i =
            let listed = among-hits m (contained_children w range) (among-filter (contained_in w range) kids m k ∙ i) in
            let x = clear ((has_kind DocumentType w.forest (contained_children w range), HierarchyRequestError) ∷ []) checked in
            absurd (false≢true (sym (none_listed (is_of_kind DocumentType w.forest) (contained_children w range) m x.0 listed) ∙ t))

    module _ (k : hits n (ancestors c w.forest) ≡ 0) where
      kids_left : children_of bare.forest c ≡ filter (λ m. not (contained_in w range m)) kids
      kids_left = children_u drawn sound_drawn left.next left.found node_left left.taken k c (hits-self c c w.forest refl hc) ∙ left.children

      kept_there : (m : ℕ) → 0 < hits m (filter (λ m. not (contained_in w range m)) kids) → 0 < occurs m w.forest
      kept_there m i = kid_there m (filter-passed stays kids m i).1

      full_left : element_refused bare.forest c (slice_get (children_of bare.forest c) place.offset) ≡ is_full w range c
      full_left =
          element-told bare.forest c place.offset (λ m. child-once bare.forest su_left.forest.once m c)
          ∙ ap (λ ns. has_kind Element bare.forest ns || has_kind DocumentType bare.forest (drop place.offset ns)) kids_left
          ∙ ap (λ t. t || has_kind DocumentType bare.forest (drop place.offset (filter (λ m. not (contained_in w range m)) kids)))
          (any-same (is_of_kind Element bare.forest) (is_of_kind Element w.forest) (filter (λ m. not (contained_in w range m)) kids) (λ m i. kinds_left (is_kind Element) m (kept_there m i))
          ∙ any-filter (is_of_kind Element w.forest) stays kids)
          ∙ ap (λ t. list_any (λ m. is_of_kind Element w.forest m && not (contained_in w range m)) kids || t)
          (any-same (is_of_kind DocumentType bare.forest) (is_of_kind DocumentType w.forest) (drop place.offset (filter (λ m. not (contained_in w range m)) kids))
          (λ m i. kinds_left (is_kind DocumentType) m (kept_there m (let x = hits-drop m place.offset (filter (λ m. not (contained_in w range m)) kids) in omega arith)))
          ∙ ap (has_kind DocumentType w.forest) (drop-filter stays place.offset kids ahead_stays)
          ∙ any-kept (is_of_kind DocumentType w.forest) stays (drop place.offset kids) (λ m i t. doctype_stays m (let x = hits-drop m place.offset kids in omega arith) t))

      outside_left : among n (ancestors c bare.forest) ≡ false
      outside_left = hits-not_among n (ancestors c bare.forest) (ap (hits n) (above_u drawn sound_drawn left.next left.found node_left left.taken k) ∙ k)

      left-alike : is_refused_at bare left.next.start n ≡ is_refused_between w range n
      left-alike =
          ap (λ p. is_refused_at bare p n) left.start
          ∙ ap (λ x. not (kind_passes may_be_parent bare.forest x) || (among n (ancestors x bare.forest) || (is_of_kind Document bare.forest x && element_refused bare.forest x (reference_at bare place)))) holder_left
          ∙ ap (λ t. not t || (among n (ancestors c bare.forest) || (is_of_kind Document bare.forest c && element_refused bare.forest c (reference_at bare place)))) (kinds_left may_be_parent c hc ∙ holds)
          ∙ ap (λ t. t || (is_of_kind Document bare.forest c && element_refused bare.forest c (reference_at bare place))) (outside_left ∙ sym (hits-not_among n (ancestors c w.forest) k))
          ∙ ap (λ t. among n (ancestors c w.forest) || (t && element_refused bare.forest c (reference_at bare place))) (kinds_left (is_kind Document) c hc)
          ∙ ap (λ t. among n (ancestors c w.forest) || (is_of_kind Document w.forest c && t)) (ap (element_refused bare.forest c) reference_left ∙ full_left)

    between_above : 0 < hits n (ancestors c w.forest) → is_refused_between w range n ≡ true
    between_above k = rw (hits-among n (ancestors c w.forest) k) refl

    pub told-left : refusal_in (steps_from r n w.made (replace_all None n (extracted r range w))) ≡ told_by (is_refused_between w range n)
    told-left =
        none-or-some n (ancestors c w.forest)
        (λ k. told-aside drawn sound_drawn left.next left.found node_left left.taken k (is_refused_between w range n) (left-alike k))
        (λ lt. refused-inside drawn sound_drawn left.next left.found node_left left.taken lt ∙ sym (ap told_by (between_above lt)))
