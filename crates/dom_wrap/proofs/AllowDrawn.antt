-- What an extraction leaves above the deepest common ancestor and among its children, where only Texts are partially contained.
-- DOM Standard, "Interface Range" (extract, surroundContents).
use Rattle.std.proofs.Common.{◌≡◌, ℕ, ◌-◌, ◌<◌, ◌≤◌, ◌==◌, Bool, true, false, not, ◌&&◌, ◌||◌, if◌then◌else◌, List, [], ◌∷◌, filter, reverse, length, Some, None, is_some, unwrap_or, refl, ap, sym, ◌∙◌, subst, arith}
use Rattle.std.proofs.lemmas.Bool.{false≢true}
use Rattle.dom_model.specs.declared.{Kind.Kind, Kind.TheVariants.Text, Kind.TheVariants.DocumentType, Kind.TheVariants.DocumentFragment, DomError.TheVariants.HierarchyRequestError}
use Rattle.dom_model.specs.Definitions.{hits, among, head_of, up_to, is_same, is_kind, is_character_data, Forest, empty, node, occurs, entry_in, parent_of, children_of, ancestors, root_of, Content, Point, Range, World, no_content, IsRange, IsSound, unit_count, node_length, named, has_kind, kind_passes, is_of_kind, same_root, node_document, data_of, is_less, is_before, is_collapsed, collapsed_at, range_at, with_range, is_in_one_data, contained_in, new_place, new_fragment, units_into, children_into, tail_into, head_into, path_below, common_of, contained_children, parts_into, contents_drawn, check_draw, extracted}
use Rattle.dom_model.proofs.Forests.{Entries.occurs-HasNode, Indices.child-parent, Indices.child-there}
use Rattle.dom_model.proofs.Worlds.{Measured.entry-beside, Measured.children-beside, Parts.path-there, Parts.ancestors-part, Parts.root-part, Parts.order-part, Parts.length-part, Parts.range-from_part}
use Rattle.dom_model.proofs.Soundness.{SoundEditing.clear, SoundNormalizing.filter-passed, SoundAppending.IsHolder, SoundAppending.IsPlain, SoundAppending.IsDrawn, SoundAppending.holder_stays, SoundAppending.IsFragment, SoundAppending.fragment_made, SoundCopies.filled_units, SoundDeleting.offset_of_start, SoundDrawing.drawn_children, SoundDrawing.new_apart, SoundDrawing.IsFilled, SoundDrawing.holder_filled, SoundDrawing.plain_filled, SoundExtracting.none_listed, SoundExtracting.common_above}
use Rattle.dom_model.proofs.RangesAndContents.{PathsToEnds.plain_below, ContainedAside.start-not_contained, LiveRangesKept.live-there}
use Rattle.dom_model.proofs.TokenText.{EditsMade.EditsOfSteps.range-set, EditsMade.EditsOfDrawnContents.live-contents_drawn}
use Rattle.dom_wrap.proofs.{AllowAbove.none-or-some, AllowAbove.ancestors-kept, AllowAbove.above-within, AllowPlaces.text-passes, AllowShape.IsNear, AllowShape.at_it, AllowShape.in_text, AllowChildren.without_each, AllowChildren.each-passed, AllowChildren.children-drawn, AllowChildren.children-units, AllowChildren.range-units}
use Rattle.dom_model.proofs.MutationAlgorithms.ChecksKept.{filter-same}

-- what was there stays, and what stands above a node
pub record IsTaken (w v : World) (c : ℕ) : Type 0 where
  pub there : (m : ℕ) → 0 < occurs m w.forest → 0 < occurs m v.forest
  pub kinds : (test : Kind → Bool) (m : ℕ) → 0 < occurs m w.forest → kind_passes test v.forest m ≡ kind_passes test w.forest m
  pub above : ancestors c v.forest ≡ ancestors c w.forest
  pub fragment : is_of_kind DocumentFragment v.forest w.made ≡ true

-- nothing leaves, and the range starts where it did
pub record IsStill (w v : World) (r c : ℕ) (range : Range) : Type 0 where
  pub taken : IsTaken w v c
  pub children : (m : ℕ) → 0 < occurs m w.forest → children_of v.forest m ≡ children_of w.forest m
  pub next : Range
  pub found : range_at v r ≡ Some next
  pub start : next.start ≡ range.start

-- the contained children leave, and the range starts at the new place
pub record IsLeft (w v : World) (r c : ℕ) (range : Range) : Type 0 where
  pub taken : IsTaken w v c
  pub children : children_of v.forest c ≡ filter (λ m. not (contained_in w range m)) (children_of w.forest c)
  pub next : Range
  pub found : range_at v r ≡ Some next
  pub start : next.start ≡ new_place w.forest range

-- One end of a range: a Text is cut, or nothing is.

record IsCut (u v : World) (into : ℕ) : Type 0 where
  filled : IsFilled u v []
  children : (m : ℕ) → 0 < occurs m u.forest → (m ≡ into → ⊥) → children_of v.forest m ≡ children_of u.forest m

uncut : (u : World) (into : ℕ) → IsSound u → IsCut u u into
uncut u into s = record {
  filled = record { sound = s; there = λ m k. k; kinds = λ test m k. refl; parents = λ m k far. refl; made = omega arith };
  children = λ m k ne. refl;
}

module _ (f : Forest Content) (c into n : ℕ) (u : World) (s : IsSound u) (h : IsHolder u into) (hn : 0 < occurs n u.forest) (kind : is_of_kind Text u.forest n ≡ is_of_kind Text f n) (near : IsNear f c n) where
  cut-units : (offset count : ℕ) → is_of_kind Text f n ≡ true → offset ≤ length (data_of u n) → IsCut u (units_into true into n offset count u) into
  cut-units offset count t within =
      let k : kind_passes is_character_data u.forest n ≡ true = text-passes u.forest n is_character_data (kind ∙ t) in
      record { filled = filled_units true into n offset count u s h hn k within; children = children-units into n offset count u s h hn k }

  tail-cut : (offset : ℕ) → (kind_passes is_character_data u.forest n ≡ true → offset ≤ length (data_of u n)) → (path : List ℕ) → path ≡ path_below f c n → IsCut u (tail_into true into offset path u) into
  tail-cut offset within path e = go near
    where
      go : IsNear f c n → IsCut u (tail_into true into offset path u) into
      go (at_it d p) = subst (λ ns. IsCut u (tail_into true into offset ns u) into) (sym (e ∙ p)) (uncut u into s)
      go (in_text t d p) =
          let k : kind_passes is_character_data u.forest n ≡ true = text-passes u.forest n is_character_data (kind ∙ t) in
          let one : tail_into true into offset (n ∷ []) u ≡ units_into true into n offset (length (data_of u n) - offset) u = rw k refl in
          subst (λ ns. IsCut u (tail_into true into offset ns u) into) (sym (e ∙ p))
          (subst (λ v. IsCut u v into) (sym one) (cut-units offset (length (data_of u n) - offset) t (within k)))

  head-cut : (offset : ℕ) → (path : List ℕ) → path ≡ path_below f c n → IsCut u (head_into true into offset path u) into
  head-cut offset path e = go near
    where
      go : IsNear f c n → IsCut u (head_into true into offset path u) into
      go (at_it d p) = subst (λ ns. IsCut u (head_into true into offset ns u) into) (sym (e ∙ p)) (uncut u into s)
      go (in_text t d p) =
          let k : kind_passes is_character_data u.forest n ≡ true = text-passes u.forest n is_character_data (kind ∙ t) in
          let one : head_into true into offset (n ∷ []) u ≡ units_into true into n 0 offset u = rw k refl in
          subst (λ ns. IsCut u (head_into true into offset ns u) into) (sym (e ∙ p))
          (subst (λ v. IsCut u v into) (sym one) (cut-units 0 offset t (omega arith)))

module _ (r : ℕ) (range : Range) (w : World) (s : IsSound w) (e : range_at w r ≡ Some range) (h : IsRange w.forest range) (checked : check_draw w range ≡ None) where
  abbrev a : ℕ
  a = range.start.node

  abbrev b : ℕ
  b = range.end.node

  abbrev c : ℕ
  c = common_of w range

  abbrev into : ℕ
  into = w.made

  abbrev made : World
  made = new_fragment (node_document w range.start.node) w

  fragment : IsFragment w made
  fragment = fragment_made (node_document w range.start.node) w s

  abbrev new : Forest Content
  new = node (record { number = w.made; document = node_document w range.start.node; label = named DocumentFragment []; body = no_content }) empty empty

  sm : IsSound made
  sm = fragment.drawn.sound

  entries : (m : ℕ) → 0 < occurs m w.forest → entry_in made.forest m ≡ entry_in w.forest m
  entries m k = entry-beside w.forest new m k

  hs : 0 < occurs a w.forest
  hs = occurs-HasNode w.forest a h.starts.there

  he : 0 < occurs b w.forest
  he = occurs-HasNode w.forest b h.ends.there

  hc : 0 < occurs c w.forest
  hc = path-there w.forest s.forest.once a c (common_above w s range h).0

  above_made : (m : ℕ) → 0 < occurs m w.forest → ancestors m made.forest ≡ ancestors m w.forest
  above_made m k = ancestors-part w.forest made.forest s.forest.once sm.forest.once entries m k

  there_made : (m : ℕ) → 0 < occurs m w.forest → 0 < occurs m made.forest
  there_made m k = fragment.drawn.extends.there m k

  range_made : IsRange made.forest range
  range_made = range-from_part w.forest made.forest s.forest.once sm.forest.once entries range h

  not_new : (m : ℕ) → 0 < occurs m w.forest → m ≡ into → ⊥
  not_new m k = new_apart w s m w.made (omega arith) k

  same_common : common_of made range ≡ common_of w range
  same_common =
      ap (λ ns. unwrap_or (head_of (filter (λ x. among x (ancestors b made.forest)) ns)) a) (above_made a hs)
      ∙ ap (λ ns. unwrap_or (head_of (filter (λ x. among x ns) (ancestors a w.forest))) a) (above_made b he)

  same_before : (p q : Point) → 0 < occurs p.node w.forest → 0 < occurs q.node w.forest → is_before made.forest p q ≡ is_before w.forest p q
  same_before p q hp hq = ap is_less (order-part w.forest made.forest s.forest.once sm.forest.once entries p q hp hq)

  same_contained : (m : ℕ) → 0 < occurs m w.forest → contained_in made range m ≡ contained_in w range m
  same_contained m k =
      let x : same_root made.forest m a ≡ same_root w.forest m a =
      ap (λ o. is_same o (root_of made.forest a)) (root-part w.forest made.forest s.forest.once sm.forest.once entries m k)
      ∙ ap (is_same (root_of w.forest m)) (root-part w.forest made.forest s.forest.once sm.forest.once entries a hs) in
      let y = same_before range.start (record { node = m; offset = 0 }) hs k in
      let z : is_before made.forest (record { node = m; offset = node_length unit_count made.forest m }) range.end ≡ is_before w.forest (record { node = m; offset = node_length unit_count w.forest m }) range.end =
      ap (λ l. is_before made.forest (record { node = m; offset = l }) range.end) (length-part w.forest made.forest s.forest.once sm.forest.once entries m k)
      ∙ same_before (record { node = m; offset = node_length unit_count w.forest m }) range.end k he in
      ap (λ v. v && (is_before made.forest range.start (record { node = m; offset = 0 }) && is_before made.forest (record { node = m; offset = node_length unit_count made.forest m }) range.end)) x
      ∙ ap (λ v. same_root w.forest m a && (v && is_before made.forest (record { node = m; offset = node_length unit_count made.forest m }) range.end)) y
      ∙ ap (λ v. same_root w.forest m a && (is_before w.forest range.start (record { node = m; offset = 0 }) && v)) z

  kids_made : children_of made.forest (common_of made range) ≡ children_of w.forest c
  kids_made = ap (children_of made.forest) same_common ∙ children-beside w.forest new c hc

  contained_same : contained_children made range ≡ contained_children w range
  contained_same =
      ap (filter (contained_in made range)) kids_made
      ∙ filter-same (contained_in made range) (contained_in w range) (children_of w.forest c) (λ m k. same_contained m (child-there w.forest s.forest.once m c k))

  abbrev ns : List ℕ
  ns = contained_children made range

  listed : (m : ℕ) → 0 < hits m ns → (parent_of w.forest m ≡ Some c) × (0 < occurs m w.forest) × (contained_in w range m ≡ true)
  listed m k =
      let l = filter-passed (contained_in w range) (children_of w.forest c) m (subst (λ xs. 0 < hits m xs) contained_same k) in
      (child-parent w.forest s.forest.once m c l.1, child-there w.forest s.forest.once m c l.1, l.0)

  doctypes : (m : ℕ) → 0 < hits m ns → is_of_kind DocumentType made.forest m ≡ false
  doctypes m k =
      let x = clear ((has_kind DocumentType w.forest (contained_children w range), HierarchyRequestError) ∷ []) checked in
      fragment.drawn.extends.kinds (is_kind DocumentType) m (listed m k).1 ∙ none_listed (is_of_kind DocumentType w.forest) (contained_children w range) m x.0 (subst (λ xs. 0 < hits m xs) contained_same k)

  -- Nothing leaves.

  still_made : IsStill w made r c range
  still_made = record {
    taken = record { there = there_made; kinds = fragment.drawn.extends.kinds; above = above_made c hc; fragment = fragment.is_fragment };
    children = λ m k. children-beside w.forest new m k;
    next = range;
    found = e;
    start = refl;
  }

  still_units : kind_passes is_character_data w.forest a ≡ true → IsStill w (units_into true into a range.start.offset (range.end.offset - range.start.offset) made) r c range
  still_units k =
      let count = range.end.offset - range.start.offset in
      let k2 : kind_passes is_character_data made.forest a ≡ true = fragment.drawn.extends.kinds is_character_data a hs ∙ k in
      let v = units_into true into a range.start.offset count made in
      let x = filled_units true into a range.start.offset count made sm fragment.holder (there_made a hs) k2 (offset_of_start made range range_made k2) in
      let i = range-units into a range.start.offset count made sm fragment.holder (there_made a hs) k2 r range e refl refl in
      record {
        taken = record {
          there = λ m l. x.there m (there_made m l);
          kinds = λ test m l. x.kinds test m (there_made m l) ∙ fragment.drawn.extends.kinds test m l;
          above =
              ancestors-kept made.forest v.forest sm.forest.once x.sound.forest.once c (there_made c hc)
              (λ m l. let o = path-there made.forest sm.forest.once c m l in (x.there m o, x.parents m o (λ y d. refl)))
              ∙ above_made c hc;
          fragment = x.kinds (is_kind DocumentFragment) w.made fragment.holder.there ∙ fragment.is_fragment;
        };
        children = λ m l. children-units into a range.start.offset count made sm fragment.holder (there_made a hs) k2 m (there_made m l) (not_new m l) ∙ children-beside w.forest new m l;
        next = i.0;
        found = i.1;
        start = i.2;
      }

  -- The contained children leave.

  module _ (start_near : IsNear w.forest c a) (end_near : IsNear w.forest c b) where
    path_same : (n : ℕ) → 0 < occurs n w.forest → path_below made.forest (common_of made range) n ≡ path_below w.forest c n
    path_same n k = ap (λ x. reverse (up_to x (ancestors n made.forest))) same_common ∙ ap (λ xs. reverse (up_to c xs)) (above_made n k)

    abbrev first : World
    first = tail_into true into range.start.offset (path_below made.forest (common_of made range) a) made

    one : IsCut made first into
    one =
        tail-cut w.forest c into a made sm fragment.holder (there_made a hs) (fragment.drawn.extends.kinds (is_kind Text) a hs) start_near range.start.offset (offset_of_start made range range_made)
        (path_below made.forest (common_of made range) a) (path_same a hs)

    abbrev second : World
    second = children_into true into ns first

    holder_first : IsHolder first into
    holder_first = holder_filled made first [] into one.filled fragment.holder

    plain_listed : (m : ℕ) → 0 < hits m ns → IsPlain first m
    plain_listed m k =
        let i = listed m k in
        plain_filled made first [] m one.filled (plain_below made sm m c (fragment.drawn.extends.parents m i.1 refl ∙ i.0) (doctypes m k))

    unlisted_into : hits into ns ≡ 0
    unlisted_into = none-or-some into ns (λ z. z) (λ lt. absurd (let i = listed into lt in not_new into i.1 refl))

    two : IsDrawn first second ns
    two = drawn_children true into ns first one.filled.sound holder_first plain_listed unlisted_into

    there_first : (m : ℕ) → 0 < occurs m w.forest → 0 < occurs m first.forest
    there_first m k = one.filled.there m (there_made m k)

    there_second : (m : ℕ) → 0 < occurs m w.forest → 0 < occurs m second.forest
    there_second m k = two.extends.there m (there_first m k)

    kind_second : (test : Kind → Bool) (m : ℕ) → 0 < occurs m w.forest → kind_passes test second.forest m ≡ kind_passes test w.forest m
    kind_second test m k = two.extends.kinds test m (there_first m k) ∙ one.filled.kinds test m (there_made m k) ∙ fragment.drawn.extends.kinds test m k

    abbrev third : World
    third = head_into true into range.end.offset (path_below made.forest (common_of made range) b) second

    three : IsCut second third into
    three =
        head-cut w.forest c into b second two.sound (holder_stays first second ns into two.extends unlisted_into holder_first) (there_second b he) (kind_second (is_kind Text) b he) end_near range.end.offset
        (path_below made.forest (common_of made range) b) (path_same b he)

    -- what stands above the common ancestor is not contained
    not_listed : (m : ℕ) → 0 < hits m (ancestors c w.forest) → hits m ns ≡ 0
    not_listed m k =
        none-or-some m ns (λ z. z)
        (λ lt. absurd (false≢true
        (sym (start-not_contained w.forest s.forest.once unit_count range m hs (above-within w.forest s.forest.once a c m hs (common_above w s range h).0 k)) ∙ (listed m lt).2)))

    above_third : ancestors c third.forest ≡ ancestors c w.forest
    above_third =
        ancestors-kept w.forest third.forest s.forest.once three.filled.sound.forest.once c hc
        (λ m k.
        let o = path-there w.forest s.forest.once c m k in (
          three.filled.there m (there_second m o),
          three.filled.parents m (there_second m o) (λ y d. refl) ∙ two.extends.parents m (there_first m o) (not_listed m k) ∙ one.filled.parents m (there_made m o) (λ y d. refl) ∙ fragment.drawn.extends.parents m o refl,
        ))

    kids_third : children_of third.forest c ≡ filter (λ m. not (contained_in w range m)) (children_of w.forest c)
    kids_third =
        three.children c (there_second c hc) (not_new c hc)
        ∙ children-drawn into ns first one.filled.sound holder_first plain_listed unlisted_into c (there_first c hc) (not_new c hc)
        ∙ ap (without_each ns) (one.children c (there_made c hc) (not_new c hc) ∙ children-beside w.forest new c hc)
        ∙ ap (λ xs. without_each xs (children_of w.forest c)) contained_same
        ∙ each-passed (contained_in w range) (children_of w.forest c)

    left_parts : (is_collapsed range || is_in_one_data w range) ≡ false → IsLeft w (with_range r (collapsed_at (new_place w.forest range)) (contents_drawn true range w)) r c range
    left_parts z = record {
      taken = record {
        there = λ m k. subst (λ (v : World). 0 < occurs m v.forest) (sym drawn_is) (three.filled.there m (there_second m k));
        kinds = λ test m k. ap (λ (v : World). kind_passes test v.forest m) drawn_is ∙ three.filled.kinds test m (there_second m k) ∙ kind_second test m k;
        above = ap (λ (v : World). ancestors c v.forest) drawn_is ∙ above_third;
        fragment =
            let hf = fragment.holder.there in
            let h1 = one.filled.there into hf in
            ap (λ (v : World). is_of_kind DocumentFragment v.forest into) drawn_is
            ∙ three.filled.kinds (is_kind DocumentFragment) into (two.extends.there into h1) ∙ two.extends.kinds (is_kind DocumentFragment) into h1 ∙ one.filled.kinds (is_kind DocumentFragment) into hf ∙ fragment.is_fragment;
      };
      children = ap (λ (v : World). children_of v.forest c) drawn_is ∙ kids_third;
      next = collapsed_at (new_place w.forest range);
      found = range-set (contents_drawn true range w) r live.0 (collapsed_at (new_place w.forest range)) live.1;
      start = refl;
    }
      where
        drawn_is : contents_drawn true range w ≡ third
        drawn_is = both (is_collapsed range) (is_in_one_data w range) z
          where
            both : (x y : Bool) → (x || y) ≡ false → (if x then made else if y then units_into true w.made a range.start.offset (range.end.offset - range.start.offset) made else parts_into true w.made range made) ≡ parts_into true w.made range made
            both true y i = absurd (false≢true (sym i))
            both false true i = absurd (false≢true (sym i))
            both false false i = refl

        live : (old : Range) × (range_at (contents_drawn true range w) r ≡ Some old)
        live = live-there r (contents_drawn true range w) (live-contents_drawn w s range h checked true r ∙ ap is_some e)

    pub extracted-left : (is_collapsed range || is_in_one_data w range) ≡ false → IsLeft w (extracted r range w) r c range
    extracted-left z = subst (λ v. IsLeft w v r c range) (sym is) (left_parts z)
      where
        is : extracted r range w ≡ with_range r (collapsed_at (new_place w.forest range)) (contents_drawn true range w)
        is = rw z refl

  pub extracted-still : (is_collapsed range || is_in_one_data w range) ≡ true → IsStill w (extracted r range w) r c range
  extracted-still z = subst (λ v. IsStill w v r c range) (sym is) (go (is_collapsed range) (is_in_one_data w range) refl z)
    where
      is : extracted r range w ≡ contents_drawn true range w
      is = rw z refl

      has_data : (x y : Bool) → (x && y) ≡ true → y ≡ true
      has_data true y i = i
      has_data false y i = absurd (false≢true i)

      go : (x y : Bool) → is_in_one_data w range ≡ y → (x || y) ≡ true → IsStill w (if x then made else if y then units_into true w.made a range.start.offset (range.end.offset - range.start.offset) made else parts_into true w.made range made) r c range
      go true y i j = still_made
      go false true i j = still_units (has_data (a == b) (kind_passes is_character_data w.forest a) i)
      go false false i j = absurd (false≢true j)
