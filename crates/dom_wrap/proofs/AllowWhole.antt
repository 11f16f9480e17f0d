-- The refusal to surround is told by the world before the first step. DOM Standard, "Interface Range" (surroundContents).
use Rattle.std.proofs.Common.{◌≡◌, ℕ, zero, suc, ◌+◌, ◌<◌, ◌≤◌, ◌==◌, nat_lt, Bool, true, false, not, ◌&&◌, ◌||◌, if◌then◌else◌, List, [], ◌∷◌, take, drop, Option, Some, None, is_none, Ok, refl, ap, sym, ◌∙◌, subst, arith, ◌⊎◌, inl, inr, ⊎_elim, Less, Greater}
use Rattle.std.proofs.lemmas.Bool.{cases_lt, false≢true, not-false}
use Rattle.std.specs.{List.list_any, Ordering.nat_cmp, Cmp.Lexicographic.slice_cmp}
use Rattle.dom_model.specs.declared.{Kind.Kind, Kind.TheVariants.Element, Kind.TheVariants.Text, Kind.TheVariants.ProcessingInstruction, Kind.TheVariants.Comment, Kind.TheVariants.Document, Kind.TheVariants.DocumentType, Kind.TheVariants.DocumentFragment, DomError.DomError, DomError.TheVariants.HierarchyRequestError, DomError.TheVariants.InvalidStateError, DomError.TheVariants.InvalidNodeTypeError, DomError.TheVariants.NotFoundError}
use Rattle.dom_model.specs.Definitions.{hits, among, is_number, or_else, first_refusal, Entry, is_kind, may_be_parent, may_stand_in, is_character_data, Node, Forest, occurs, entry_in, numbers, parent_of, children_of, index_of, ancestors, Content, Point, Range, World, IsRange, IsSound, unit_count, node_length, place_of, order_of, if_given, has_kind, is_misplaced, kind_refuses, document_refuses, check_insert, entry_has, kind_passes, is_of_kind, same_root, pre_insert, replace_all, is_less, is_before, is_collapsed, is_partially_contained, range_at, for_range, is_in_one_data, contained_in, new_place, common_of, contained_children, check_draw, check_extract, extracted, extract, Outcome, and_then, unless, try_pre_insert, is_text, reference_at, parent_at, check_start, inserted_at, insert_node, check_surround, try_extract, try_select, surrounded, refusal_in, check_whole_surround}
use Rattle.dom_model.proofs.PlainLists.Numbers.{same_or, same, apart}
use Rattle.dom_model.proofs.Forests.{Entries.occurs-HasNode, Climbing.hits-append, Climbing.hits-first, Indices.child-parent, Indices.child-there, Indices.index-child, Indices.path-child, Paths.parent-path}
use Rattle.dom_model.proofs.BoundaryPoints.PointOrder.{nat_cmp-same, nat_cmp-greater, order-above}
use Rattle.dom_model.proofs.MutationAlgorithms.ChecksKept.{or_first, or_second}
use Rattle.dom_model.proofs.Soundness.{SoundForests.entry_there, SoundForests.child-fits, SoundForests.data-childless, SoundDeleting.not_contained, SoundContents.sound-extracted, SoundEditing.sound-replace_all, SoundNormalizing.filter-passed, SoundExtracting.none_listed, SoundRangeSteps.live_range, SoundWorlds.IsLive}
use Rattle.dom_model.proofs.RangesAndContents.PlacesLeft.{place_is}
use Rattle.dom_wrap.specs.SurroundRefusal.{is_refused_between, is_unplaceable, surround_refusal_of, surround_refusal}
use Rattle.dom_wrap.proofs.{AllowAbove.none-or-some, AllowCleared.emptied, AllowPlaces.start-told, AllowPlaces.refusal-unless, AllowPlaces.parent-is, AllowPlaces.found, AllowShape.start_near, AllowShape.end_near, AllowChildren.place-taken, AllowDrawn.IsTaken, AllowDrawn.extracted-still, AllowDrawn.extracted-left, AllowFollowed.third, AllowFollowed.inserted_is, AllowFollowed.kind_third, AllowAlike.common-self, SurroundRefusalLemmas.steps_from, SurroundRefusalLemmas.told_by, SurroundRefusalLemmas.refused-first, SurroundRefusalLemmas.told-still, SurroundRefusalLemmas.told-left}

any-some : (p : ℕ → Bool) (ns : List ℕ) → list_any p ns ≡ true → (m : ℕ) × (0 < hits m ns) × (p m ≡ true)
any-some p [] e = absurd (false≢true e)
any-some p (x ∷ ns) e = go (p x) refl e (any-some p ns)
  where
    go : (v : Bool) → p x ≡ v → (v || list_any p ns) ≡ true → (list_any p ns ≡ true → (m : ℕ) × (0 < hits m ns) × (p m ≡ true)) → (m : ℕ) × (0 < hits m (x ∷ ns)) × (p m ≡ true)
    go true d i more = (x, hits-first x ns, d)
    go false d i more = let k = more i in (k.0, (let j = k.1 in let l = hits-append k.0 (x ∷ []) ns in omega arith), k.2)

any-of : (p : ℕ → Bool) (ns : List ℕ) (m : ℕ) → 0 < hits m ns → p m ≡ true → list_any p ns ≡ true
any-of p ns m h t = go (list_any p ns) refl
  where
    go : (v : Bool) → list_any p ns ≡ v → v ≡ true
    go true e = refl
    go false e = absurd (false≢true (sym (none_listed p ns m e h) ∙ t))

hits-parted : (m k : ℕ) (ns : List ℕ) → hits m ns ≤ hits m (take k ns) + hits m (drop k ns)
hits-parted m zero ns = omega arith
hits-parted m (suc k) [] = omega arith
hits-parted m (suc k) (x ∷ ns) = let i = hits-parted m k ns in let l = hits-append m (x ∷ []) ns in let j = hits-append m (x ∷ []) (take k ns) in omega arith

-- where one place comes before another, the other comes after it
turned_back : (xs ys : List ℕ) → slice_cmp nat_cmp xs ys ≡ Less → slice_cmp nat_cmp ys xs ≡ Greater
turned_back [] [] g = absurd (cc g)
turned_back [] (y ∷ ys) g = refl
turned_back (x ∷ xs) [] g = absurd (cc g)
turned_back (x ∷ xs) (y ∷ ys) g =
    ⊎_elim
    (λ (lt : x < y). rw (nat_cmp-greater y x lt) refl)
    (λ (le : y ≤ x).
    ⊎_elim
    (λ (gt : y < x). absurd (let k = rw (nat_cmp-greater x y gt) at g in cc k))
    (λ (ge : x ≤ y).
    let e : x ≡ y = omega arith in
    let k = rw (e, nat_cmp-same y) at g in
    rw (e, nat_cmp-same y) (turned_back xs ys k))
    (cases_lt y x))
    (cases_lt x y)

-- Kinds.

document-above : (parent k : Kind) → is_kind DocumentType k ≡ true → may_stand_in parent k ≡ true → is_kind Document parent ≡ true
document-above parent Element e i = absurd (false≢true e)
document-above parent Text e i = absurd (false≢true e)
document-above parent ProcessingInstruction e i = absurd (false≢true e)
document-above parent Comment e i = absurd (false≢true e)
document-above parent Document e i = absurd (false≢true e)
document-above parent DocumentFragment e i = absurd (false≢true e)
document-above Document DocumentType e i = refl
document-above Element DocumentType e i = absurd (false≢true i)
document-above Text DocumentType e i = absurd (false≢true i)
document-above ProcessingInstruction DocumentType e i = absurd (false≢true i)
document-above Comment DocumentType e i = absurd (false≢true i)
document-above DocumentType DocumentType e i = absurd (false≢true i)
document-above DocumentFragment DocumentType e i = absurd (false≢true i)

holds-none : (k : Kind) → is_kind Element k ≡ false → is_kind Document k ≡ false → is_kind DocumentFragment k ≡ false → may_be_parent k ≡ false
holds-none Element e d f = absurd (false≢true (sym e))
holds-none Document e d f = absurd (false≢true (sym d))
holds-none DocumentFragment e d f = absurd (false≢true (sym f))
holds-none Text e d f = refl
holds-none ProcessingInstruction e d f = refl
holds-none Comment e d f = refl
holds-none DocumentType e d f = refl

childless-kind : (g : Forest Content) (n : ℕ) → is_of_kind Element g n ≡ false → is_of_kind Document g n ≡ false → is_of_kind DocumentFragment g n ≡ false → kind_passes may_be_parent g n ≡ false
childless-kind g n e d f = go (entry_in g n) e d f
  where
    go : (o : Option (Entry (Node Content))) → entry_has (is_kind Element) o ≡ false → entry_has (is_kind Document) o ≡ false → entry_has (is_kind DocumentFragment) o ≡ false → entry_has may_be_parent o ≡ false
    go None i j k = refl
    go (Some x) i j k = holds-none x.value.label.kind i j k

-- A contained doctype.

module _ (range : Range) (w : World) (s : IsSound w) (n : ℕ) (h : IsRange w.forest range) (doctype : has_kind DocumentType w.forest (contained_children w range) ≡ true) where
  abbrev a : ℕ
  a = range.start.node

  abbrev c : ℕ
  c = common_of w range

  ha : 0 < occurs a w.forest
  ha = occurs-HasNode w.forest a h.starts.there

  one : (m : ℕ) × (0 < hits m (contained_children w range)) × (is_of_kind DocumentType w.forest m ≡ true)
  one = any-some (is_of_kind DocumentType w.forest) (contained_children w range) doctype

  abbrev m : ℕ
  m = one.0

  passed : (contained_in w range m ≡ true) × (0 < hits m (children_of w.forest c))
  passed = filter-passed (contained_in w range) (children_of w.forest c) m one.1

  hm : 0 < occurs m w.forest
  hm = child-there w.forest s.forest.once m c passed.1

  par : parent_of w.forest m ≡ Some c
  par = child-parent w.forest s.forest.once m c passed.1

  document : is_of_kind Document w.forest c ≡ true
  document =
      let em = entry_there w.forest m hm in
      let ec = entry_there w.forest c (parent_there c par) in
      let fits = rw (em.1, ec.1) at (child-fits s.forest m c par hm) in
      let kind = rw em.1 at one.2 in
      rw ec.1 (document-above ec.0.value.label.kind em.0.value.label.kind kind fits)
    where
      parent_there : (q : ℕ) → parent_of w.forest m ≡ Some q → 0 < occurs q w.forest
      parent_there q e = (parent-path w.forest s.forest.once m q hm e).0

  -- nothing is contained between a point and itself
  not_collapsed : is_collapsed range ≡ true → ⊥
  not_collapsed z =
      let node_is : a ≡ range.end.node = elim (same_or a range.end.node) [ same d t ↦ d | apart ne t ↦ absurd (false≢true (let k = rw t at z in k)) ] in
      let offset_is : range.start.offset ≡ range.end.offset = elim (same_or range.start.offset range.end.offset) [
        | same d t ↦ d
        | apart ne t ↦ absurd (let k = rw t at z in false≢true (sym (none (a == range.end.node)) ∙ k))
      ] in
      let end_is : range.end ≡ range.start = ap (λ x. record { node = x; offset = range.end.offset }) (sym node_is) ∙ ap (λ x. record { node = a; offset = x }) (sym offset_is) in
      let under : parent_of w.forest m ≡ Some a = par ∙ ap (λ x. Some x) (common-self w.forest a range.end.node ha node_is) in
      let path = path-child w.forest s.forest.once m a hm under in
      let size = node_length unit_count w.forest m in
      by (nat_lt (index_of w.forest m) range.start.offset)
      (order-above w.forest a m (index_of w.forest m) range.start.offset 0 [] path) (order-above w.forest a m (index_of w.forest m) range.start.offset size [] path) end_is
    where
      none : (x : Bool) → (x && false) ≡ false
      none true = refl
      none false = refl

      off_first : (x y z : Bool) → y ≡ false → (x && (y && z)) ≡ false
      off_first true y z e = rw e refl
      off_first false y z e = refl

      off_last : (x y z : Bool) → z ≡ false → (x && (y && z)) ≡ false
      off_last true true z e = e
      off_last true false z e = refl
      off_last false y z e = refl

      by : (v : Bool) → order_of w.forest range.start (record { node = m; offset = 0 }) ≡ (if v then Greater else Less) → order_of w.forest range.start (record { node = m; offset = node_length unit_count w.forest m }) ≡ (if v then Greater else Less) → range.end ≡ range.start → ⊥
      by true x y e =
          false≢true
          (sym (off_first (same_root w.forest m a) (is_before w.forest range.start (record { node = m; offset = 0 })) (is_before w.forest (record { node = m; offset = node_length unit_count w.forest m }) range.end) (ap is_less x))
          ∙ passed.0)
      by false x y e =
          let after = turned_back (place_of w.forest range.start) (place_of w.forest (record { node = m; offset = node_length unit_count w.forest m })) y in
          false≢true
          (sym (off_last (same_root w.forest m a) (is_before w.forest range.start (record { node = m; offset = 0 })) (is_before w.forest (record { node = m; offset = node_length unit_count w.forest m }) range.end)
          (ap (λ q. is_before w.forest (record { node = m; offset = node_length unit_count w.forest m }) q) e ∙ ap is_less after))
          ∙ passed.0)

  not_data : is_in_one_data w range ≡ true → ⊥
  not_data z =
      let node_is : a ≡ range.end.node = elim (same_or a range.end.node) [ same d t ↦ d | apart ne t ↦ absurd (false≢true (let k = rw t at z in k)) ] in
      let is_data : kind_passes is_character_data w.forest a ≡ true = has_data (a == range.end.node) (kind_passes is_character_data w.forest a) z in
      let kids : children_of w.forest c ≡ [] = ap (children_of w.forest) (common-self w.forest a range.end.node ha node_is) ∙ data-childless s.forest a is_data in
      let k = ap (hits m) kids in
      let l = passed.1 in
      omega arith
    where
      has_data : (x y : Bool) → (x && y) ≡ true → y ≡ true
      has_data true y i = i
      has_data false y i = absurd (false≢true i)

  between : (is_collapsed range || is_in_one_data w range) ≡ false → is_refused_between w range n ≡ true
  between z =
      let place = place_is s.forest range h (or_second (is_collapsed range) (is_in_one_data w range) z) in
      let k = (new_place w.forest range).offset in
      let kids = children_of w.forest c in
      let behind : 0 < hits m (drop k kids) =
      none-or-some m (take k kids)
      (λ none. let l = hits-parted m k kids in let i = passed.1 in omega arith)
      (λ lt.
      let index : index_of w.forest m < k = (let x = place-taken m k kids lt in let y = index-child w.forest m c par in omega arith) in
      absurd (false≢true (sym (not_contained w range m (place.ahead m (par ∙ ap (λ x. Some x) (sym place.common)) index)) ∙ passed.0))) in
      rw (document, any-of (is_of_kind DocumentType w.forest) (drop k kids) m behind one.2) (last (among n (ancestors c w.forest)) (list_any (λ x. is_of_kind Element w.forest x && not (contained_in w range x)) kids))
    where
      last : (x y : Bool) → (x || (true && (y || true))) ≡ true
      last true y = refl
      last false true = refl
      last false false = refl

  pub unplaceable-drawn : is_unplaceable w range n ≡ true
  unplaceable-drawn = go (is_collapsed range) refl (is_in_one_data w range) refl
    where
      last : (x : Bool) → (x || true) ≡ true
      last true = refl
      last false = refl

      go : (x : Bool) → is_collapsed range ≡ x → (y : Bool) → is_in_one_data w range ≡ y → is_unplaceable w range n ≡ true
      go true d y i = absurd (not_collapsed d)
      go false d true i = absurd (not_data i)
      go false d false i = let z : (is_collapsed range || is_in_one_data w range) ≡ false = rw (d, i) refl in rw (z, between z) (last (not (is_of_kind Element w.forest n)))

-- A new parent that may have no children.

refused-by : (o rest : Option DomError) (d : DomError) → o ≡ Some d → or_else o rest ≡ Some d
refused-by o rest d e = rw e refl

refused-later : (o c rest : Option DomError) (d : DomError) → o ≡ None → c ≡ Some d → or_else o (or_else c rest) ≡ Some d
refused-later o c rest d e f = rw (e, f) refl

conditions-either : (x y z d m k : Bool) → (x ≡ false → z ≡ false) →
    let c = first_refusal ((x, HierarchyRequestError) ∷ (y, HierarchyRequestError) ∷ (z, NotFoundError) ∷ (d, HierarchyRequestError) ∷ (m, HierarchyRequestError) ∷ (k, HierarchyRequestError) ∷ []) in (c ≡ None) ⊎ (c ≡ Some HierarchyRequestError)
conditions-either true y z d m k f = inr refl
conditions-either false true z d m k f = inr refl
conditions-either false false z d m k f = rw (f refl) (rest d m k)
  where
    rest : (d m k : Bool) → let c = first_refusal ((d, HierarchyRequestError) ∷ (m, HierarchyRequestError) ∷ (k, HierarchyRequestError) ∷ []) in (c ≡ None) ⊎ (c ≡ Some HierarchyRequestError)
    rest true m k = inr refl
    rest false true k = inr refl
    rest false false true = inr refl
    rest false false false = inl refl

module _ (u : World) (s : IsSound u) (n : ℕ) (hn : 0 < occurs n u.forest) (childless : kind_passes may_be_parent u.forest n ≡ false) (r : ℕ) (range : Range) (e : range_at u r ≡ Some range) (b : IsRange u.forest range) (into : ℕ) where
  abbrev p : Point
  p = range.start

  abbrev insert_check : Option DomError
  insert_check = check_insert u.forest (parent_at u p) n (reference_at u p)

  either-told : (insert_check ≡ None) ⊎ (insert_check ≡ Some HierarchyRequestError)
  either-told =
      let q = parent_at u p in
      conditions-either (not (kind_passes may_be_parent u.forest q)) (among n (ancestors q u.forest)) (if_given (λ x. not (is_number (parent_of u.forest x) q)) (reference_at u p)) (is_of_kind Document u.forest n) (is_misplaced u.forest q n) (kind_refuses (λ k. document_refuses k u.forest q n (reference_at u p)) u.forest q n)
      (λ k.
      let same_parent = parent-is u s p in
      ap (λ x. if_given (λ y. not (is_number (parent_of u.forest y) x)) (reference_at u p)) same_parent
      ∙ found u s p (ap (kind_passes may_be_parent u.forest) (sym same_parent) ∙ not-false (kind_passes may_be_parent u.forest q) k))

  place_is_refused : refusal_in (inserted_at r n p u) ≡ Some HierarchyRequestError → refusal_in (steps_from r n into u) ≡ told_by true
  place_is_refused i =
      refused-first (insert_node r n u) _ HierarchyRequestError
      (ap (λ (o : Option Range). refusal_in (for_range o (Ok u) (λ (x : Range). inserted_at r n x.start u))) e ∙ i)

  entered : check_start u p n ≡ None → insert_check ≡ None → refusal_in (steps_from r n into u) ≡ told_by true
  entered x y =
      let next = third u s n hn r range e b.starts x y in
      let kind : kind_passes may_be_parent next.forest n ≡ false = kind_third u s n hn r range e b.starts x y may_be_parent n hn ∙ childless in
      let refused : check_insert next.forest n into None ≡ Some HierarchyRequestError = rw kind refl in
      ap (λ o. refusal_in (and_then o (λ x. and_then (try_pre_insert into n None x) (λ y. try_select r n y)))) (inserted_is u s n hn r range e b.starts x y)
      ∙ refused-first (try_pre_insert into n None next) (λ y. try_select r n y) HierarchyRequestError
      (refusal-unless (check_insert next.forest n into None) next (λ v. Ok (pre_insert into n None v)) ∙ refused-by (check_insert next.forest n into None) _ HierarchyRequestError refused)

  told-childless : refusal_in (steps_from r n into u) ≡ told_by true
  told-childless = go ((is_of_kind ProcessingInstruction u.forest p.node || is_of_kind Comment u.forest p.node) || ((is_text u p.node && is_none (parent_of u.forest p.node)) || (p.node == n))) refl
    where
      start_is : check_start u p n ≡ told_by ((is_of_kind ProcessingInstruction u.forest p.node || is_of_kind Comment u.forest p.node) || ((is_text u p.node && is_none (parent_of u.forest p.node)) || (p.node == n)))
      start_is = start-told (is_of_kind ProcessingInstruction u.forest p.node || is_of_kind Comment u.forest p.node) (is_text u p.node && is_none (parent_of u.forest p.node)) (p.node == n)

      after : check_start u p n ≡ None → refusal_in (steps_from r n into u) ≡ told_by true
      after x =
          ⊎_elim
          (λ (y : insert_check ≡ None). entered x y)
          (λ (y : insert_check ≡ Some HierarchyRequestError).
          place_is_refused
          (refusal-unless (check_start u p n) u _ ∙ ap (or_else (check_start u p n)) (refusal-unless insert_check u _)
          ∙ refused-later (check_start u p n) insert_check _ HierarchyRequestError x y))
          either-told

      go : (t : Bool) → ((is_of_kind ProcessingInstruction u.forest p.node || is_of_kind Comment u.forest p.node) || ((is_text u p.node && is_none (parent_of u.forest p.node)) || (p.node == n))) ≡ t → refusal_in (steps_from r n into u) ≡ told_by true
      go true t = place_is_refused (refusal-unless (check_start u p n) u _ ∙ refused-by (check_start u p n) _ HierarchyRequestError (start_is ∙ ap told_by t))
      go false t = after (start_is ∙ ap told_by t)

-- The whole.

in-turn : (x y z : Bool) → first_refusal ((x, InvalidStateError) ∷ (y, InvalidNodeTypeError) ∷ (z, HierarchyRequestError) ∷ []) ≡ or_else (first_refusal ((x, InvalidStateError) ∷ (y, InvalidNodeTypeError) ∷ [])) (told_by z)
in-turn true y z = refl
in-turn false true z = refl
in-turn false false true = refl
in-turn false false false = refl

module _ (r : ℕ) (range : Range) (w : World) (s : IsSound w) (n : ℕ) (hn : 0 < occurs n w.forest) (e : range_at w r ≡ Some range) (h : IsRange w.forest range) where
  abbrev common : ℕ
  common = common_of w range

  abbrev is_deep : Bool
  is_deep = list_any (λ m. is_partially_contained w.forest range m && not (is_text w m)) (numbers w.forest)

  abbrev is_invalid_parent : Bool
  is_invalid_parent = is_of_kind Document w.forest n || (is_of_kind DocumentType w.forest n || is_of_kind DocumentFragment w.forest n)

  abbrev drawn : World
  drawn = extracted r range w

  abbrev bare : World
  bare = replace_all None n drawn

  module _ (shallow : is_deep ≡ false) (plain : is_invalid_parent ≡ false) (checked : check_draw w range ≡ None) where
    told-element : is_of_kind Element w.forest n ≡ true → refusal_in (steps_from r n w.made bare) ≡ told_by (is_unplaceable w range n)
    told-element t = go (is_collapsed range || is_in_one_data w range) refl
      where
        go : (z : Bool) → (is_collapsed range || is_in_one_data w range) ≡ z → refusal_in (steps_from r n w.made bare) ≡ told_by (is_unplaceable w range n)
        go true z = told-still r range w s n hn e h t checked z ∙ sym (ap told_by (rw (t, z) refl))
        go false z = told-left r range w s n hn e h t checked z (start_near s.forest range h shallow) (end_near s.forest range h shallow) ∙ sym (ap told_by (rw (t, z) refl))

    taken : (z : Bool) → (is_collapsed range || is_in_one_data w range) ≡ z → (next : Range) × (range_at drawn r ≡ Some next) × IsTaken w drawn common
    taken true z = let i = extracted-still r range w s e h checked z in (i.next, i.found, i.taken)
    taken false z = let i = extracted-left r range w s e h checked (start_near s.forest range h shallow) (end_near s.forest range h shallow) z in (i.next, i.found, i.taken)

    told-other : is_of_kind Element w.forest n ≡ false → refusal_in (steps_from r n w.made bare) ≡ told_by (is_unplaceable w range n)
    told-other t =
        let i = taken (is_collapsed range || is_in_one_data w range) refl in
        let sv = sound-extracted r range w s h checked in
        let ends = subst (IsLive drawn.forest) i.1 (live_range drawn sv r) in
        let em = emptied n r drawn sv i.0 i.1 (occurs-HasNode drawn.forest i.0.start.node ends.starts.there) in
        let su = sound-replace_all None n drawn sv tt in
        let none = childless-kind w.forest n t (or_first (is_of_kind Document w.forest n) _ plain) (or_second (is_of_kind DocumentType w.forest n) _ (or_second (is_of_kind Document w.forest n) _ plain)) in
        told-childless bare su n (subst (λ x. 0 < x) (sym (em.numbers n)) (i.2.there n hn)) (em.kinds may_be_parent n ∙ i.2.kinds may_be_parent n hn ∙ none)
        r em.range em.found (subst (IsLive bare.forest) em.found (live_range bare su r)) w.made
        ∙ sym (ap told_by refused)
      where
        refused : is_unplaceable w range n ≡ true
        refused = rw t refl

    told-drawn : refusal_in (steps_from r n w.made bare) ≡ told_by (is_unplaceable w range n)
    told-drawn = go (is_of_kind Element w.forest n) refl
      where
        go : (t : Bool) → is_of_kind Element w.forest n ≡ t → refusal_in (steps_from r n w.made bare) ≡ told_by (is_unplaceable w range n)
        go true t = told-element t
        go false t = told-other t

  abbrev rest : Outcome
  rest = and_then (try_extract r w) (λ v. steps_from r n w.made (replace_all None n v))

  refusal-extract : (d : Option DomError) → refusal_in (and_then (and_then (unless d w) (λ v. Ok (extract r v))) (λ v. steps_from r n w.made (replace_all None n v))) ≡ or_else d (refusal_in (steps_from r n w.made (replace_all None n (extract r w))))
  refusal-extract None = refl
  refusal-extract (Some d) = refl

  rest_is : refusal_in rest ≡ or_else (check_draw w range) (refusal_in (steps_from r n w.made bare))
  rest_is =
      refusal-extract (check_extract r w)
      ∙ ap (λ d. or_else d (refusal_in (steps_from r n w.made (replace_all None n (extract r w))))) (ap (λ o. for_range o None (λ x. check_draw w x)) e)
      ∙ ap (λ v. or_else (check_draw w range) (refusal_in (steps_from r n w.made (replace_all None n v)))) (ap (λ o. for_range o w (λ x. extracted r x w)) e)

  told-rest : is_deep ≡ false → is_invalid_parent ≡ false → refusal_in rest ≡ told_by (is_unplaceable w range n)
  told-rest shallow plain = rest_is ∙ go (has_kind DocumentType w.forest (contained_children w range)) refl
    where
      go : (t : Bool) → has_kind DocumentType w.forest (contained_children w range) ≡ t → or_else (check_draw w range) (refusal_in (steps_from r n w.made bare)) ≡ told_by (is_unplaceable w range n)
      go true t =
          let d : check_draw w range ≡ Some HierarchyRequestError = rw t refl in
          ap (λ o. or_else o (refusal_in (steps_from r n w.made bare))) d ∙ sym (ap told_by (unplaceable-drawn range w s n h t))
      go false t =
          let d : check_draw w range ≡ None = rw t refl in
          ap (λ o. or_else o (refusal_in (steps_from r n w.made bare))) d ∙ told-drawn shallow plain d

  told-range : refusal_in (surrounded r n range w) ≡ surround_refusal_of w range n
  told-range = refusal-unless (check_surround w range n) w _ ∙ go is_deep refl is_invalid_parent refl ∙ sym (in-turn is_deep is_invalid_parent (is_unplaceable w range n))
    where
      go : (x : Bool) → is_deep ≡ x → (y : Bool) → is_invalid_parent ≡ y → or_else (check_surround w range n) (refusal_in rest) ≡ or_else (check_surround w range n) (told_by (is_unplaceable w range n))
      go false d false i = ap (or_else (check_surround w range n)) (told-rest d i)
      go true d y i =
          let k : check_surround w range n ≡ Some InvalidStateError = rw d refl in
          ap (λ o. or_else o (refusal_in rest)) k ∙ sym (ap (λ o. or_else o (told_by (is_unplaceable w range n))) k)
      go false d true i =
          let k : check_surround w range n ≡ Some InvalidNodeTypeError = rw (d, i) refl in
          ap (λ o. or_else o (refusal_in rest)) k ∙ sym (ap (λ o. or_else o (told_by (is_unplaceable w range n))) k)

-- what the steps refuse is told by the world before them
pub surround-told : (r n : ℕ) (w : World) → IsSound w → 0 < occurs n w.forest → check_whole_surround r n w ≡ surround_refusal r n w
surround-told r n w s hn = go (range_at w r) refl (live_range w s r)
  where
    go : (o : Option Range) → range_at w r ≡ o → IsLive w.forest o → refusal_in (for_range o (Ok w) (λ range. surrounded r n range w)) ≡ for_range o None (λ range. surround_refusal_of w range n)
    go None e h = refl
    go (Some range) e h = told-range r range w s n hn e h
