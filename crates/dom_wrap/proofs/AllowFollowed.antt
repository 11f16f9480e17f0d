-- Once an element has come in, the fragment goes into it, and it is selected: neither is refused. DOM Standard, "Interface Range" (surroundContents).
use Rattle.std.proofs.Common.{◌≡◌, ℕ, ◌+◌, ◌<◌, ◌≤◌, ◌==◌, Bool, true, false, ◌&&◌, if◌then◌else◌, [], ◌∷◌, length, Option, Some, None, is_none, option_map, Ok, refl, ap, sym, ◌∙◌, subst, arith}
use Rattle.std.proofs.lemmas.Bool.{false≢true}
use Rattle.dom_model.specs.declared.{Kind.Kind, Kind.TheVariants.Element, Kind.TheVariants.Text, Kind.TheVariants.ProcessingInstruction, Kind.TheVariants.Comment, Kind.TheVariants.Document, Kind.TheVariants.DocumentType, Kind.TheVariants.DocumentFragment}
use Rattle.dom_model.specs.Definitions.{hits, among, Entry, is_kind, may_be_parent, Node, Forest, occurs, entry_in, next_of, parent_of, children_of, index_of, ancestors, spliced, Content, Point, Range, World, IsBoundary, IsSound, check_insert, entry_has, kind_passes, is_of_kind, remove, insert, reference_child, pre_insert, nodes_of, is_fragment, is_collapsed, range_at, with_range, data_of, tail_of, with_data, cut_count, split_off, split, for_range, and_then, try_pre_insert, is_text, reference_at, parent_at, check_start, split_at, reference_after, offset_past, end_if_collapsed, inserted_at, insert_node, selected, try_select, refusal_in, IsInsertable}
use Rattle.dom_model.proofs.PlainLists.Numbers.{same_or, same, apart}
use Rattle.dom_model.proofs.Forests.{Changes.seen, Changes.nothing, Changes.just, Entries.HasNode-occurs, Entries.occurs-HasNode, Climbing.hits-first, Climbing.hits-self, Climbing.hits-not_among, Paths.parent-path, Listed.hits-other, Totals.IsOnce, Indices.child-parent}
use Rattle.dom_model.proofs.Worlds.{SameShape.IsAlike, SameShape.with_node-alike, SameShape.kind-alike, SameShape.parent-alike, Measured.kind-beside, Measured.parent-beside, Parts.path-there}
use Rattle.dom_model.proofs.MutationAlgorithms.{Loosened.IsLoosened, Loosened.loosened-remove, Extending.IsPut, Extending.put_by_insert, ChecksKept.allowed, ChecksKept.refusal-head}
use Rattle.dom_model.proofs.Soundness.{SoundData.length-data, SoundWorlds.sound-remove, SoundPlacing.parent_placed, SoundEditing.checks_insert, SoundEditing.insertable, SoundEditing.sound-pre_insert, SoundSplitting.text_has_data, SoundSplitting.made, SoundSplitting.sm, SoundSplitting.parted, SoundSplitting.there-old, SoundSplitting.hp, SoundSplitting.placeable, SoundSplitting.split_off_is, SoundSplitting.forest_is, SoundSplitting.kind-parted, SoundSplitting.sound-split, SoundPlacedNode.Gives, SoundInsertedNode.insert-next}
use Rattle.dom_model.proofs.BoundaryPoints.SplitEnds.{split_parts}
use Rattle.dom_model.proofs.RangesAndContents.InsertAllowed.{insert-allowed}
use Rattle.dom_wrap.specs.SurroundRefusal.{holder_of, is_refused_at}
use Rattle.dom_wrap.proofs.{InsertedNode.unless-none, InsertedNode.placed-is, AllowAbove.none-or-some, AllowAbove.ancestors-kept, AllowPlaces.element-passes, AllowPlaces.parent-is}

-- what was there stays, with its parents
record IsApart (u v : World) : Type 0 where
  sound : IsSound v
  there : (m : ℕ) → 0 < occurs m u.forest → 0 < occurs m v.forest
  kinds : (test : Kind → Bool) (m : ℕ) → 0 < occurs m u.forest → kind_passes test v.forest m ≡ kind_passes test u.forest m
  parents : (m : ℕ) → 0 < occurs m u.forest → parent_of v.forest m ≡ parent_of u.forest m

-- a Text with a parent is split
module _ (n parent offset : ℕ) (w : World) (s : IsSound w) (hn : 0 < occurs n w.forest) (text : is_of_kind Text w.forest n ≡ true) (par : parent_of w.forest n ≡ Some parent) (within : offset ≤ length (data_of w n)) where
  abbrev fresh : World
  fresh = made n parent offset w s hn text par within

  abbrev behind : World
  behind = split_off n offset w.made (parent_of w.forest n) fresh

  behind_is : behind.forest ≡ parted n parent offset w s hn text par within
  behind_is =
      ap (λ o. (split_off n offset w.made o fresh).forest) par
      ∙ ap (λ (v : World). v.forest) (split_off_is n parent offset w s hn text par within)
      ∙ forest_is n parent offset w s hn text par within

  alike : IsAlike behind.forest (split n offset w).forest
  alike = with_node-alike (with_data (spliced offset (cut_count (length (data_of behind n)) offset (length (tail_of w n offset))) [] (data_of behind n))) (λ x. refl) n behind.forest

  apart-split : IsApart w (split n offset w)
  apart-split = record {
    sound = sound-split n offset w s hn text within;
    there = (split_parts n parent offset w s hn text par within).there;
    kinds = λ test m h.
        kind-alike alike test m ∙ ap (λ (g : Forest Content). kind_passes test g m) behind_is
        ∙ kind-parted n parent offset w s hn text par within test m
        ∙ kind-beside w.forest _ m h test;
    parents = λ m h.
        parent-alike alike m ∙ ap (λ (g : Forest Content). parent_of g m) behind_is
        ∙ parent_placed parent w.made (next_of fresh.forest n) fresh (sm n parent offset w s hn text par within) (there-old n parent offset w s hn text par within parent (hp n parent offset w s hn text par within)) (placeable n parent offset w s hn text par within) m (there-old n parent offset w s hn text par within m h)
        ∙ (elim (same_or m w.made) [
          | same e t ↦ absurd (let z : occurs m w.forest ≡ 0 = ap (λ k. occurs k w.forest) e ∙ s.forest.small w.made (omega arith) in omega arith)
          | apart ne t ↦ rw t (parent-beside w.forest _ m h)
        ]);
  }

-- A node comes in where its first two checks pass.
module _ (u : World) (s : IsSound u) (n : ℕ) (hn : 0 < occurs n u.forest) (r : ℕ) (range : Range) (e : range_at u r ≡ Some range) (b : IsBoundary u.forest range.start)
    (start_clear : check_start u range.start n ≡ None) (insert_clear : check_insert u.forest (parent_at u range.start) n (reference_at u range.start) ≡ None) where
  abbrev p : Point
  p = range.start

  abbrev parent : ℕ
  parent = parent_at u p

  abbrev parts : World
  parts = split_at p u

  abbrev reference : Option ℕ
  reference = reference_child parts n (reference_after u p)

  abbrev out : World
  out = remove false n parts

  out_clear : check_insert out.forest parent n reference ≡ None
  out_clear = insert-allowed u s.forest n (HasNode-occurs u.forest n hn) p start_clear insert_clear

  abbrev pub third : World
  third = end_if_collapsed r (record { node = parent; offset = offset_past out parent reference n }) (pre_insert n parent reference out)

  pub inserted_is : insert_node r n u ≡ Ok third
  inserted_is =
      ap (λ (o : Option Range). for_range o (Ok u) (λ (x : Range). inserted_at r n x.start u)) e
      ∙ unless-none (check_start u p n) u _ start_clear
      ∙ unless-none (check_insert u.forest parent n (reference_at u p)) u _ insert_clear
      ∙ placed-is r n parent reference parts out_clear

  is_apart : IsApart u parts
  is_apart = go (is_text u p.node) refl
    where
      hp_there : 0 < occurs p.node u.forest
      hp_there = occurs-HasNode u.forest p.node b.there

      go : (t : Bool) → is_text u p.node ≡ t → IsApart u parts
      go false t =
          let k : parts ≡ u = rw t refl in
          subst (IsApart u) (sym k) (record { sound = s; there = λ m h. h; kinds = λ test m h. refl; parents = λ m h. refl })
      go true t =
          let k : parts ≡ split p.node p.offset u = rw t refl in
          let m = text_parent t in
          let within : p.offset ≤ length (data_of u p.node) = (let x = b.within in let j = length-data u.forest p.node (text_has_data u p.node t) in omega arith) in
          subst (IsApart u) (sym k) (apart-split p.node m.0 p.offset u s hp_there t m.1 within)
        where
          text_parent : is_text u p.node ≡ true → (q : ℕ) × (parent_of u.forest p.node ≡ Some q)
          text_parent i =
              elim (seen (parent_of u.forest p.node)) [
                | nothing d ↦ absurd (let x : (is_text u p.node && is_none (parent_of u.forest p.node)) ≡ false = (refusal-head _ _ _ (refusal-head _ _ _ start_clear).1).0 in let j = rw (i, d) at x in false≢true (sym j))
                | just q d ↦ (q, d)
              ]

  hn_parts : 0 < occurs n parts.forest
  hn_parts = is_apart.there n hn

  loose : IsLoosened parts.forest out.forest
  loose = loosened-remove false n parts is_apart.sound hn_parts

  sound_out : IsSound out
  sound_out = sound-remove false n parts is_apart.sound

  there_out : (m : ℕ) → 0 < occurs m u.forest → 0 < occurs m out.forest
  there_out m h = subst (λ x. 0 < x) (sym (loose.numbers m)) (is_apart.there m h)

  kind_out : (test : Kind → Bool) (m : ℕ) → 0 < occurs m u.forest → kind_passes test out.forest m ≡ kind_passes test u.forest m
  kind_out test m h = loose.kinds test m ∙ is_apart.kinds test m h

  abbrev before : Option ℕ
  before = reference_child out n reference

  ready : IsInsertable out.forest n parent before
  ready = insertable out sound_out parent n reference (there_out n hn) (checks_insert out.forest parent n reference out_clear)

  put : IsPut out.forest (insert false n parent before out).forest parent (nodes_of out n)
  put = put_by_insert false n parent before out sound_out ready

  third_forest : third.forest ≡ (insert false n parent before out).forest
  third_forest = go (range_at (pre_insert n parent reference out) r)
    where
      go : (o : Option Range) → (for_range o (pre_insert n parent reference out) (λ x. if is_collapsed x then with_range r (record x { end = record { node = parent; offset = offset_past out parent reference n } }) (pre_insert n parent reference out) else pre_insert n parent reference out)).forest ≡ (pre_insert n parent reference out).forest
      go None = refl
      go (Some x) = either (is_collapsed x)
        where
          either : (v : Bool) → (if v then with_range r (record x { end = record { node = parent; offset = offset_past out parent reference n } }) (pre_insert n parent reference out) else pre_insert n parent reference out).forest ≡ (pre_insert n parent reference out).forest
          either true = refl
          either false = refl

  sound_placed : IsSound (pre_insert n parent reference out)
  sound_placed = sound-pre_insert n parent reference out sound_out (there_out n hn) out_clear

  once_third : IsOnce third.forest
  once_third = subst IsOnce (sym third_forest) sound_placed.forest.once

  pub there_third : (m : ℕ) → 0 < occurs m u.forest → 0 < occurs m third.forest
  there_third m h = subst (λ (g : Forest Content). 0 < occurs m g) (sym third_forest) (put.extends.there m (there_out m h))

  pub kind_third : (test : Kind → Bool) (m : ℕ) → 0 < occurs m u.forest → kind_passes test third.forest m ≡ kind_passes test u.forest m
  kind_third test m h = ap (λ (g : Forest Content). kind_passes test g m) third_forest ∙ put.extends.kinds test m (there_out m h) ∙ kind_out test m h

  sound_third : IsSound third
  sound_third = (subst (Gives u) inserted_is (insert-next r n u s hn)).sound

  -- An element comes in, and then the fragment into it.
  module _ (element : is_of_kind Element u.forest n ≡ true) (passes : is_refused_at u range.start n ≡ false) (into : ℕ) (hi : 0 < occurs into u.forest) (fragment : is_of_kind DocumentFragment u.forest into ≡ true) (outside : hits into (ancestors (holder_of u range.start.node) u.forest) ≡ 0) where
    no_fragment : is_fragment out n ≡ false
    no_fragment = kind_out (is_kind DocumentFragment) n hn ∙ element-passes u.forest n (is_kind DocumentFragment) element

    alone : nodes_of out n ≡ n ∷ []
    alone = rw no_fragment refl

    under : parent_of third.forest n ≡ Some parent
    under = ap (λ (g : Forest Content). parent_of g n) third_forest ∙ put.put_under n (subst (λ ns. 0 < hits n ns) (sym alone) (hits-first n []))

    parent_there : 0 < occurs parent u.forest
    parent_there = subst (λ m. 0 < occurs m u.forest) (sym (parent-is u s p)) (holder_there (kind_passes may_be_parent u.forest (holder_of u p.node)) refl passes)
      where
        holder_there : (v : Bool) → kind_passes may_be_parent u.forest (holder_of u p.node) ≡ v → is_refused_at u p n ≡ false → 0 < occurs (holder_of u p.node) u.forest
        holder_there true k i = go (entry_in u.forest (holder_of u p.node)) refl k
          where
            go : (o : Option (Entry (Node Content))) → entry_in u.forest (holder_of u p.node) ≡ o → entry_has may_be_parent o ≡ true → 0 < occurs (holder_of u p.node) u.forest
            go None d j = absurd (false≢true j)
            go (Some x) d j = occurs-HasNode u.forest (holder_of u p.node) (rw d refl)
        holder_there false k i = absurd (let j = rw k at i in false≢true (sym j))

    -- the fragment does not stand above the node
    parent_outside : hits into (ancestors parent u.forest) ≡ 0
    parent_outside = ap (λ m. hits into (ancestors m u.forest)) (parent-is u s p) ∙ outside

    above_parts : ancestors parent parts.forest ≡ ancestors parent u.forest
    above_parts =
        ancestors-kept u.forest parts.forest s.forest.once is_apart.sound.forest.once parent parent_there
        (λ m h. let o = path-there u.forest s.forest.once parent m h in (is_apart.there m o, is_apart.parents m o))

    above_out : hits into (ancestors parent out.forest) ≡ 0
    above_out = let i = loose.paths into parent (is_apart.there parent parent_there) in let j = ap (hits into) above_parts in let k = parent_outside in omega arith

    above_third : ancestors parent third.forest ≡ ancestors parent out.forest
    above_third =
        ancestors-kept out.forest third.forest sound_out.forest.once once_third parent (there_out parent parent_there)
        (λ m h.
        let o = path-there out.forest sound_out.forest.once parent m h in
        let far : hits m (n ∷ []) ≡ 0 = none-or-some m (n ∷ []) (λ z. z) (λ lt. absurd (let k = ready.outside in let d = single m n lt in let l = ap (λ x. hits x (ancestors parent out.forest)) d in omega arith)) in (
          subst (λ (g : Forest Content). 0 < occurs m g) (sym third_forest) (put.extends.there m o),
          ap (λ (g : Forest Content). parent_of g m) third_forest ∙ put.extends.parents m o (ap (hits m) alone ∙ far),
        ))
      where
        single : (m k : ℕ) → 0 < hits m (k ∷ []) → m ≡ k
        single m k h = elim (same_or k m) [ same d _ ↦ sym d | apart _ t ↦ absurd (let j = rw t at h in omega arith) ]

    other : (into == n) ≡ false
    other = elim (same_or into n) [ same d t ↦ absurd (false≢true (sym (element-passes u.forest n (is_kind DocumentFragment) element) ∙ ap (is_of_kind DocumentFragment u.forest) (sym d) ∙ fragment)) | apart _ t ↦ t ]

    fragment_aside : among into (ancestors n third.forest) ≡ false
    fragment_aside =
        let q = parent-path third.forest once_third n parent (there_third n hn) under in
        let z : hits into (ancestors parent third.forest) ≡ 0 = ap (hits into) above_third ∙ above_out in
        let ne : n ≡ into → ⊥ = λ d. (elim (same_or into n) [ same _ k ↦ false≢true (sym other ∙ k) | apart far _ ↦ far (sym d) ]) in
        hits-not_among into (ancestors n third.forest) (ap (hits into) q.1 ∙ hits-other into n (ancestors parent third.forest) ne ∙ z)

    fragment-only : (k : Kind) → is_kind DocumentFragment k ≡ true → k ≡ DocumentFragment
    fragment-only DocumentFragment i = refl
    fragment-only Element i = absurd (false≢true i)
    fragment-only Text i = absurd (false≢true i)
    fragment-only Document i = absurd (false≢true i)
    fragment-only DocumentType i = absurd (false≢true i)
    fragment-only ProcessingInstruction i = absurd (false≢true i)
    fragment-only Comment i = absurd (false≢true i)

    fragment-passes : (f : Forest Content) (m : ℕ) (test : Kind → Bool) → is_of_kind DocumentFragment f m ≡ true → kind_passes test f m ≡ test DocumentFragment
    fragment-passes f m test h = go (entry_in f m) h
      where
        go : (o : Option (Entry (Node Content))) → entry_has (is_kind DocumentFragment) o ≡ true → entry_has test o ≡ test DocumentFragment
        go None i = absurd (false≢true i)
        go (Some x) i = ap test (fragment-only x.value.label.kind i)

    fragment_clear : check_insert third.forest n into None ≡ None
    fragment_clear =
        let g = third.forest in
        let en : is_of_kind Element g n ≡ true = kind_third (is_kind Element) n hn ∙ element in
        let fr : is_of_kind DocumentFragment g into ≡ true = kind_third (is_kind DocumentFragment) into hi ∙ fragment in
        let holds : kind_passes may_be_parent g n ≡ true = element-passes g n may_be_parent en in
        let no_document : is_of_kind Document g n ≡ false = element-passes g n (is_kind Document) en in
        let document : is_of_kind Document g into ≡ false = fragment-passes g into (is_kind Document) fr in
        let text : is_of_kind Text g into ≡ false = fragment-passes g into (is_kind Text) fr in
        let doctype : is_of_kind DocumentType g into ≡ false = fragment-passes g into (is_kind DocumentType) fr in
        allowed g n into None (record {
          may_hold = rw holds refl;
          outside = fragment_aside;
          found = refl;
          no_document = document;
          placed = rw (text, doctype) refl;
          fits = rw no_document refl;
        })

    abbrev fourth : World
    fourth = pre_insert into n None third

    held : is_fragment third into ≡ true
    held = kind_third (is_kind DocumentFragment) into hi ∙ fragment

    fragment_ready : IsInsertable third.forest into n (reference_child third into None)
    fragment_ready = insertable third sound_third n into None (there_third into hi) (checks_insert third.forest n into None fragment_clear)

    -- the node is no child of the fragment
    not_held : hits n (nodes_of third into) ≡ 0
    not_held =
        none-or-some n (children_of third.forest into)
        (λ z. ap (hits n) kids ∙ z)
        (λ lt.
        let d : Some parent ≡ Some into = sym under ∙ child-parent third.forest once_third n into lt in
        let same_node : parent ≡ into = cc d in
        let k : 0 < hits into (ancestors parent third.forest) = hits-self parent into third.forest same_node (there_third parent parent_there) in
        let z : hits into (ancestors parent third.forest) ≡ 0 = ap (hits into) above_third ∙ above_out in
        absurd (omega arith))
      where
        kids : nodes_of third into ≡ children_of third.forest into
        kids = rw held refl

    still_under : parent_of fourth.forest n ≡ Some parent
    still_under = (put_by_insert false into n (reference_child third into None) third sound_third fragment_ready).extends.parents n (there_third n hn) not_held ∙ under

    -- the last three steps are not refused
    pub followed : refusal_in (and_then (insert_node r n u) (λ x. and_then (try_pre_insert into n None x) (λ y. try_select r n y))) ≡ None
    followed =
        ap (λ o. refusal_in (and_then o (λ x. and_then (try_pre_insert into n None x) (λ y. try_select r n y)))) inserted_is
        ∙ ap (λ o. refusal_in (and_then o (λ y. try_select r n y))) (unless-none (check_insert third.forest n into None) third (λ v. Ok (pre_insert into n None v)) fragment_clear)
        ∙ ap (λ q. refusal_in (selected r (option_map (λ (m : ℕ). record { start = record { node = m; offset = index_of fourth.forest n }; end = record { node = m; offset = index_of fourth.forest n + 1 } }) q) fourth)) still_under
