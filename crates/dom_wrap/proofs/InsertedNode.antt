-- What an insertion at the start of a live range needs, and what it leaves. DOM Standard, "Interface Range" (insertNode).
use Rattle.std.proofs.Common.{◌≡◌, ℕ, ◌<◌, Bool, true, false, ◌&&◌, not, if◌then◌else◌, List, [], ◌∷◌, Option, Some, None, IfSome, slice_get, slice_index_or, slice_set, length, ◌≤◌, Ok, Err, refl, ap, sym, ◌∙◌, subst, arith, ⊎_elim, unwrap_or, is_none, nat_lt, Result, OnOk, Ordering, Less, Equal, Greater}
use Rattle.std.specs.{Option.ForSome, Ordering.nat_cmp, Cmp.Lexicographic.slice_cmp}
use Rattle.std.proofs.lemmas.{Bool.cases_lt, Bool.false≢true, Bool.Decides.nat_tests, List.get_or_past, List.get_or-set_same, List.length-set, Bool.cond-true, Bool.cond-false}
use Rattle.dom_model.specs.declared.DomError.{DomError}
use Rattle.dom_model.specs.Definitions.{Forest, HasNode, occurs, parent_of, children_of, root_of, Content, Point, Range, IsBoundary, IsRange, IsSound, place_of, order_of, check_insert, is_same, remove, pre_insert, reference_child, is_less, is_before, end_set, check_point, range_at, with_range, is_collapsed, same_root, for_range, Outcome, and_then, unless, is_text, reference_at, parent_by, parent_at, check_start, split_at, reference_after, offset_past, end_if_collapsed, placed_at, inserted_at, insert_node, refusal_in, data_of, split, unit_count, node_length}
use Rattle.dom_model.specs.Worlds.World as model
use Rattle.dom_model.proofs.Forests.{Entries.HasNode-occurs, Entries.occurs-HasNode, Indices.child-there, Indices.child-once, Indices.child-parent, Changes.seen, Changes.nothing, Changes.just}
use Rattle.dom_model.proofs.BoundaryPoints.{PointOrder.nat_cmp-same, PointOrder.nat_cmp-greater, SplitEnds.split_parts}
use Rattle.dom_model.proofs.RangesAndContents.{StartsAhead.got_place, InsertAllowed.insert-allowed, InsertAllowed.insert-done, RangesSet.same-itself}
use Rattle.dom_model.proofs.Soundness.{SoundPlacedNode.Gives, SoundInsertedNode.insert-next, SoundData.length-data, SoundSplitting.text_has_data, SoundRangeSteps.live_range, SoundWorlds.IsLive}
use Rattle.dom_edit.proofs.{RemoveLemmas.parent-held, FollowsLemmas.keeps-unwatched, FollowsLemmas.follows-then, FollowsLemmas.whole-sound, PlacedWorldLemmas.sound-unwatched, InsertLemmas.follows-as, InsertLemmas.forest-after}
use Rattle.dom_model.proofs.MutationAlgorithms.ChecksKept.{refusal-head}
use Rattle.dom_ranges.specs.Tables.{RangeTable, range_in, result_of_check}
use Rattle.dom_edit.specs.{declared.world.World.World, Whole.CoversHeld, Whole.IsWhole, Whole.Keeps, Whole.Follows, Whole.unwatched}
use Rattle.dom_wrap.specs.Outcomes.{world_after_outcome, LeavesSound, MayBePlacedAt, MayEndAt, MayTake}

-- Where a node comes in.

module _ (v : World) (h : IsWhole v) (p : Point) (held : HasNode v.tree.forest p.node) where
  abbrev f : Forest Content
  f = v.tree.forest

  at-child : (c : ℕ) → slice_get (children_of f p.node) p.offset ≡ Some c → (parent_of f c ≡ Some p.node) × HasNode f c
  at-child c e =
      let g = got_place (children_of f p.node) p.offset c (λ m. child-once f h.forest.once m p.node) e in
      (child-parent f h.forest.once c p.node g.1, HasNode-occurs f c (child-there f h.forest.once c p.node g.1))

  reference-text : is_text (unwatched v) p.node ≡ true → reference_at (unwatched v) p ≡ Some p.node
  reference-text e = cond-true (is_text (unwatched v) p.node) (Some p.node) (slice_get (children_of f p.node) p.offset) e

  reference-child : is_text (unwatched v) p.node ≡ false → reference_at (unwatched v) p ≡ slice_get (children_of f p.node) p.offset
  reference-child e = cond-false (is_text (unwatched v) p.node) (Some p.node) (slice_get (children_of f p.node) p.offset) e

  -- what comes after the point is there
  pub reference-held : (o : Option ℕ) → o ≡ reference_at (unwatched v) p → ForSome o (λ c. HasNode f c)
  reference-held o e c d = go (is_text (unwatched v) p.node) refl
    where
      go : (t : Bool) → is_text (unwatched v) p.node ≡ t → HasNode f c
      go true t = let same_number : Some p.node ≡ Some c = sym (reference-text t) ∙ sym e ∙ d in let i : p.node ≡ c = cc same_number in subst (HasNode f) i held
      go false t = (at-child c (sym (reference-child t) ∙ sym e ∙ d)).1

  pub parent-text : is_text (unwatched v) p.node ≡ true → parent_at (unwatched v) p ≡ unwrap_or (parent_of f p.node) p.node
  parent-text e = ap (parent_by (unwatched v) p) (reference-text e)

  pub parent-child : is_text (unwatched v) p.node ≡ false → parent_at (unwatched v) p ≡ p.node
  parent-child e = ap (parent_by (unwatched v) p) (reference-child e) ∙ go (slice_get (children_of f p.node) p.offset) refl
    where
      go : (o : Option ℕ) → slice_get (children_of f p.node) p.offset ≡ o → parent_by (unwatched v) p o ≡ p.node
      go None i = refl
      go (Some c) i = ap (λ o. unwrap_or o p.node) (at-child c i).0

pub held-or : (v : World) → IsWhole v → (n : ℕ) → HasNode v.tree.forest n → (o : Option ℕ) → o ≡ parent_of v.tree.forest n → HasNode v.tree.forest (unwrap_or o n)
held-or v h n held None e = held
held-or v h n held (Some q) e = parent-held v h n q (sym e)

-- The end of a range.

later : (xs ys : List ℕ) → slice_cmp nat_cmp xs ys ≡ Less → slice_cmp nat_cmp ys xs ≡ Greater
later [] [] g = absurd (cc g)
later [] (y ∷ ys) g = refl
later (x ∷ xs) [] g = absurd (cc g)
later (x ∷ xs) (y ∷ ys) g =
    ⊎_elim
    (λ (lt : x < y). rw (nat_cmp-greater y x lt) refl)
    (λ (le : y ≤ x).
    ⊎_elim
    (λ (gt : y < x). absurd (let k = rw (nat_cmp-greater x y gt) at g in cc k))
    (λ (ge : x ≤ y).
    let e : x ≡ y = omega arith in
    let k = rw (e, nat_cmp-same y) at g in
    rw (e, nat_cmp-same y) (later xs ys k))
    (cases_lt y x))
    (cases_lt x y)

not-before : (f : Forest Content) (p q : Point) → (order_of f q p ≡ Greater → ⊥) → not (is_before f p q) ≡ true
not-before f p q h = go (order_of f p q) refl
  where
    go : (o : Ordering) → order_of f p q ≡ o → not (is_less o) ≡ true
    go Less e = absurd (h (later (place_of f p) (place_of f q) e))
    go Equal e = refl
    go Greater e = refl

-- the end alone moves, where that leaves the range in order
pub end-alone : (f : Forest Content) (p : Point) (r : Range) → IsRange f (record r { end = p }) → end_set f p r ≡ record r { end = p }
end-alone f p r h =
    let root : same_root f p.node r.start.node ≡ true = ap (is_same (root_of f p.node)) h.one_root ∙ same-itself (root_of f p.node) in
    let after = not-before f p r.start h.in_order in
    ap (λ (s : Point). record { start = s; end = p }) (cond-true (same_root f p.node r.start.node && not (is_before f p r.start)) r.start p (rw (root, after) refl))

module _ (v : World) (h : IsWhole v) (r : ℕ) (p : Point) (range : Range) (e : range_in v.ranges r ≡ Some range) where
  abbrev grown : Range
  grown = record range { end = p }

  abbrev end_of_range : model.World → Option Range → model.World
  end_of_range w o = for_range o w (λ range. if is_collapsed range then with_range r (record range { end = p }) w else w)

  range-shown : (w : model.World) → Keeps v w → range_at w r ≡ Some range
  range-shown w k = ap (λ (rs : List (Option Range)). slice_index_or rs r None) k.ranges ∙ e

  to-end : (w : model.World) → Keeps v w → is_collapsed range ≡ true → end_if_collapsed r p w ≡ with_range r grown w
  to-end w k c = ap (end_of_range w) (range-shown w k) ∙ cond-true (is_collapsed range) (with_range r grown w) w c

  in-range : r < length v.ranges.ranges
  in-range =
      ⊎_elim
      (λ (lt : r < length v.ranges.ranges). lt)
      (λ (le : length v.ranges.ranges ≤ r). absurd (let k : None ≡ Some range = sym (get_or_past v.ranges.ranges r None le) ∙ e in cc k))
      (cases_lt r (length v.ranges.ranges))

  -- the range that has grown is in order
  pub grown-range : MayEndAt v r p → is_collapsed range ≡ true → IsRange v.tree.forest grown
  grown-range m c =
      let x = m.stands_for in
      let s : IsSound (with_range r grown x) = subst IsSound (to-end x m.keeps c) m.sound in
      let lt : r < length x.ranges = subst (λ (rs : List (Option Range)). r < length rs) (sym m.keeps.ranges) in-range in
      let l = s.ranges r None (subst (λ n. r < n) (sym (length-set x.ranges r (Some grown))) lt) in
      let i = subst (IsLive x.forest) (get_or-set_same x.ranges r (Some grown) None lt) l in
      subst (λ (g : Forest Content). IsRange g grown) m.keeps.forest i

  point-passes : IsBoundary v.tree.forest p → check_point unit_count v.tree.forest p ≡ None
  point-passes b = rw (b.kind, within (node_length unit_count v.tree.forest p.node) p.offset b.within) refl
    where
      within : (whole o : ℕ) → o ≤ whole → nat_lt whole o ≡ false
      within whole o le = grind (arith, nat_tests)

  -- to set the end is not refused
  pub set-done : MayEndAt v r p → is_collapsed range ≡ true → (t : RangeTable) (result : Result (Unit {0}) DomError) → result ≡ result_of_check (check_point unit_count v.tree.forest p) →
      OnOk result (IfSome (range_in v.ranges r) (λ x. t ≡ record v.ranges { ranges = slice_set v.ranges.ranges r (Some (end_set v.tree.forest p x)) })) →
      t ≡ record v.ranges { ranges = slice_set v.ranges.ranges r (Some (end_set v.tree.forest p range)) }
  set-done m c t result i set =
      let passes = i ∙ ap result_of_check (point-passes (grown-range m c).ends) in
      let done = subst (λ (x : Result (Unit {0}) DomError). OnOk x (IfSome (range_in v.ranges r) (λ x. t ≡ record v.ranges { ranges = slice_set v.ranges.ranges r (Some (end_set v.tree.forest p x)) }))) passes set in
      subst (λ (o : Option Range). IfSome o (λ x. t ≡ record v.ranges { ranges = slice_set v.ranges.ranges r (Some (end_set v.tree.forest p x)) })) e done

  module _ (t : RangeTable) (is : t ≡ record v.ranges { ranges = slice_set v.ranges.ranges r (Some (end_set v.tree.forest p range)) }) (m : MayEndAt v r p) (c : is_collapsed range ≡ true) where
    pub follows-ended : Follows v (record v { ranges = t }) (end_if_collapsed r p)
    follows-ended =
        let d = ap (λ (u : RangeTable). u.ranges) is ∙ ap (λ (x : Range). slice_set v.ranges.ranges r (Some x)) (end-alone v.tree.forest p range (grown-range m c)) in
        follows-as v (record v { ranges = t }) (with_range r grown) (end_if_collapsed r p) (λ w k. to-end w k c) (record {
          keeps = λ w k. record {
            forest = k.forest;
            made = k.made;
            ranges = ap (λ (rs : List (Option Range)). slice_set rs r (Some grown)) k.ranges ∙ sym d;
            static_ranges = k.static_ranges;
            iterators = k.iterators;
            walkers = k.walkers;
          };
          watches = λ w k o. o;
        })

    pub whole-ended : IsWhole (record v { ranges = t })
    whole-ended =
        let covers : CoversHeld v.tree t.covered = subst (CoversHeld v.tree) (sym (ap (λ (x : RangeTable). x.covered) is)) h.covered in
        whole-sound (record v { ranges = t }) (end_if_collapsed r p m.stands_for) (follows-ended.keeps m.stands_for m.keeps) m.sound h.documents h.owners covers h.statics h.observers

-- Steps that are not refused.

pub unless-none : (c : Option DomError) (w : model.World) (step : model.World → Outcome) → c ≡ None → and_then (unless c w) step ≡ step w
unless-none None w step i = refl
unless-none (Some d) w step i = absurd (cc i)

pub unless-allows : (c : Option DomError) (w : model.World) (step : model.World → Outcome) → refusal_in (and_then (unless c w) step) ≡ None → (c ≡ None) × (refusal_in (step w) ≡ None)
unless-allows None w step i = (refl, i)
unless-allows (Some d) w step i = absurd (cc i)

pub left-alike : (o : Outcome) → refusal_in o ≡ None → (a b : model.World) → world_after_outcome o a ≡ world_after_outcome o b
left-alike (Ok w) i a b = refl
left-alike (Err d) i a b = absurd (cc i)

-- the node comes in where its check passes
pub placed-is : (r n parent : ℕ) (reference : Option ℕ) (w : model.World) → check_insert (remove false n w).forest parent n reference ≡ None →
    placed_at r n parent reference w ≡ Ok (end_if_collapsed r (record { node = parent; offset = offset_past (remove false n w) parent reference n }) (pre_insert n parent reference (remove false n w)))
placed-is r n parent reference w i =
    let out = remove false n w in
    let point : Point = record { node = parent; offset = offset_past out parent reference n } in
    ap (λ (o : Outcome). and_then o (λ v. Ok (end_if_collapsed r point v))) (unless-none (check_insert out.forest parent n reference) out (λ v. Ok (pre_insert n parent reference v)) i)

-- a node that may be placed passes once it is taken out
pub passes-out : (a out : World) (r n parent : ℕ) (reference : Option ℕ) → Follows a out (remove false n) → MayBePlacedAt a r n parent reference → check_insert out.tree.forest parent n reference ≡ None
passes-out a out r n parent reference f m = sym (ap (λ (g : Forest Content). check_insert g parent n reference) (f.keeps m.stands_for m.keeps).forest) ∙ m.passes

-- an old world, that without the node, and that in which the node has come in
module _ (a out placed : World) (r n parent : ℕ) (reference : Option ℕ) (offset : ℕ)
    (f : Follows a out (remove false n)) (at : offset ≡ offset_past (unwatched out) parent reference n) where
  abbrev behind : Point
  behind = record { node = parent; offset = offset }

  abbrev outside : model.World → model.World
  outside w = remove false n w

  point-is : (w : model.World) → Keeps a w → record { node = parent; offset = offset_past (outside w) parent reference n } ≡ behind
  point-is w k =
      let forest = (f.keeps w k).forest in
      let e : offset_past (outside w) parent reference n ≡ offset_past (unwatched out) parent reference n = offset-past-alike (outside w) (unwatched out) forest reference in
      ap (λ (o : ℕ). record { node = parent; offset = o }) (e ∙ sym at)
    where
      offset-past-alike : (u x : model.World) → u.forest ≡ x.forest → (o : Option ℕ) → offset_past u parent o n ≡ offset_past x parent o n
      offset-past-alike u x i None = rw i refl
      offset-past-alike u x i (Some b) = rw i refl

  placed-so : (passes : check_insert out.tree.forest parent n reference ≡ None) (w : model.World) → Keeps a w → placed_at r n parent reference w ≡ Ok (end_if_collapsed r behind (pre_insert n parent reference (outside w)))
  placed-so passes w k =
      placed-is r n parent reference w (ap (λ (g : Forest Content). check_insert g parent n reference) (f.keeps w k).forest ∙ passes)
      ∙ ap (λ (q : Point). Ok (end_if_collapsed r q (pre_insert n parent reference (outside w)))) (point-is w k)

  module _ (passes : check_insert out.tree.forest parent n reference ≡ None) where
    pub placed-allowed : (w : model.World) → Keeps a w → refusal_in (placed_at r n parent reference w) ≡ None
    placed-allowed w k = ap refusal_in (placed-so passes w k)

    module _ (g : Follows out placed (pre_insert n parent reference)) where
      pub may-end : MayBePlacedAt a r n parent reference → MayEndAt placed r behind
      may-end m = record {
        stands_for = pre_insert n parent reference (outside m.stands_for);
        keeps = g.keeps (outside m.stands_for) (f.keeps m.stands_for m.keeps);
        sound = subst LeavesSound (placed-so passes m.stands_for m.keeps) m.sound;
      }

      pub follows-placed : (new : World) → Follows placed new (end_if_collapsed r behind) → Follows a new (λ w. world_after_outcome (placed_at r n parent reference w) w)
      follows-placed new last =
          follows-as a new (λ w. end_if_collapsed r behind (pre_insert n parent reference (outside w))) (λ w. world_after_outcome (placed_at r n parent reference w) w)
          (λ w k. ap (λ (o : Outcome). world_after_outcome o w) (placed-so passes w k))
          (follows-then a placed new (λ w. pre_insert n parent reference (outside w)) (end_if_collapsed r behind) (follows-then a out placed (outside) (pre_insert n parent reference) f g) last)

-- Steps that look at what is kept alone.

leaves : (w : model.World) (o : Outcome) → Gives w o → LeavesSound o
leaves w (Ok v) g = g.sound
leaves w (Err d) g = tt

module _ (a : World) (p : Point) (w : model.World) (k : Keeps a w) where
  abbrev with_forest : Forest Content → model.World
  with_forest g = record (unwatched a) { forest = g }

  pub start-alike : (n : ℕ) → check_start w p n ≡ check_start (unwatched a) p n
  start-alike n = ap (λ (g : Forest Content). check_start (with_forest g) p n) k.forest

  pub parent-alike : parent_at w p ≡ parent_at (unwatched a) p
  parent-alike = ap (λ (g : Forest Content). parent_at (with_forest g) p) k.forest

  pub reference-alike : reference_at w p ≡ reference_at (unwatched a) p
  reference-alike = ap (λ (g : Forest Content). reference_at (with_forest g) p) k.forest

  after-alike : reference_after w p ≡ reference_after (unwatched a) p
  after-alike =
      ap (λ (g : Forest Content). reference_after (record w { forest = g }) p) k.forest
      ∙ ap (λ (m : ℕ). reference_after (record (unwatched a) { made = m }) p) k.made

  child-alike : (n : ℕ) (b : Option ℕ) → reference_child w n b ≡ reference_child (unwatched a) n b
  child-alike n b = ap (λ (g : Forest Content). reference_child (with_forest g) n b) k.forest

-- an insertion at the start of a range that is not refused passes both checks
pub checks-passed : (a : World) (r n : ℕ) (range : Range) → range_in a.ranges r ≡ Some range → MayTake a (insert_node r n) →
    (check_start (unwatched a) range.start n ≡ None) × (check_insert a.tree.forest (parent_at (unwatched a) range.start) n (reference_at (unwatched a) range.start) ≡ None)
checks-passed a r n range e m =
    let w = m.stands_for in
    let k = m.keeps in
    let p = range.start in
    let at : range_at w r ≡ Some range = ap (λ (rs : List (Option Range)). slice_index_or rs r None) k.ranges ∙ e in
    let j : refusal_in (inserted_at r n p w) ≡ None = sym (ap (λ (o : Option Range). refusal_in (for_range o (Ok w) (λ (x : Range). inserted_at r n x.start w))) at) ∙ m.passes in
    let x = unless-allows (check_start w p n) w _ j in
    let y = unless-allows (check_insert w.forest (parent_at w p) n (reference_at w p)) w _ x.1 in
    let alike : check_insert w.forest (parent_at w p) n (reference_at w p) ≡ check_insert a.tree.forest (parent_at (unwatched a) p) n (reference_at (unwatched a) p) =
    ap (λ (g : Forest Content). check_insert g (parent_at w p) n (reference_at w p)) k.forest
    ∙ ap (λ (q : ℕ). check_insert a.tree.forest q n (reference_at w p)) (parent-alike a p w k)
    ∙ ap (check_insert a.tree.forest (parent_at (unwatched a) p) n) (reference-alike a p w k) in
    (sym (start-alike a p w k n) ∙ x.0, sym alike ∙ y.0)

-- and one that passes both is not refused
pub insert-passes : (a : World) → IsWhole a → (r n : ℕ) (range : Range) → range_in a.ranges r ≡ Some range → HasNode a.tree.forest n → check_start (unwatched a) range.start n ≡ None →
    check_insert a.tree.forest (parent_at (unwatched a) range.start) n (reference_at (unwatched a) range.start) ≡ None → refusal_in (insert_node r n (unwatched a)) ≡ None
insert-passes a h r n range e held start passes =
    let u = unwatched a in
    ap (λ (o : Option Range). refusal_in (for_range o (Ok u) (λ (x : Range). inserted_at r n x.start u))) e ∙ ap refusal_in (insert-done u h.forest n held range.start start passes r).1

pub may-insert : (a : World) → IsWhole a → (r n : ℕ) (range : Range) → range_in a.ranges r ≡ Some range → HasNode a.tree.forest n → check_start (unwatched a) range.start n ≡ None →
    check_insert a.tree.forest (parent_at (unwatched a) range.start) n (reference_at (unwatched a) range.start) ≡ None → MayTake a (insert_node r n)
may-insert a h r n range e held start passes = record { stands_for = unwatched a; keeps = keeps-unwatched a; passes = insert-passes a h r n range e held start passes }

-- a node comes in at the start of a range
module _ (a mid : World) (h : IsWhole a) (r n : ℕ) (p : Point) (range : Range) (e : range_in a.ranges r ≡ Some range) (at : p ≡ range.start) (held : HasNode a.tree.forest n)
    (start : check_start (unwatched a) p n ≡ None) (passes : check_insert a.tree.forest (parent_at (unwatched a) p) n (reference_at (unwatched a) p) ≡ None)
    (f : Follows a mid (split_at p)) where
  abbrev u : model.World
  u = unwatched a

  abbrev placed_from : model.World → Outcome
  placed_from w = placed_at r n (parent_at w p) (reference_child (split_at p w) n (reference_after w p)) (split_at p w)

  inserted-so : (w : model.World) → Keeps a w → insert_node r n w ≡ placed_from w
  inserted-so w k =
      ap (λ (o : Option Range). for_range o (Ok w) (λ (x : Range). inserted_at r n x.start w)) (range-shown a h r p range e w k)
      ∙ ap (λ (q : Point). inserted_at r n q w) (sym at)
      ∙ unless-none (check_start w p n) w _ (start-alike a p w k n ∙ start)
      ∙ unless-none (check_insert w.forest (parent_at w p) n (reference_at w p)) w _
      (ap (λ (g : Forest Content). check_insert g (parent_at w p) n (reference_at w p)) k.forest
      ∙ ap (λ (q : ℕ). check_insert a.tree.forest q n (reference_at w p)) (parent-alike a p w k)
      ∙ ap (check_insert a.tree.forest (parent_at u p) n) (reference-alike a p w k) ∙ passes)

  text-within : IsRange a.tree.forest range → is_text u p.node ≡ true → p.offset ≤ length (data_of u p.node)
  text-within i t =
      let b : IsBoundary a.tree.forest p = subst (IsBoundary a.tree.forest) (sym at) i.starts in
      let within = b.within in
      let j = length-data a.tree.forest p.node (text_has_data u p.node t) in
      omega arith

  start-held : HasNode a.tree.forest p.node
  start-held =
      let i = subst (IsLive a.tree.forest) e (live_range u (sound-unwatched a h) r) in
      subst (λ (q : Point). HasNode a.tree.forest q.node) (sym at) i.starts.there

  there-split : 0 < occurs n (split_at p u).forest
  there-split = go (is_text u p.node) refl
    where
      hn : 0 < occurs n a.tree.forest
      hn = occurs-HasNode a.tree.forest n held

      live : IsRange a.tree.forest range
      live = subst (IsLive a.tree.forest) e (live_range u (sound-unwatched a h) r)

      go : (t : Bool) → is_text u p.node ≡ t → 0 < occurs n (split_at p u).forest
      go false t = subst (λ (x : model.World). 0 < occurs n x.forest) (sym (cond-false (is_text u p.node) (split p.node p.offset u) u t)) hn
      go true t =
          subst (λ (x : model.World). 0 < occurs n x.forest) (sym (cond-true (is_text u p.node) (split p.node p.offset u) u t))
          (elim (seen (parent_of a.tree.forest p.node)) [
            | nothing d ↦ absurd (let k : (is_text u p.node && is_none (parent_of a.tree.forest p.node)) ≡ false = (refusal-head _ _ _ (refusal-head _ _ _ start).1).0 in let j = rw (t, d) at k in false≢true (sym j))
            | just q d ↦ (split_parts p.node q p.offset u (sound-unwatched a h) (occurs-HasNode a.tree.forest p.node start-held) t d (text-within live t)).there n hn
          ])

  pub held-split : HasNode mid.tree.forest n
  held-split = HasNode-occurs mid.tree.forest n (subst (λ (g : Forest Content). 0 < occurs n g) (sym (forest-after a mid (split_at p) f)) there-split)

  module _ (parent : ℕ) (after reference : Option ℕ) (ep : parent ≡ parent_at u p) (ea : after ≡ reference_after u p) (er : reference ≡ reference_child (unwatched mid) n after) where
    reference-is : (w : model.World) → Keeps a w → reference_child (split_at p w) n (reference_after w p) ≡ reference
    reference-is w k =
        ap (reference_child (split_at p w) n) (after-alike a p w k ∙ sym ea)
        ∙ child-alike mid p (split_at p w) (f.keeps w k) n after ∙ sym er

    placed-from : (w : model.World) → Keeps a w → insert_node r n w ≡ placed_at r n parent reference (split_at p w)
    placed-from w k =
        inserted-so w k
        ∙ ap (λ (q : ℕ). placed_at r n q (reference_child (split_at p w) n (reference_after w p)) (split_at p w)) (parent-alike a p w k ∙ sym ep)
        ∙ ap (λ (b : Option ℕ). placed_at r n parent b (split_at p w)) (reference-is w k)

    pub placeable : MayBePlacedAt mid r n parent reference
    placeable = record {
      stands_for = split_at p u;
      keeps = f.keeps u (keeps-unwatched a);
      passes =
          let g = (remove false n (split_at p u)).forest in
          ap (λ (q : ℕ). check_insert g q n reference) ep
          ∙ ap (check_insert g (parent_at u p) n) (sym (reference-is u (keeps-unwatched a)))
          ∙ insert-allowed u h.forest n held p start passes;
      sound = subst LeavesSound (placed-from u (keeps-unwatched a)) (leaves u (insert_node r n u) (insert-next r n u (sound-unwatched a h) (occurs-HasNode a.tree.forest n held)));
    }

    module _ (allowed : (w : model.World) → Keeps mid w → refusal_in (placed_at r n parent reference w) ≡ None) where
      pub insert-allowed-so : refusal_in (insert_node r n u) ≡ None
      insert-allowed-so = ap refusal_in (placed-from u (keeps-unwatched a)) ∙ allowed (split_at p u) (f.keeps u (keeps-unwatched a))

      pub follows-inserted : (new : World) → Follows mid new (λ w. world_after_outcome (placed_at r n parent reference w) w) → Follows a new (λ w. world_after_outcome (insert_node r n w) w)
      follows-inserted new last =
          follows-as a new (λ w. world_after_outcome (placed_at r n parent reference (split_at p w)) (split_at p w)) (λ w. world_after_outcome (insert_node r n w) w)
          (λ w k. ap (λ (o : Outcome). world_after_outcome o w) (placed-from w k) ∙ left-alike (placed_at r n parent reference (split_at p w)) (allowed (split_at p w) (f.keeps w k)) w (split_at p w))
          (follows-then a mid new (split_at p) (λ w. world_after_outcome (placed_at r n parent reference w) w) f last)
