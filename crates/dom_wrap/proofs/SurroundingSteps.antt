-- The steps that surround the contents of a live range, and what is there between them. DOM Standard, "Interface Range" (surroundContents).
use Rattle.std.proofs.Common.{◌≡◌, ℕ, ◌+◌, ◌<◌, Bool, true, false, ◌||◌, if◌then◌else◌, List, [], ◌∷◌, Option, Some, None, IfSome, option_map, slice_index_or, slice_set, is_some, is_none, Ok, Err, refl, ap, sym, ◌∙◌, subst, IsSome, Result, OnOk}
use Rattle.dom_model.specs.declared.{DomError.DomError, DomError.TheVariants.InvalidNodeTypeError}
use Rattle.dom_model.specs.Definitions.{first_refusal, Forest, HasNode, occurs, parent_of, children_of, index_of, IsForest, Content, Range, IsRange, IsSound, check_insert, pre_insert, append, remove_all, replaced_record, replace_all, is_collapsed, collapsed_at, around, check_parent, range_at, with_range, for_range, is_in_one_data, new_place, contents_drawn, check_extract, extracted, extract, Outcome, and_then, unless, try_pre_insert, check_start, parent_at, reference_at, inserted_at, insert_node, check_surround, try_extract, selected, try_select, surrounded, surround, refusal_in, check_whole_surround}
use Rattle.dom_model.specs.Worlds.World as model
use Rattle.dom_model.proofs.Forests.{Changes.seen, Changes.nothing, Changes.just, Entries.HasNode-occurs, Entries.occurs-HasNode, Indices.child-there}
use Rattle.dom_model.proofs.MutationAlgorithms.{Loosened.loosened-remove_all, Extending.put_by_insert}
use Rattle.dom_model.proofs.RangesAndContents.{InsertAllowed.insert-done, LiveRangesKept.is_live, LiveRangesKept.live-there, LiveRangesKept.append-live, LiveRangesKept.replace_all-live, LiveRangesKept.with_range-live, RangesSet.range_selected}
use Rattle.dom_model.proofs.Soundness.{SoundEditing.checks_insert, SoundEditing.insertable, SoundRangeSteps.sound-with_range}
use Rattle.dom_model.proofs.TokenText.{EditsMade.EditsOfDrawnContents.sound-range, EditsMade.EditsOfDrawnContents.check-range, EditsMade.EditsOfDrawnContents.there-contents_drawn, EditsMade.EditsOfDrawnContents.fragment-contents_drawn, EditsMade.EditsOfDrawnContents.live-contents_drawn, EditsMade.EditsOfInsertedNodes.kept-insert_node}
use Rattle.dom_ranges.specs.Tables.{RangeTable, range_in}
use Rattle.dom_edit.specs.{declared.world.World.World, KeptNodes.present, Whole.CoversHeld, Whole.IsWhole, Whole.Keeps, Whole.Follows, Whole.unwatched}
use Rattle.dom_edit.proofs.{FollowsLemmas.keeps-unwatched, FollowsLemmas.follows-then, FollowsLemmas.whole-sound, RemoveLemmas.sound-unwatched, RemoveLemmas.it_is, InsertLemmas.follows-as, KeepsWatchersLemmas.present-set}
use Rattle.dom_wrap.specs.Outcomes.{world_after_outcome, Passes, MayTake, put_around}
use Rattle.dom_wrap.proofs.InsertedNode.{unless-none, unless-allows, left-alike, start-alike, parent-alike, reference-alike}

-- Steps that are not refused.

pub on-ok_both : {E P Q R : Type 0} (o : Result (Unit {0}) E) → (P → Q → R) → OnOk o P → OnOk o Q → OnOk o R
on-ok_both (Ok u) f p q = f p q
on-ok_both (Err e) f p q = tt

pub ok-left : (o : Outcome) → refusal_in o ≡ None → (w : model.World) → o ≡ Ok (world_after_outcome o w)
ok-left (Ok v) i w = refl
ok-left (Err d) i w = absurd (cc i)

pub passes-as : (a b : World) (s t : model.World → Outcome) → ((w : model.World) → Keeps a w → t w ≡ s w) → Passes a b s → Passes a b t
passes-as a b s t e p = record {
  allowed = λ w k. ap refusal_in (e w k) ∙ p.allowed w k;
  follows = follows-as a b (λ w. world_after_outcome (s w) w) (λ w. world_after_outcome (t w) w) (λ w k. ap (λ (o : Outcome). world_after_outcome o w) (e w k)) p.follows;
}

-- a step that is never refused
pub passes-step : (a b : World) (step : model.World → model.World) → Follows a b step → Passes a b (λ w. Ok (step w))
passes-step a b step f = record { allowed = λ w k. refl; follows = f }

-- a step behind a check that passes
pub passes-checked : (a b : World) (check : model.World → Option DomError) (step : model.World → model.World) → ((w : model.World) → Keeps a w → check w ≡ None) → Follows a b step → Passes a b (λ w. and_then (unless (check w) w) (λ v. Ok (step v)))
passes-checked a b check step c f =
    passes-as a b (λ w. Ok (step w)) (λ w. and_then (unless (check w) w) (λ v. Ok (step v))) (λ w k. unless-none (check w) w (λ v. Ok (step v)) (c w k)) (passes-step a b step f)

-- one after another
module _ (a b c : World) (first second : model.World → Outcome) (p : Passes a b first) (q : Passes b c second) where
  abbrev left : model.World → model.World
  left w = world_after_outcome (first w) w

  joined : (w : model.World) → Keeps a w → and_then (first w) second ≡ second (left w)
  joined w k = ap (λ (o : Outcome). and_then o second) (ok-left (first w) (p.allowed w k) w)

  pub passes-then : Passes a c (λ w. and_then (first w) second)
  passes-then = record {
    allowed = λ w k. ap refusal_in (joined w k) ∙ q.allowed (left w) (p.follows.keeps w k);
    follows =
        follows-as a c (λ w. world_after_outcome (second (left w)) (left w)) (λ w. world_after_outcome (and_then (first w) second) w)
        (λ w k. ap (λ (o : Outcome). world_after_outcome o w) (joined w k) ∙ left-alike (second (left w)) (q.allowed (left w) (p.follows.keeps w k)) w (left w))
        (follows-then a b c left (λ w. world_after_outcome (second w) w) p.follows q.follows);
  }

-- Steps that are not refused, one after another.

first-taken : (o : Outcome) (step : model.World → Outcome) → refusal_in (and_then o step) ≡ None → refusal_in o ≡ None
first-taken (Ok w) step i = refl
first-taken (Err d) step i = i

next-taken : (o : Outcome) (step : model.World → Outcome) (w : model.World) → refusal_in (and_then o step) ≡ None → refusal_in (step (world_after_outcome o w)) ≡ None
next-taken (Ok v) step w i = i
next-taken (Err d) step w i = absurd (cc i)

pub take-first : (a : World) (first second : model.World → Outcome) → MayTake a (λ w. and_then (first w) second) → MayTake a first
take-first a first second m = record { stands_for = m.stands_for; keeps = m.keeps; passes = first-taken (first m.stands_for) second m.passes }

pub take-next : (a b : World) (first second : model.World → Outcome) → MayTake a (λ w. and_then (first w) second) → Follows a b (λ w. world_after_outcome (first w) w) → MayTake b second
take-next a b first second m f = record {
  stands_for = world_after_outcome (first m.stands_for) m.stands_for;
  keeps = f.keeps m.stands_for m.keeps;
  passes = next-taken (first m.stands_for) second m.stands_for m.passes;
}

-- a step that is never refused
pub take-step : (a b : World) (step : model.World → model.World) (next : model.World → Outcome) → MayTake a (λ w. next (step w)) → Follows a b step → MayTake b next
take-step a b step next m f = record { stands_for = step m.stands_for; keeps = f.keeps m.stands_for m.keeps; passes = m.passes }

pub insert-passes : (b : World) (n fragment : ℕ) → MayTake b (try_pre_insert fragment n None) → check_insert b.tree.forest n fragment None ≡ None
insert-passes b n fragment m =
    let w = m.stands_for in
    ap (λ (g : Forest Content). check_insert g n fragment None) (sym m.keeps.forest) ∙ (unless-allows (check_insert w.forest n fragment None) w (λ v. Ok (pre_insert fragment n None v)) m.passes).0

pub parent-passes-there : (d : World) (r n : ℕ) → MayTake d (try_select r n) → check_parent d.tree.forest n ≡ None
parent-passes-there d r n m = ap (λ (g : Forest Content). check_parent g n) (sym m.keeps.forest) ∙ go (parent_of w.forest n) m.passes
  where
    w : model.World
    w = m.stands_for

    ends_in : ℕ → Range
    ends_in parent = record {
      start = record { node = parent; offset = index_of w.forest n };
      end = record { node = parent; offset = index_of w.forest n + 1 };
    }

    go : (o : Option ℕ) → refusal_in (selected r (option_map ends_in o) w) ≡ None → first_refusal ((is_none o, InvalidNodeTypeError) ∷ []) ≡ None
    go None i = absurd (cc i)
    go (Some p) i = refl

-- What stays.

-- nodes that are there, and a live range
pub record Stays (a b : World) (r : ℕ) : Type 0 where
  pub nodes : (m : ℕ) → HasNode a.tree.forest m → HasNode b.tree.forest m
  pub live : IsSome (range_in a.ranges r) → IsSome (range_in b.ranges r)

stays-by : (a b : World) (r : ℕ) (u : model.World) → Keeps b u → ((m : ℕ) → 0 < occurs m a.tree.forest → 0 < occurs m u.forest) → (is_live r (unwatched a) ≡ true → is_live r u ≡ true) → Stays a b r
stays-by a b r u k there live = record {
  nodes = λ m h. HasNode-occurs b.tree.forest m (subst (λ (g : Forest Content). 0 < occurs m g) k.forest (there m (occurs-HasNode a.tree.forest m h)));
  live = λ h. subst (λ (rs : List (Option Range)). is_some (slice_index_or rs r None) ≡ true) k.ranges (live h);
}

-- The contents go into a fragment.

-- with all nodes that were there, and a new fragment
record IsExtracted (r : ℕ) (w v : model.World) : Type 0 where
  there : (m : ℕ) → 0 < occurs m w.forest → 0 < occurs m v.forest
  fragment : 0 < occurs w.made v.forest
  live : is_live r v ≡ true

kept-extract : (r : ℕ) (range : Range) (w : model.World) → IsSound w → range_at w r ≡ Some range → check_extract r w ≡ None → IsExtracted r w (extract r w)
kept-extract r range w s e c =
    subst (λ (o : Option Range). IsExtracted r w (for_range o w (λ range. extracted r range w))) (sym e) (go (is_collapsed range || is_in_one_data w range))
  where
    h : IsRange w.forest range
    h = sound-range w r range s e

    live : is_live r (contents_drawn true range w) ≡ true
    live = live-contents_drawn w s range h (check-range w r range e c) true r ∙ ap is_some e

    there : (m : ℕ) → 0 < occurs m w.forest → 0 < occurs m (contents_drawn true range w).forest
    there = there-contents_drawn w s range h (check-range w r range e c) true

    fragment : 0 < occurs w.made (contents_drawn true range w).forest
    fragment = fragment-contents_drawn w s range h (check-range w r range e c) true

    go : (v : Bool) → IsExtracted r w (if v then contents_drawn true range w else with_range r (collapsed_at (new_place w.forest range)) (contents_drawn true range w))
    go true = record { there = there; fragment = fragment; live = live }
    go false = record { there = there; fragment = fragment; live = with_range-live r (collapsed_at (new_place w.forest range)) (contents_drawn true range w) live }

module _ (a b : World) (h : IsWhole a) (r : ℕ) (held : IsSome (range_in a.ranges r)) (c : check_extract r (unwatched a) ≡ None) (f : Follows a b (extract r)) where
  abbrev u : model.World
  u = unwatched a

  extract-alike : (w : model.World) → Keeps a w → check_extract r w ≡ check_extract r u
  extract-alike w k =
      ap (λ (g : Forest Content). check_extract r (record u { forest = g; ranges = w.ranges })) k.forest
      ∙ ap (λ (rs : List (Option Range)). check_extract r (record u { ranges = rs })) k.ranges

  pub passes-extracted : Passes a b (try_extract r)
  passes-extracted = passes-checked a b (check_extract r) (extract r) (λ w k. extract-alike w k ∙ c) f

  is-extracted : IsExtracted r u (extract r u)
  is-extracted = let old = live-there r u held in kept-extract r old.0 u (sound-unwatched a h) old.1 c

  pub stays-extracted : Stays a b r
  stays-extracted = let k = is-extracted in stays-by a b r (extract r u) (f.keeps u (keeps-unwatched a)) k.there (λ _. k.live)

  pub fragment-there : HasNode b.tree.forest a.tree.made
  fragment-there =
      let k = is-extracted in
      HasNode-occurs b.tree.forest a.tree.made (subst (λ (g : Forest Content). 0 < occurs a.tree.made g) (f.keeps u (keeps-unwatched a)).forest k.fragment)

-- The children of a node go.

pub stays-emptied : (a b : World) → IsWhole a → (r n : ℕ) → Follows a b (replace_all None n) → Stays a b r
stays-emptied a b h r n f =
    stays-by a b r (replace_all None n u) (f.keeps u (keeps-unwatched a)) there (λ i. replace_all-live r None n u ∙ i)
  where
    u : model.World
    u = unwatched a

    ns : List ℕ
    ns = children_of a.tree.forest n

    same_forest : (removed : List ℕ) (v : model.World) → (replaced_record n [] removed v).forest ≡ v.forest
    same_forest [] v = refl
    same_forest (m ∷ ms) v = refl

    there : (m : ℕ) → 0 < occurs m a.tree.forest → 0 < occurs m (replace_all None n (unwatched a)).forest
    there m i =
        let k = loosened-remove_all (children_of a.tree.forest n) (unwatched a) (sound-unwatched a h) (λ c j. child-there a.tree.forest h.forest.once c n j) in
        subst (λ (g : Forest Content). 0 < occurs m g) (sym (same_forest (children_of a.tree.forest n) (remove_all (children_of a.tree.forest n) (unwatched a)))) (subst (λ x. 0 < x) (sym (k.numbers m)) i)

-- The node comes in.

module _ (a b : World) (h : IsWhole a) (r n : ℕ) (held : HasNode a.tree.forest n) (i : refusal_in (insert_node r n (unwatched a)) ≡ None) (f : Follows a b (λ w. world_after_outcome (insert_node r n w) w)) where
  abbrev before : model.World
  before = unwatched a

  same_range : (w : model.World) → Keeps a w → range_at w r ≡ range_at before r
  same_range w k = ap (λ (rs : List (Option Range)). slice_index_or rs r None) k.ranges

  allowed-at : (range : Range) → refusal_in (inserted_at r n range.start before) ≡ None → (w : model.World) → Keeps a w → refusal_in (inserted_at r n range.start w) ≡ None
  allowed-at range j w k =
      let p = range.start in
      let x = unless-allows (check_start before p n) before _ j in
      let y = unless-allows (check_insert a.tree.forest (parent_at before p) n (reference_at before p)) before _ x.1 in
      let start : check_start w p n ≡ None = start-alike a p w k n ∙ x.0 in
      let passes : check_insert w.forest (parent_at w p) n (reference_at w p) ≡ None =
      ap (λ (g : Forest Content). check_insert g (parent_at w p) n (reference_at w p)) k.forest
      ∙ ap (λ (q : ℕ). check_insert a.tree.forest q n (reference_at w p)) (parent-alike a p w k)
      ∙ ap (check_insert a.tree.forest (parent_at before p) n) (reference-alike a p w k) ∙ y.0 in
      let d = insert-done w (forest-kept w k) n (subst (λ (g : Forest Content). HasNode g n) (sym k.forest) held) p start passes r in
      ap refusal_in d.1
    where
      forest-kept : (w : model.World) → Keeps a w → IsForest {X = Content} (record { forest = w.forest; made = w.made })
      forest-kept w k = rw (k.forest, k.made) h.forest

  insert-allowed : (w : model.World) → Keeps a w → refusal_in (insert_node r n w) ≡ None
  insert-allowed w k = go (range_at before r) refl i
    where
      go : (o : Option Range) → range_at before r ≡ o → refusal_in (for_range o (Ok before) (λ range. inserted_at r n range.start before)) ≡ None → refusal_in (insert_node r n w) ≡ None
      go None e j = ap (λ (o : Option Range). refusal_in (for_range o (Ok w) (λ range. inserted_at r n range.start w))) (same_range w k ∙ e)
      go (Some range) e j = ap (λ (o : Option Range). refusal_in (for_range o (Ok w) (λ range. inserted_at r n range.start w))) (same_range w k ∙ e) ∙ allowed-at range j w k

  pub passes-inserted : Passes a b (insert_node r n)
  passes-inserted = record { allowed = insert-allowed; follows = f }

  pub stays-inserted : Stays a b r
  stays-inserted =
      let v = world_after_outcome (insert_node r n before) before in
      let k = kept-insert_node r n before v (sound-unwatched a h) (occurs-HasNode a.tree.forest n held) (ok-left (insert_node r n before) i before) in
      stays-by a b r v (f.keeps before (keeps-unwatched a)) k.there k.live

-- The node takes in the fragment.

module _ (a b : World) (h : IsWhole a) (r n fragment : ℕ) (held : HasNode a.tree.forest fragment) (c : check_insert a.tree.forest n fragment None ≡ None) (f : Follows a b (append fragment n)) where
  pub passes-appended : Passes a b (try_pre_insert fragment n None)
  passes-appended =
      passes-checked a b (λ w. check_insert w.forest n fragment None) (pre_insert fragment n None)
      (λ w k. ap (λ (g : Forest Content). check_insert g n fragment None) k.forest ∙ c) f

  pub stays-appended : Stays a b r
  stays-appended =
      let u = unwatched a in
      let s = sound-unwatched a h in
      let there = occurs-HasNode a.tree.forest fragment held in
      let put = put_by_insert false fragment n None u s (insertable u s n fragment None there (checks_insert a.tree.forest n fragment None c)) in
      stays-by a b r (append fragment n u) (f.keeps u (keeps-unwatched a)) (λ m i. put.extends.there m i) (λ i. append-live r fragment n u ∙ i)

-- The range goes around the node.

around-there : (f : Forest Content) (n : ℕ) → check_parent f n ≡ None → (ends : Range) × (around f n ≡ Some ends)
around-there f n h =
    elim (seen (parent_of f n)) [
      | nothing e ↦ absurd (let k : Some InvalidNodeTypeError ≡ None = sym (ap (λ (p : Option ℕ). first_refusal ((is_none p, InvalidNodeTypeError) ∷ [])) e) ∙ h in cc k)
      | just p e ↦ (ends_in p, ap (option_map ends_in) e)
    ]
  where
    ends_in : ℕ → Range
    ends_in parent = record {
      start = record { node = parent; offset = index_of f n };
      end = record { node = parent; offset = index_of f n + 1 };
    }

module _ (v : World) (h : IsWhole v) (r n : ℕ) (t : RangeTable) (ends : Range) (e : around v.tree.forest n ≡ Some ends) (is : t ≡ record v.ranges { ranges = slice_set v.ranges.ranges r (Some ends) }) where
  abbrev around_it : World
  around_it = record v { ranges = t }

  follows-ends : Follows v around_it (with_range r ends)
  follows-ends = record {
    keeps = λ w k. record {
      forest = k.forest;
      made = k.made;
      ranges = ap (λ (rs : List (Option Range)). slice_set rs r (Some ends)) k.ranges ∙ sym (ap (λ (x : RangeTable). x.ranges) is);
      static_ranges = k.static_ranges;
      iterators = k.iterators;
      walkers = k.walkers;
    };
    watches = λ w k o. o;
  }

  ends-selected : Passes v around_it (try_select r n)
  ends-selected =
      passes-as v around_it (λ w. Ok (with_range r ends w)) (try_select r n)
      (λ w k. ap (λ (o : Option Range). selected r o w) (ap (λ (g : Forest Content). around g n) k.forest ∙ e))
      (passes-step v around_it (with_range r ends) follows-ends)

  ends-whole : IsWhole around_it
  ends-whole =
      let u = unwatched v in
      let s = sound-unwatched v h in
      let i : IsRange v.tree.forest ends = subst (λ (o : Option Range). IfSome o (IsRange v.tree.forest)) e (range_selected s.forest n) in
      let covers : CoversHeld v.tree t.covered = subst (CoversHeld v.tree) (sym (ap (λ (x : RangeTable). x.covered) is)) h.covered in
      whole-sound around_it (with_range r ends u) (follows-ends.keeps u (keeps-unwatched v)) (sound-with_range r ends u s i) h.documents h.owners covers h.statics h.observers

module _ (v : World) (h : IsWhole v) (r n : ℕ) (t : RangeTable) (allowed : check_parent v.tree.forest n ≡ None)
    (set : IfSome (around v.tree.forest n) (λ range. t ≡ record v.ranges { ranges = slice_set v.ranges.ranges r (Some range) })) where
  there : (ends : Range) × (around v.tree.forest n ≡ Some ends)
  there = around-there v.tree.forest n allowed

  table : t ≡ record v.ranges { ranges = slice_set v.ranges.ranges r (Some there.0) }
  table = it_is (λ (range : Range). t ≡ record v.ranges { ranges = slice_set v.ranges.ranges r (Some range) }) (around v.tree.forest n) there.0 there.1 set

  pub passes-selected : Passes v (record v { ranges = t }) (try_select r n)
  passes-selected = ends-selected v h r n t there.0 there.1 table

  pub whole-selected : IsWhole (record v { ranges = t })
  whole-selected = ends-whole v h r n t there.0 there.1 table

  pub present-selected : IsSome (range_in v.ranges r) → present t.ranges ≡ present v.ranges.ranges
  present-selected held = ap (λ (x : RangeTable). present x.ranges) table ∙ present-set v.ranges.ranges r there.0 held

-- All of it.

-- where surrounding is not refused, none of its steps is
pub take-whole : (a : World) (r n : ℕ) → IsSome (range_in a.ranges r) → check_whole_surround r n (unwatched a) ≡ None → MayTake a (λ w. and_then (try_extract r w) (λ v. put_around r n a.tree.made (replace_all None n v)))
take-whole a r n held i =
    let u = unwatched a in
    let there = live-there r u held in
    record {
      stands_for = u;
      keeps = keeps-unwatched a;
      passes = (unless-allows (check_surround u there.0 n) u _ (sym (ap (λ (x : Option Range). refusal_in (for_range x (Ok u) (λ range. surrounded r n range u))) there.1) ∙ i)).1;
    }

pub extract-passes : (a : World) (r n : ℕ) → IsSome (range_in a.ranges r) → check_whole_surround r n (unwatched a) ≡ None → check_extract r (unwatched a) ≡ None
extract-passes a r n held i =
    let u = unwatched a in
    let there = live-there r u held in
    let drawn = (unless-allows (check_surround u there.0 n) u _ (sym (ap (λ (x : Option Range). refusal_in (for_range x (Ok u) (λ range. surrounded r n range u))) there.1) ∙ i)).1 in
    (unless-allows (check_extract r u) u (λ v. Ok (extract r v)) (first-taken (try_extract r u) (λ v. put_around r n a.tree.made (replace_all None n v)) drawn)).0

pub passes-put : (a b c d : World) (r n fragment : ℕ) → Passes a b (insert_node r n) → Passes b c (try_pre_insert fragment n None) → Passes c d (try_select r n) → Passes a d (put_around r n fragment)
passes-put a b c d r n fragment p q o =
    passes-then a b d (insert_node r n) (λ v. and_then (try_pre_insert fragment n None v) (λ v. try_select r n v)) p
    (passes-then b c d (try_pre_insert fragment n None) (try_select r n) q o)

module _ (a b c d : World) (h : IsWhole a) (r n : ℕ) (held : IsSome (range_in a.ranges r)) (i : check_whole_surround r n (unwatched a) ≡ None)
    (p : Passes a b (try_extract r)) (q : Follows b c (replace_all None n)) (o : Passes c d (put_around r n a.tree.made)) where
  abbrev rest : ℕ → model.World → Outcome
  rest fragment v = put_around r n fragment (replace_all None n v)

  abbrev whole : model.World → Outcome
  whole w = and_then (try_extract r w) (rest a.tree.made)

  passes-whole : Passes a d whole
  passes-whole = passes-then a b d (try_extract r) (rest a.tree.made) p (passes-then b c d (λ v. Ok (replace_all None n v)) (put_around r n a.tree.made) (passes-step b c (replace_all None n) q) o)

  range-there : (range : Range) × (range_at (unwatched a) r ≡ Some range)
  range-there = live-there r (unwatched a) held

  check-passes : check_surround (unwatched a) range-there.0 n ≡ None
  check-passes =
      (unless-allows (check_surround (unwatched a) range-there.0 n) (unwatched a) _
      (sym (ap (λ (x : Option Range). refusal_in (for_range x (Ok (unwatched a)) (λ range. surrounded r n range (unwatched a)))) range-there.1) ∙ i)).0

  surround-is : (w : model.World) → Keeps a w → surround r n w ≡ whole w
  surround-is w k =
      let range = range-there.0 in
      ap (λ (x : Option Range). for_range x (Ok w) (λ range. surrounded r n range w)) (ap (λ (rs : List (Option Range)). slice_index_or rs r None) k.ranges ∙ range-there.1)
      ∙ unless-none (check_surround w range n) w _ (ap (λ (g : Forest Content). check_surround (record (unwatched a) { forest = g }) range n) k.forest ∙ check-passes)
      ∙ ap (λ (fragment : ℕ). and_then (try_extract r w) (rest fragment)) k.made

  pub follows-surrounded : Follows a d (λ w. world_after_outcome (surround r n w) w)
  follows-surrounded = (passes-as a d whole (surround r n) surround-is passes-whole).follows
