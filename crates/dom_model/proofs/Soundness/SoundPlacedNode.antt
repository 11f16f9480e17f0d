-- A node leaves its parent and comes in before a reference; a live range that is collapsed then goes around it: a sound world is left.
-- DOM Standard, "Interface Range": insert.
use Rattle.std.proofs.Common.{◌≡◌, ℕ, ◌<◌, Bool, true, false, if◌then◌else◌, Option, Some, None, option_map, Ok, Err, refl, ap, sym, ◌∙◌, subst}
use Rattle.std.proofs.lemmas.Bool.{eq-eqb}
use Rattle.dom_model.specs.Definitions.{Forest, occurs, parent_of, Content, Point, Range, World, moved_range, check_insert, remove, reference_child, pre_insert, insert, is_collapsed, range_at, with_range, for_range, Outcome, and_then, unless, try_pre_insert, offset_past, end_if_collapsed, placed_at, IsRange, IsSound, IsChildOf, IsInsertable}
use Rattle.dom_model.specs.declared.DomError.{DomError}
use Rattle.dom_model.proofs.PlainLists.Numbers.{same_or, same, apart}
use Rattle.dom_model.proofs.Soundness.{SoundWorlds.IsLive, SoundWorlds.sound-remove, SoundEditing.checks_insert, SoundEditing.insertable, SoundRangeSteps.live_range, SoundRangeSteps.sound-with_range}
use Rattle.dom_model.proofs.MutationAlgorithms.{Loosened.loosened-remove, Loosened.parent-remove, Extending.put_by_insert}
use Rattle.dom_model.proofs.BoundaryPoints.{MovedPoints.range_at-moved, GapsKept.ahead}
use Rattle.dom_model.proofs.RangesAndContents.EndsGrown.{after, sound_after, behind, behind_is, keeps, range_behind}

-- a sound world, with all nodes that were there
pub record IsNext (w v : World) : Type 0 where
  pub sound : IsSound v
  pub there : (m : ℕ) → 0 < occurs m w.forest → 0 < occurs m v.forest

-- what a step gives where it is not refused
abbrev pub Gives : World → Outcome → Type 0
Gives w (Ok v) = IsNext w v
Gives w (Err e) = Unit {0}

pub gives-then : (w : World) (o : Outcome) (step : World → Outcome) → Gives w o → ((v : World) → IsNext w v → Gives w (step v)) → Gives w (and_then o step)
gives-then w (Err e) step g k = tt
gives-then w (Ok v) step g k = k v g

pub gives-unless : (w : World) (o : Option DomError) (step : World → Outcome) → (o ≡ None → Gives w (step w)) → Gives w (and_then (unless o w) step)
gives-unless w None step k = k refl
gives-unless w (Some e) step k = tt

pub next-then : (w v u : World) → IsNext w v → IsNext v u → IsNext w u
next-then w v u a b = record { sound = b.sound; there = λ m h. b.there m (a.there m h) }

pub gives-after : (w v : World) (o : Outcome) → IsNext w v → Gives v o → Gives w o
gives-after w v (Err e) a g = tt
gives-after w v (Ok u) a g = next-then w v u a g

pub next-remove : (suppressed : Bool) (n : ℕ) (w : World) → IsSound w → 0 < occurs n w.forest → IsNext w (remove suppressed n w)
next-remove suppressed n w s h =
    let a = loosened-remove suppressed n w s h in
    record { sound = sound-remove suppressed n w s; there = λ m k. subst (λ x. 0 < x) (sym (a.numbers m)) k }

-- The end of a range that is collapsed moves behind what came in.

module _ (r n parent : ℕ) (reference : Option ℕ) (out : World) (s : IsSound out) (root : parent_of out.forest n ≡ None) (k : IsInsertable out.forest n parent reference)
    (ahead_of : (range : Range) → range_at out r ≡ Some range → IsRange out.forest (record { start = range.start; end = ahead n parent reference out s root k })) where
  abbrev placed : World
  placed = after n parent reference out s root k

  abbrev end_point : Point
  end_point = record { node = parent; offset = offset_past out parent reference n }

  end_is : end_point ≡ behind n parent reference out s root k
  end_is = ap (λ o. record { node = parent; offset = o }) (behind_is n parent reference out s root k)

  sound-grown : IsSound (end_if_collapsed r end_point placed)
  sound-grown = go (range_at out r) refl (live_range out s r)
    where
      moves : Range → Range
      moves = moved_range (keeps n parent reference out s root k).by.moves

      kept : range_at placed r ≡ option_map (moved_range (keeps n parent reference out s root k).by.moves) (range_at out r)
      kept = range_at-moved (insert false n parent reference) out (keeps n parent reference out s root k).by r

      go : (o : Option Range) → range_at out r ≡ o → IsLive out.forest o → IsSound (end_if_collapsed r end_point placed)
      go None e h = subst (λ o. IsSound (for_range o placed (λ range. if is_collapsed range then with_range r (record range { end = end_point }) placed else placed))) (sym (kept ∙ ap (option_map (moved_range (keeps n parent reference out s root k).by.moves)) e)) (sound_after n parent reference out s root k)
      go (Some range) e h =
          let b = range_behind n parent reference out s root k range h (ahead_of range e) in
          let c = subst (λ q. IsRange placed.forest (record (moved_range (keeps n parent reference out s root k).by.moves range) { end = q })) (sym end_is) b in
          subst (λ o. IsSound (for_range o placed (λ x. if is_collapsed x then with_range r (record x { end = end_point }) placed else placed))) (sym (kept ∙ ap (option_map (moved_range (keeps n parent reference out s root k).by.moves)) e))
          (either (is_collapsed (moved_range (keeps n parent reference out s root k).by.moves range)) (sound-with_range r (record (moved_range (keeps n parent reference out s root k).by.moves range) { end = end_point }) placed (sound_after n parent reference out s root k) c))
        where
          either : (v : Bool) → IsSound (with_range r (record (moved_range (keeps n parent reference out s root k).by.moves range) { end = end_point }) placed) → IsSound (if v then with_range r (record (moved_range (keeps n parent reference out s root k).by.moves range) { end = end_point }) placed else placed)
          either true i = i
          either false i = sound_after n parent reference out s root k

  there-grown : (m : ℕ) → 0 < occurs m out.forest → 0 < occurs m (end_if_collapsed r end_point placed).forest
  there-grown m h =
      subst (λ (g : Forest Content). 0 < occurs m g) (sym (same_forest (range_at placed r))) ((put_by_insert false n parent reference out s k).extends.there m h)
    where
      same_forest : (o : Option Range) → (for_range o placed (λ x. if is_collapsed x then with_range r (record x { end = end_point }) placed else placed)).forest ≡ placed.forest
      same_forest None = refl
      same_forest (Some x) = either (is_collapsed x)
        where
          either : (v : Bool) → (if v then with_range r (record x { end = end_point }) placed else placed).forest ≡ placed.forest
          either true = refl
          either false = refl

  pub next-grown : IsNext out (end_if_collapsed r end_point placed)
  next-grown = record { sound = sound-grown; there = there-grown }

-- what has to hold once the node has left its parent: the range starts at or ahead of the place where the node comes in
abbrev pub StartsAhead : ℕ → ℕ → ℕ → Option ℕ → World → Type 0
StartsAhead r n parent reference out =
    (s : IsSound out) (root : parent_of out.forest n ≡ None) (k : IsInsertable out.forest n parent reference) (range : Range) → range_at out r ≡ Some range → IsRange out.forest range → IsRange out.forest (record { start = range.start; end = ahead n parent reference out s root k })

pub placed-next : (r n parent : ℕ) (reference : Option ℕ) (w : World) → IsSound w → 0 < occurs n w.forest → StartsAhead r n parent reference (remove false n w) → Gives w (placed_at r n parent reference w)
placed-next r n parent reference w s h starts = gives-after w out (and_then (try_pre_insert n parent reference out) (λ v. Ok (end_if_collapsed r (record { node = parent; offset = offset_past out parent reference n }) v))) a (go (check_insert out.forest parent n reference) refl)
  where
    out : World
    out = remove false n w

    a : IsNext w (remove false n w)
    a = next-remove false n w s h

    root : parent_of (remove false n w).forest n ≡ None
    root = parent-remove false n w s h n ∙ (rw (eq-eqb n n refl) refl)

    same_reference : (o : World) → parent_of o.forest n ≡ None → (b : Option ℕ) → IsChildOf o.forest parent b → reference_child o n b ≡ b
    same_reference o i None c = refl
    same_reference o i (Some d) c = elim (same_or d n) [ same e t ↦ absurd (let x : None ≡ Some parent = sym i ∙ ap (parent_of o.forest) (sym e) ∙ c in cc x) | apart ne t ↦ rw t refl ]

    go : (c : Option DomError) → check_insert out.forest parent n reference ≡ c → Gives out (and_then (and_then (unless c out) (λ v. Ok (pre_insert n parent reference v))) (λ v. Ok (end_if_collapsed r (record { node = parent; offset = offset_past out parent reference n }) v)))
    go (Some e) d = tt
    go None d =
        let c = checks_insert out.forest parent n reference d in
        let e = same_reference out root reference c.child_of in
        let k = subst (λ b. IsInsertable out.forest n parent b) e (insertable out a.sound parent n reference (a.there n h) c) in
        subst (λ b. IsNext out (end_if_collapsed r (record { node = parent; offset = offset_past out parent reference n }) (insert false n parent b out))) (sym e)
        (next-grown r n parent reference out a.sound root k (λ range i. starts a.sound root k range i (subst (IsLive out.forest) i (live_range out a.sound r))))
