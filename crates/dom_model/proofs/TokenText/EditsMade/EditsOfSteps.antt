-- The edits of the steps that are one edit, or one for each of a list: new nodes and copies, removals, data, range ends.
use Rattle.std.proofs.Common.{◌≡◌, ℕ, ◌+◌, ◌<◌, ◌≤◌, Bool, true, false, if◌then◌else◌, List, [], ◌∷◌, length, Option, Some, None, option_map, slice_set, refl, ap, sym, ◌∙◌, subst, arith, inl, inr, ◌==◌}
use Rattle.std.proofs.lemmas.{Bool.cases_lt, List.set-set, List.set-get_or, List.get_or-set_same, List.get_or_past, Bool.and_parts, Bool.eqb-true}
use Rattle.dom_model.specs.Definitions.{Label, is_character_data, hits, Node, Forest, empty, node, size, parent_of, KindsFit, Content, Point, Range, World, removed_from, remove, remove_all, tree_record_unless, made_node, end_of, range_at, with_range, made_range, released, data_of, cut_count, replace_data, kind_passes, IsRange, IsSound, renumbered, with_copies, discarded, same_point, Removal, Splice, EndSet, Making, RangeMaking, Release, set_side, removal_from, removal_if, remove_edits, removals, making, copies_edits, replace_data_edits, end_edit, ends_edits, IsPoint, IsReady, fits_removal, fits_end_set, fits_range_making, fits_release, fits_discard}
use Rattle.dom_model.specs.TokenText.Tokens.{Discard}
use Rattle.dom_model.proofs.PlainLists.Numbers.{same_or, same, apart}
use Rattle.dom_model.proofs.Forests.Climbing.{hits-append, hits-first}
use Rattle.dom_model.proofs.MutationAlgorithms.Loosened.{parent-remove}
use Rattle.dom_model.proofs.Soundness.{SoundWorlds.IsLive, SoundWorlds.child_there, SoundWorlds.sound-remove, SoundRangeSteps.live_range, SoundMaking.sound-made_node, SoundMaking.sound-copies}
use Rattle.dom_model.proofs.TokenText.{EditsMade.FittingEdits.end-point, EditsMade.FittingEdits.ready-sound, EditsMade.FittingEdits.ready-with_range, EditsMade.FittingEdits.fits-making, EditsMade.FittingEdits.fits-splice, EditsMade.EditsLeave.laid, EditsMade.EditsLeave.Leave, EditsMade.EditsLeave.leave-none, EditsMade.EditsLeave.leave-edit, EditsMade.EditsLeave.leave-then, EditsMade.EditsLeave.leave-alike}

-- New nodes and copies.

pub leave-making : (document : ℕ) (label : Label) (body : Content) (w : World) → IsSound w → Leave (making document label body w) w (made_node document label body w)
leave-making document label body w s =
    let new : Node Content = record { number = w.made; document = document; label = label; body = body } in
    let k = sound-made_node document label body w s in
    leave-edit (Making (node new empty empty)) w (made_node document label body w) (ready-sound w s) (fits-making (node new empty empty) (w.made + 1) w k.forest) refl

size-renumbered : (document next : ℕ) (f : Forest Content) → size (renumbered document next f) ≡ size f
size-renumbered document next empty = refl
size-renumbered document next (node x kids rest) = rw (size-renumbered document (next + 1) kids, size-renumbered document (next + 1 + size kids) rest) refl

pub leave-copies : (document : ℕ) (copied : Forest Content) (w : World) → IsSound w → KindsFit None copied → Leave (copies_edits document copied w) w (with_copies document copied w)
leave-copies document copied w s fit =
    let k = sound-copies document copied w s fit in
    leave-edit (Making (renumbered document w.made copied)) w (with_copies document copied w) (ready-sound w s) (fits-making (renumbered document w.made copied) (w.made + size copied) w k.forest)
    (ap (λ k. laid (record (with_copies document copied w) { made = w.made + k })) (size-renumbered document w.made copied))

-- Removals.

pub record-laid : (suppressed : Bool) (target : ℕ) (added removed : List ℕ) (previous next : Option ℕ) (w : World) → laid (tree_record_unless suppressed target added removed previous next w) ≡ laid w
record-laid true target added removed previous next w = refl
record-laid false target added removed previous next w = refl

removed-laid : (suppressed : Bool) (n : ℕ) (p : Option ℕ) (w : World) → laid (removal_from n p w) ≡ laid (removed_from suppressed n p w)
removed-laid suppressed n None w = refl
removed-laid suppressed n (Some parent) w = sym (record-laid suppressed parent [] (n ∷ []) _ _ _)

pub leave-removal : (suppressed : Bool) (n parent : ℕ) (w : World) → IsSound w → parent_of w.forest n ≡ Some parent → Leave (Removal n ∷ []) w (remove suppressed n w)
leave-removal suppressed n parent w s e = leave-edit (Removal n) w (remove suppressed n w) (ready-sound w s) (fits_removal n parent e) (removed-laid suppressed n (parent_of w.forest n) w)

pub leave-remove : (suppressed : Bool) (n : ℕ) (w : World) → IsSound w → Leave (remove_edits n w) w (remove suppressed n w)
leave-remove suppressed n w s = go (parent_of w.forest n) refl
  where
    go : (p : Option ℕ) → parent_of w.forest n ≡ p → Leave (removal_if p n) w (remove suppressed n w)
    go None e = leave-none w (remove suppressed n w) (ap (λ p. laid (removed_from suppressed n p w)) (sym e))
    go (Some p) e = leave-removal suppressed n p w s e

-- children of one parent leave it, one after another
pub leave-remove_all : (parent : ℕ) (ns : List ℕ) (w : World) → IsSound w → ((m : ℕ) → hits m ns ≤ 1) → ((m : ℕ) → 0 < hits m ns → parent_of w.forest m ≡ Some parent) → Leave (removals ns) w (remove_all ns w)
leave-remove_all parent [] w s once each = leave-none w w refl
leave-remove_all parent (n ∷ ns) w s once each =
    let v = remove true n w in
    let e = each n (hits-first n ns) in
    leave-then (Removal n ∷ []) (removals ns) w v (remove_all ns v) (leave-removal true n parent w s e)
    (leave-remove_all parent ns v (sound-remove true n w s) (λ m. let i = hits-append m (n ∷ []) ns in let j = once m in omega arith) (still e))
  where
    still : parent_of w.forest n ≡ Some parent → (m : ℕ) → 0 < hits m ns → parent_of (remove true n w).forest m ≡ Some parent
    still e m h =
        let i = hits-append m (n ∷ []) ns in
        parent-remove true n w s (child_there w.forest n parent e) m
        ∙ (elim (same_or m n) [
          | same d t ↦ absurd (let j = once n in let k = hits-first n [] in let l = hits-append n (n ∷ []) ns in let x : 0 < hits n ns = subst (λ y. 0 < hits y ns) d h in omega arith)
          | apart ne t ↦ rw t (each m (omega arith))
        ])

-- Data.

pub leave-replace_data : (n offset count : ℕ) (added : List ℕ) (w : World) → IsSound w → kind_passes is_character_data w.forest n ≡ true → offset ≤ length (data_of w n) → Leave (replace_data_edits n offset count added w) w (replace_data n offset count added w)
leave-replace_data n offset count added w s k h =
    leave-edit (Splice n offset (cut_count (length (data_of w n)) offset count) added) w (replace_data n offset count added w) (ready-sound w s) (fits-splice n offset count added w k h) refl

-- Live ranges.

pub leave-made_range : (range : Range) (w : World) → IsSound w → IsRange w.forest range → Leave (RangeMaking (length w.ranges) range ∷ []) w (made_range range w)
leave-made_range range w s h =
    leave-edit (RangeMaking (length w.ranges) range) w (made_range range w) (ready-sound w s) (fits_range_making (length w.ranges) range refl (end-point w true range h) (end-point w false range h)) refl

pub leave-released : (r : ℕ) (w : World) → IsSound w → Leave (Release r ∷ []) w (released r w)
leave-released r w s = leave-edit (Release r) w (released r w) (ready-sound w s) (fits_release r) refl

pub leave-discarded : (n : ℕ) (w : World) → IsSound w → parent_of w.forest n ≡ None → Leave (Discard n ∷ []) w (discarded n w)
leave-discarded n w s e = leave-edit (Discard n) w (discarded n w) (ready-sound w s) (fits_discard n e) refl

same-points : (p q : Point) → same_point p q ≡ true → p ≡ q
same-points p q h =
    let i = and_parts (p.node == q.node) (p.offset == q.offset) h in
    ap {B = Point} (λ n. record { node = n; offset = p.offset }) (eqb-true p.node q.node i.0) ∙ ap {B = Point} (λ k. record { node = q.node; offset = k }) (eqb-true p.offset q.offset i.1)

-- a side that is set to where it stands
set-same : (side : Bool) (p : Point) (range : Range) → end_of side range ≡ p → set_side side p range ≡ range
set-same true p range e = ap (λ (q : Point). set_side true q range) (sym e)
set-same false p range e = ap (λ (q : Point). set_side false q range) (sym e)

range-there : (w : World) (r : ℕ) (range : Range) → range_at w r ≡ Some range → r < length w.ranges
range-there w r range e =
    elim (cases_lt r (length w.ranges)) [
      | inl lt ↦ lt
      | inr le ↦ absurd (let k : Some range ≡ None = sym e ∙ get_or_past w.ranges r None le in cc k)
    ]

pub range-set : (w : World) (r : ℕ) (old new : Range) → range_at w r ≡ Some old → range_at (with_range r new w) r ≡ Some new
range-set w r old new e = get_or-set_same w.ranges r (Some new) None (range-there w r old e)

-- a live range of a sound world, once it is set
pub range-of_sound : (r : ℕ) (old range : Range) (w : World) → range_at w r ≡ Some old → IsSound (with_range r range w) → IsRange w.forest range
range-of_sound r old range w e s = subst (IsLive w.forest) (range-set w r old range e) (live_range (with_range r range w) s r)

leave-end : (r : ℕ) (side : Bool) (range : Range) (p : Point) (w : World) → IsReady w → IsPoint w p → range_at w r ≡ Some range → Leave (end_edit r side (end_of side range) p) w (with_range r (set_side side p range) w)
leave-end r side range p w ready there e = go (same_point (end_of side range) p) refl
  where
    go : (v : Bool) → same_point (end_of side range) p ≡ v → Leave (if v then [] else EndSet r side p ∷ []) w (with_range r (set_side side p range) w)
    go true t =
        let d = set-same side p range (same-points (end_of side range) p t) in
        let k : slice_set w.ranges r (Some (set_side side p range)) ≡ w.ranges =
        ap (λ x. slice_set w.ranges r (Some x)) d ∙ ap (λ x. slice_set w.ranges r x) (sym e) ∙ set-get_or w.ranges r None in
        leave-none w (with_range r (set_side side p range) w) (ap (λ rs. laid (record w { ranges = rs })) (sym k))
    go false t = leave-edit (EndSet r side p) w (with_range r (set_side side p range) w) ready (fits_end_set r side p range e there) (ap (λ x. laid (record w { ranges = slice_set w.ranges r (option_map (set_side side p) x) })) e)

-- both ends of a live range are set
pub leave-ends : (r : ℕ) (old new : Range) (w : World) → IsSound w → IsRange w.forest new → range_at w r ≡ Some old → Leave (ends_edits r old new) w (with_range r new w)
leave-ends r old new w s h e =
    let started = set_side true new.start old in
    let v = with_range r started w in
    let ready = ready-sound w s in
    let start = end-point w true new h in
    let end = end-point w false new h in
    let last = ready.points r false old.end (ap (option_map (end_of false)) e) in
    let second = leave-end r false started new.end v (ready-with_range w r old started e ready start last) (record { there = end.there; within = end.within }) (range-set w r old started e) in
    let twice : laid (with_range r new v) ≡ laid (with_range r new w) = ap (λ rs. laid (record w { ranges = rs })) (set-set w.ranges r (Some started) (Some new)) in
    leave-then (end_edit r true old.start new.start) (end_edit r false old.end new.end) w v (with_range r new w)
    (leave-end r true old new.start w ready start e)
    (leave-alike (end_edit r false old.end new.end) v v (with_range r new v) (with_range r new w) refl twice second)
