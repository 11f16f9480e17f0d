-- The edits of deleting the contents of a live range leave what deleting leaves. DOM Standard, "Interface Range": deleteContents.
use Rattle.std.proofs.Common.{◌≡◌, ℕ, ◌-◌, ◌≤◌, Bool, true, false, if◌then◌else◌, List, [], ◌∷◌, length, Option, Some, None, is_some, refl, ap, ◌∙◌, subst, arith}
use Rattle.std.proofs.lemmas.Bool.{cond_both}
use Rattle.dom_model.specs.Definitions.{is_character_data, Range, World, kind_passes, remove, is_collapsed, collapsed_at, range_at, with_range, data_of, replace_data, remove_each, for_range, is_in_one_data, cut_from, cut_up_to, contained_tops, new_place, deleted_between, deleted, delete_contents, Trace, begun, remove_edits, ends_edits_at, replace_data_edits, doing_ends, doing_remove, doing_remove_each, doing_replace_data, doing_cut_from, doing_cut_up_to, deleted_between_trace, deleted_edits, delete_contents_edits, IsRange, IsSound}
use Rattle.dom_model.proofs.Soundness.{SoundWorlds.IsLive, SoundWorlds.sound-remove, SoundRangeSteps.live_range, SoundDeleting.offset_of_start, SoundDeleting.in_data, SoundDeleting.one, SoundDeleting.sound-second, SoundDeleting.three, SoundDeleting.place_left}
use Rattle.dom_model.proofs.TokenText.{EditsMade.EditsLeave.Leave, EditsMade.EditsLeave.leave-none, EditsMade.EditsLeave.Comes, EditsMade.EditsLeave.Follows, EditsMade.EditsLeave.comes-begun, EditsMade.EditsLeave.comes-then, EditsMade.EditsLeave.follows-none, EditsMade.EditsLeave.follows-then, EditsMade.EditsLeave.follows-doing, EditsMade.EditsOfSteps.leave-remove, EditsMade.EditsOfSteps.leave-replace_data, EditsMade.EditsOfSteps.leave-ends}
use Rattle.dom_model.proofs.RangesAndContents.LiveRangesKept.{is_live, live-there, remove_each-live, replace_data-live}

-- a range that is there, and both its ends set
pub leave-ends_at : (r : ℕ) (range : Range) (w : World) → IsSound w → IsRange w.forest range → is_live r w ≡ true → Leave (ends_edits_at r range w) w (with_range r range w)
leave-ends_at r range w s k h = let old = live-there r w h in rw old.1 (leave-ends r old.0 range w s k old.1)

-- The steps.

pub follows-ends : (r : ℕ) (range : Range) (v : World) → IsSound v → IsRange v.forest range → is_live r v ≡ true → Follows (doing_ends r range) v (with_range r range v)
follows-ends r range v s k h = follows-doing v (with_range r range) (ends_edits_at r range) (leave-ends_at r range v s k h)

pub follows-replace_data : (n offset count : ℕ) (added : List ℕ) (v : World) → IsSound v → kind_passes is_character_data v.forest n ≡ true → offset ≤ length (data_of v n) → Follows (doing_replace_data n offset count added) v (replace_data n offset count added v)
follows-replace_data n offset count added v s k h = follows-doing v (replace_data n offset count added) (replace_data_edits n offset count added) (leave-replace_data n offset count added v s k h)

follows-remove_each : (ns : List ℕ) (v : World) → IsSound v → Follows (doing_remove_each ns) v (remove_each ns v)
follows-remove_each [] v s = follows-none v
follows-remove_each (n ∷ ns) v s =
    follows-then v (remove false n v) (remove_each ns (remove false n v)) (doing_remove n) (doing_remove_each ns)
    (follows-doing v (remove false n) (remove_edits n) (leave-remove false n v s)) (follows-remove_each ns (remove false n v) (sound-remove false n v s))

-- one of two steps by a test
pub follows-if : (b : Bool) (v u x : World) (step other : Trace → Trace) → (b ≡ true → Follows step v u) → Follows other v x → Follows (λ t. if b then step t else other t) v (if b then u else x)
follows-if true v u x step other h k = h refl
follows-if false v u x step other h k = k

follows-cut_from : (n offset : ℕ) (v : World) → IsSound v → (kind_passes is_character_data v.forest n ≡ true → offset ≤ length (data_of v n)) → Follows (doing_cut_from n offset) v (cut_from n offset v)
follows-cut_from n offset v s h w es l =
    follows-if (kind_passes is_character_data v.forest n) v (replace_data n offset (length (data_of v n) - offset) [] v) v (doing_replace_data n offset (length (data_of v n) - offset) []) (λ t. t)
    (λ k. follows-replace_data n offset (length (data_of v n) - offset) [] v s k (h k)) (follows-none v) w es l

follows-cut_up_to : (n offset : ℕ) (v : World) → IsSound v → Follows (doing_cut_up_to n offset) v (cut_up_to n offset v)
follows-cut_up_to n offset v s w es l =
    follows-if (kind_passes is_character_data v.forest n) v (replace_data n 0 offset [] v) v (doing_replace_data n 0 offset []) (λ t. t)
    (λ k. follows-replace_data n 0 offset [] v s k (omega arith)) (follows-none v) w es l

pub cut_from-live : (r n offset : ℕ) (w : World) → is_live r (cut_from n offset w) ≡ is_live r w
cut_from-live r n offset w =
    let count = length (data_of w n) - offset in
    cond_both (kind_passes is_character_data w.forest n) (replace_data n offset count [] w) w (λ v. is_live r v ≡ is_live r w)
    (λ e. replace_data-live r n offset count [] w) (λ e. refl)

pub cut_up_to-live : (r n offset : ℕ) (w : World) → is_live r (cut_up_to n offset w) ≡ is_live r w
cut_up_to-live r n offset w =
    cond_both (kind_passes is_character_data w.forest n) (replace_data n 0 offset [] w) w (λ v. is_live r v ≡ is_live r w)
    (λ e. replace_data-live r n 0 offset [] w) (λ e. refl)

-- Delete contents.

comes-deleted : (r : ℕ) (range : Range) (w : World) → IsSound w → IsRange w.forest range → is_in_one_data w range ≡ false → is_live r w ≡ true → Comes w (deleted_between_trace r range w) (deleted_between r range w)
comes-deleted r range w s k two h =
    let first = cut_from range.start.node range.start.offset w in
    let second = remove_each (contained_tops w range) first in
    let third = cut_up_to range.end.node range.end.offset second in
    let live : is_live r third ≡ true =
    cut_up_to-live r range.end.node range.end.offset second ∙ remove_each-live r (contained_tops w range) first ∙ cut_from-live r range.start.node range.start.offset w ∙ h in
    let cut = one r range w s k two in
    let gone = sound-second r range w s k two in
    let last = three r range w s k two in
    comes-then w _ third (deleted_between r range w) (doing_ends r (collapsed_at (new_place w.forest range))) (follows-ends r (collapsed_at (new_place w.forest range)) third last.sound (place_left r range w s k two) live)
    (comes-then w _ second third (doing_cut_up_to range.end.node range.end.offset) (follows-cut_up_to range.end.node range.end.offset second gone)
    (comes-then w _ first second (doing_remove_each (contained_tops w range)) (follows-remove_each (contained_tops w range) first cut.sound)
    (comes-then w (begun w) w first (doing_cut_from range.start.node range.start.offset) (follows-cut_from range.start.node range.start.offset w s (offset_of_start w range k)) (comes-begun w))))

leave-deleted : (r : ℕ) (range : Range) (w : World) → IsSound w → IsRange w.forest range → is_live r w ≡ true → Leave (deleted_edits r range w) w (deleted r range w)
leave-deleted r range w s k h = go (is_collapsed range) (is_in_one_data w range) refl
  where
    one : World
    one = replace_data range.start.node range.start.offset (range.end.offset - range.start.offset) [] w

    go : (v u : Bool) → is_in_one_data w range ≡ u → Leave (if v then [] else if u then replace_data_edits range.start.node range.start.offset (range.end.offset - range.start.offset) [] w else (deleted_between_trace r range w).edits) w (if v then w else if u then one else deleted_between r range w)
    go true u e = leave-none w w refl
    go false true e = leave-replace_data range.start.node range.start.offset (range.end.offset - range.start.offset) [] w s (in_data range w e) (offset_of_start w range k (in_data range w e))
    go false false e = let i = comes-deleted r range w s k e h in i.left

pub leave-delete_contents : (r : ℕ) (w : World) → IsSound w → Leave (delete_contents_edits r w) w (delete_contents r w)
leave-delete_contents r w s = go (range_at w r) refl
  where
    go : (o : Option Range) → range_at w r ≡ o → Leave (for_range o [] (λ range. deleted_edits r range w)) w (for_range o w (λ range. deleted r range w))
    go None e = leave-none w w refl
    go (Some range) e = leave-deleted r range w s (subst (IsLive w.forest) e (live_range w s r)) (ap is_some e)
