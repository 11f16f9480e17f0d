-- How many observers are there, by their queues and by their places.
use Rattle.std.proofs.Common.{◌≡◌, ℕ, suc, List, [], ◌∷◌, length, count_by, cond, Option, is_some, refl, ap, sym, arith, slice_index_or, None}
use Rattle.std.proofs.lemmas.List.Sums.{sum_by-cons}
use Rattle.dom_model.specs.Definitions.{Observing}
use Rattle.dom_observe.specs.{declared.roster.Observer.Observer, Roster.queues_by, Watchers.Watchers, Watchers.Watches}
use Rattle.dom_observe.proofs.RosterLemmas.{has-kept, length-queues}

-- 1 where a place is taken
abbrev one : {A : Type 0} → Option A → ℕ
one o = cond (is_some o) 1 0

-- two lists with the same places taken have as many taken
pub same-taken : {A B : Type 0} (xs : List (Option A)) (ys : List (Option B)) → length xs ≡ length ys → ((i : ℕ) → is_some (slice_index_or xs i None) ≡ is_some (slice_index_or ys i None)) → count_by is_some xs ≡ count_by is_some ys
same-taken [] [] long same = refl
same-taken [] (y ∷ ys) long same = absurd (omega (arith, long))
same-taken (x ∷ xs) [] long same = absurd (omega (arith, long))
same-taken (x ∷ xs) (y ∷ ys) long same =
    let here : one x ≡ one y = ap (λ b. cond b 1 0) (same 0) in
    let rest = same-taken xs ys (omega (arith, long)) (λ i. same (suc i)) in
    omega (arith, here, rest, sum_by-cons one x xs, sum_by-cons one y ys)

pub queues-counted : (roster : List (Option Observer)) → count_by is_some (queues_by roster) ≡ count_by is_some roster
queues-counted roster = same-taken (queues_by roster) roster (length-queues roster) (has-kept roster)

pub places-counted : (o : Watchers) (x : Observing) → Watches o x → count_by is_some o.queues ≡ count_by is_some x.places
places-counted o x w = same-taken o.queues x.places (sym w.made) w.there
