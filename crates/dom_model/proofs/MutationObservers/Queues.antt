-- What the steps of the observing part do to the queues, the pending list and the registrations of a node.
use Rattle.std.proofs.Common.{◌≡◌, ℕ, zero, suc, ◌+◌, ◌-◌, ◌<◌, ◌≤◌, ◌==◌, Bool, true, false, not, if◌then◌else◌, List, [], ◌∷◌, ◌++◌, map, length, drop, Option, Some, None, IfSome, All, slice_index_or, refl, ap, sym, ◌∙◌, subst, arith, ◌⊎◌, inl, inr, append_assoc, append-nil, length-append}
use Rattle.std.specs.{Prelude.filter, Prelude.filter_map, Prelude.flat_map, Prelude.is_some, Prelude.option_to_list, Prelude.slice_set, List.cons_option}
use Rattle.std.proofs.lemmas.{Bool.Decides.nat_tests, List.drop-append-le, List.get_or-set_same, List.get_or-set_other, List.get_or_append_left, List.get_or-append_right, List.get_or_past, List.length-set, List.Elements.All-append, List.Elements.All-nil, List.Elements.All-weaker, List.Elements.filter-append, List.Elements.filter_map-append, Grind.flat_map-append, Bool.false≢true, Bool.cases_lt}
use Rattle.std.proofs.Math.Seq.{drop-length, get_or-append_seam}
use Rattle.dom_model.specs.Definitions.{among, left_out, Options, Mutation, Observing, noted, Record, Notification, observed, record_for, taken_up_to, has_observer, records_past, queue_of, observers_of, each_once, pending_of, InterestedAreMade, with_observer, records_taken, disconnected, released_observer, told_in, has_records, notifications, moved_to, after_notify, pending_taken, observer_told, with_last, with_all_last}
use Rattle.dom_model.proofs.PlainLists.{Numbers.Same, Numbers.same_or, Numbers.same, Numbers.apart}
use Rattle.dom_model.proofs.MutationObservers.NodeRegistrations.{filter-twice}
use Rattle.dom_model.proofs.Forests.Listed.{left_out-append}

-- a place that is there is not past the end of a list of mutations
abbrev pub IsWithin : List Mutation → Option ℕ → Type 0
IsWithin ms place = IfSome place (λ n. n ≤ length ms)

-- no place is past the end of the list of mutations
pub record IsTimely (x : Observing) : Type 0 where
  pub places : (o : ℕ) → IsWithin x.mutations (taken_up_to o x)
  pub last : x.notified ≤ length x.mutations

-- Each number once.

among-left_out : (n m : ℕ) (xs : List ℕ) → (m == n) ≡ false → among m (left_out n xs) ≡ among m xs
among-left_out n m [] d = refl
among-left_out n m (x ∷ xs) d = grind (arith, among-left_out n m xs d)

pub among-each_once : (n : ℕ) (xs : List ℕ) → among n (each_once xs) ≡ among n xs
among-each_once n [] = refl
among-each_once n (x ∷ xs) = grind (arith, among-left_out x n (each_once xs), among-each_once n xs)

each_once-last : (xs : List ℕ) (n : ℕ) → each_once (xs ++ n ∷ []) ≡ with_last (each_once xs) n
each_once-last [] n = refl
each_once-last (x ∷ xs) n =
    grind (arith, each_once-last xs n, among-left_out x n (each_once xs), left_out-append x (each_once xs) (n ∷ []), append-nil (left_out x (each_once xs)))

pub each_once-append : (xs ys : List ℕ) → each_once (xs ++ ys) ≡ with_all_last (each_once xs) ys
each_once-append xs [] = ap each_once (append-nil xs)
each_once-append xs (y ∷ ys) =
    ap each_once (sym (append_assoc xs (y ∷ []) ys)) ∙ each_once-append (xs ++ y ∷ []) ys ∙ ap (λ ns. with_all_last ns ys) (each_once-last xs y)

-- A test keeps each number once.

module _ (p : ℕ → Bool) where
  filter-left_out : (n : ℕ) (ns : List ℕ) → filter p (left_out n ns) ≡ left_out n (filter p ns)
  filter-left_out n [] = refl
  filter-left_out n (m ∷ ns) = grind (arith, nat_tests, filter-left_out n ns)

  left_out-failing : (n : ℕ) → p n ≡ false → (ns : List ℕ) → left_out n (filter p ns) ≡ filter p ns
  left_out-failing n h [] = refl
  left_out-failing n h (m ∷ ns) = grind (arith, left_out-failing n h ns)

  pub each_once-filter : (ns : List ℕ) → each_once (filter p ns) ≡ filter p (each_once ns)
  each_once-filter [] = refl
  each_once-filter (n ∷ ns) = grind (arith, each_once-filter ns, filter-left_out n (each_once ns), left_out-failing n)

-- two tests that agree on the numbers of a list
filter-alike : (p q : ℕ → Bool) (ns : List ℕ) → All (λ n. p n ≡ q n) ns → filter p ns ≡ filter q ns
filter-alike p q [] h = refl
filter-alike p q (n ∷ ns) h = grind (arith, nat_tests, h 0 n (omega arith), q n, filter-alike p q ns (λ k d l. h (suc k) d (omega (arith, l))))

-- a test that holds of each
pub filter-each : (p : ℕ → Bool) (ns : List ℕ) → All (λ n. p n ≡ true) ns → filter p ns ≡ ns
filter-each p [] h = refl
filter-each p (n ∷ ns) h = rw (h 0 n (omega arith)) (ap (λ os. n ∷ os) (filter-each p ns (λ k d l. h (suc k) d (omega (arith, l)))))

-- The observers that are there.

-- one that is there has a number that was given out
pub observer-made : (x : Observing) (o : ℕ) → has_observer x o ≡ true → o < length x.places
observer-made x o h = grind (arith, get_or_past x.places o None)

-- records are taken: the same ones are there
pub there-taken : (o : ℕ) (x : Observing) → has_observer x o ≡ true → (p : ℕ) → has_observer (records_taken o x) p ≡ has_observer x p
there-taken o x h p = grind (arith, get_or-set_other, get_or-set_same x.places o (Some (length x.mutations)) None (observer-made x o h))

-- A mutation is noted.

pub queue-noted : (o : ℕ) (m : Mutation) (x : Observing) → has_observer x o ≡ true → IsWithin x.mutations (taken_up_to o x) → queue_of o (noted m x) ≡ queue_of o x ++ option_to_list (record_for o m)
queue-noted o m x there h = go (taken_up_to o x) there h
  where
    one : (r : Option Record) → cons_option r [] ≡ option_to_list r
    one None = refl
    one (Some r) = refl

    go : (t : Option ℕ) → is_some t ≡ true → IsWithin x.mutations t → records_past o (x.mutations ++ m ∷ []) t ≡ records_past o x.mutations t ++ option_to_list (record_for o m)
    go None e i = absurd (false≢true e)
    go (Some place) e i =
        ap (filter_map (record_for o)) (drop-append-le place x.mutations (m ∷ []) i)
        ∙ filter_map-append (record_for o) (drop place x.mutations) (m ∷ [])
        ∙ ap (λ rs. filter_map (record_for o) (drop place x.mutations) ++ rs) (one (record_for o m))

-- the observers that it interests, of those that are there, come last on the pending list, in order, where they are not on it yet
pub pending-noted : (m : Mutation) (x : Observing) → x.notified ≤ length x.mutations → pending_of (noted m x) ≡ with_all_last (pending_of x) (filter (has_observer x) (observers_of m))
pending-noted m x h =
    ap (λ ms. filter (has_observer x) (each_once (flat_map observers_of ms))) (drop-append-le x.notified x.mutations (m ∷ []) h)
    ∙ ap (λ os. filter (has_observer x) (each_once os)) (flat_map-append observers_of (drop x.notified x.mutations) (m ∷ []))
    ∙ ap (λ os. filter (has_observer x) (each_once (before ++ os))) (append-nil (observers_of m))
    ∙ sym (each_once-filter (has_observer x) (before ++ observers_of m))
    ∙ ap each_once (filter-append (has_observer x) before (observers_of m))
    ∙ each_once-append (filter (has_observer x) before) (filter (has_observer x) (observers_of m))
    ∙ ap (λ ns. with_all_last ns (filter (has_observer x) (observers_of m))) (each_once-filter (has_observer x) before)
  where
    before : List ℕ
    before = flat_map observers_of (drop x.notified x.mutations)

-- where all that it interests are there
pub pending-noted_there : (m : Mutation) (x : Observing) → x.notified ≤ length x.mutations → All (λ o. has_observer x o ≡ true) (observers_of m) → pending_of (noted m x) ≡ with_all_last (pending_of x) (observers_of m)
pending-noted_there m x h there = pending-noted m x h ∙ ap (with_all_last (pending_of x)) (filter-each (has_observer x) (observers_of m) there)

-- Records are taken.

pub queue-taken : (o : ℕ) (x : Observing) → o < length x.places → queue_of o (records_taken o x) ≡ []
queue-taken o x h = grind (arith, get_or-set_same x.places o (Some (length x.mutations)) None h, drop-length x.mutations)

pub queue-kept : (o p : ℕ) (x : Observing) → (p ≡ o → ⊥) → queue_of p (records_taken o x) ≡ queue_of p x
queue-kept o p x ne = ap (records_past p x.mutations) (get_or-set_other x.places o p (Some (length x.mutations)) None ne)

pub pending-taken : (o : ℕ) (x : Observing) → has_observer x o ≡ true → pending_of (records_taken o x) ≡ pending_of x
pending-taken o x h = filter-alike (has_observer (records_taken o x)) (has_observer x) (each_once (flat_map observers_of (drop x.notified x.mutations))) (λ k d l. there-taken o x h _)

-- An observer is disconnected.

pub queue-disconnected : (o p : ℕ) (x : Observing) → queue_of p (disconnected o x) ≡ queue_of p (records_taken o x)
queue-disconnected o p x = refl

pub pending-disconnected : (o : ℕ) (x : Observing) → has_observer x o ≡ true → pending_of (disconnected o x) ≡ pending_of x
pending-disconnected o x h = pending-taken o x h

-- An observer is released: it is there no more, has no queue and is not pending; the others are as they were.

pub place-released : (o : ℕ) (x : Observing) → taken_up_to o (released_observer o x) ≡ None
place-released o x = grind (arith, get_or-set_same x.places o None None, get_or_past (slice_set x.places o None) o None, length-set x.places o None)

pub place-released_other : (o p : ℕ) (x : Observing) → (p ≡ o → ⊥) → taken_up_to p (released_observer o x) ≡ taken_up_to p x
place-released_other o p x ne = get_or-set_other x.places o p None None ne

pub queue-released : (o : ℕ) (x : Observing) → queue_of o (released_observer o x) ≡ []
queue-released o x = ap (records_past o x.mutations) (place-released o x)

pub queue-released_other : (o p : ℕ) (x : Observing) → (p ≡ o → ⊥) → queue_of p (released_observer o x) ≡ queue_of p x
queue-released_other o p x ne = ap (records_past p x.mutations) (place-released_other o p x ne)

filter-released : (o : ℕ) (x : Observing) (ns : List ℕ) → filter (has_observer (released_observer o x)) ns ≡ left_out o (filter (has_observer x) ns)
filter-released o x [] = refl
filter-released o x (n ∷ ns) = grind (arith, filter-released o x ns, place-released o x, place-released_other o n x)

pub pending-released : (o : ℕ) (x : Observing) → pending_of (released_observer o x) ≡ left_out o (pending_of x)
pending-released o x = filter-released o x (each_once (flat_map observers_of (drop x.notified x.mutations)))

-- notify tells the others the same
pub told-released : (o : ℕ) (x : Observing) → notifications (released_observer o x) ≡ filter (λ (t : Notification). not (t.observer == o)) (notifications x)
told-released o x =
    ap (λ os. filter has_records (map (told_in (released_observer o x)) os)) (pending-released o x)
    ∙ ap (filter has_records) (each (pending_of x))
    ∙ filter-twice has_records (λ (t : Notification). not (t.observer == o)) (map (told_in x) (pending_of x))
  where
    each : (os : List ℕ) → map (told_in (released_observer o x)) (left_out o os) ≡ filter (λ (t : Notification). not (t.observer == o)) (map (told_in x) os)
    each [] = refl
    each (p ∷ os) = grind (arith, nat_tests, queue-released_other o p x, each os)

-- The observers are notified.

pub among-later : (p o : ℕ) (os : List ℕ) → among p os ≡ true → among p (o ∷ os) ≡ true
among-later p o os h = grind arith

-- what passes a test stands among those that do where it stands among all
pub among-passing : (p : ℕ → Bool) (o : ℕ) → p o ≡ true → (ns : List ℕ) → among o (filter p ns) ≡ among o ns
among-passing p o h [] = refl
among-passing p o h (n ∷ ns) = grind (arith, among-passing p o h ns)

among-passes : (p : ℕ → Bool) (o : ℕ) (ns : List ℕ) → among o (filter p ns) ≡ true → p o ≡ true
among-passes p o [] h = absurd (false≢true h)
among-passes p o (n ∷ ns) h = grind (arith, among-passes p o ns)

pub pending-there : (o : ℕ) (x : Observing) → among o (pending_of x) ≡ true → has_observer x o ≡ true
pending-there o x h = among-passes (has_observer x) o (each_once (flat_map observers_of (drop x.notified x.mutations))) h

pub length-moved : (end : ℕ) (os : List ℕ) (places : List (Option ℕ)) → length (moved_to end os places) ≡ length places
length-moved end [] places = refl
length-moved end (o ∷ os) places = length-moved end os (slice_set places o (Some end)) ∙ length-set places o (Some end)

moved-at : (end : ℕ) (os : List ℕ) (places : List (Option ℕ)) → ((q : ℕ) → among q os ≡ true → q < length places) → (p : ℕ) → slice_index_or (moved_to end os places) p None ≡ (if among p os then Some end else slice_index_or places p None)
moved-at end [] places h p = refl
moved-at end (o ∷ os) places h p = grind (arith, moved-at end os (slice_set places o (Some end)), length-set, get_or-set_same, get_or-set_other)

pub place-notified : (o : ℕ) (x : Observing) → taken_up_to o (after_notify x) ≡ (if among o (pending_of x) then Some (length x.mutations) else taken_up_to o x)
place-notified o x = moved-at (length x.mutations) (pending_of x) x.places (λ q h. observer-made x q (pending-there q x h)) o

pub there-notified : (o : ℕ) (x : Observing) → has_observer (after_notify x) o ≡ has_observer x o
there-notified o x = grind (arith, place-notified o x, pending-there o x)

pub queue-notified : (o : ℕ) (x : Observing) → queue_of o (after_notify x) ≡ (if among o (pending_of x) then [] else queue_of o x)
queue-notified o x = grind (arith, place-notified o x, drop-length x.mutations)

-- where what waits, waits for a pending observer, no queue has records then
pub queues-notified : (x : Observing) → ((o : ℕ) → among o (pending_of x) ≡ false → queue_of o x ≡ []) → (o : ℕ) → queue_of o (after_notify x) ≡ []
queues-notified x waits o = grind (arith, queue-notified o x)

pub pending-notified : (x : Observing) → pending_of (after_notify x) ≡ []
pending-notified x = ap (λ ms. filter (has_observer (after_notify x)) (each_once (flat_map observers_of ms))) (drop-length x.mutations)

-- The steps of notify: the pending observers are taken, and one is told.

pub pending-pending_taken : (x : Observing) → pending_of (pending_taken x) ≡ []
pending-pending_taken x = ap (λ ms. filter (has_observer x) (each_once (flat_map observers_of ms))) (drop-length x.mutations)

pub queue-pending_taken : (o : ℕ) (x : Observing) → queue_of o (pending_taken x) ≡ queue_of o x
queue-pending_taken o x = refl

pub queue-told : (o p : ℕ) (x : Observing) → queue_of p (observer_told o x) ≡ queue_of p (records_taken o x)
queue-told o p x = refl

pub pending-told : (o : ℕ) (x : Observing) → has_observer x o ≡ true → pending_of (observer_told o x) ≡ pending_of x
pending-told o x h = pending-taken o x h

-- An observer is made, or observes.

pub queue-made : (x : Observing) → queue_of (length x.places) (with_observer x) ≡ []
queue-made x =
    ap (records_past (length x.places) x.mutations) (get_or-append_seam x.places (Some (length x.mutations)) [] None)
    ∙ ap (filter_map (record_for (length x.places))) (drop-length x.mutations)

pub queue-with_observer : (o : ℕ) (x : Observing) → o < length x.places → queue_of o (with_observer x) ≡ queue_of o x
queue-with_observer o x h = ap (records_past o x.mutations) (get_or_append_left x.places (Some (length x.mutations) ∷ []) None o h)

pub pending-with_observer : (x : Observing) → InterestedAreMade x → pending_of (with_observer x) ≡ pending_of x
pending-with_observer x h =
    sym (each_once-filter (has_observer (with_observer x)) interested_ones)
    ∙ ap each_once (filter-alike (has_observer (with_observer x)) (has_observer x) interested_ones (λ k d l. others _ (h k d l)))
    ∙ each_once-filter (has_observer x) interested_ones
  where
    interested_ones : List ℕ
    interested_ones = flat_map observers_of (drop x.notified x.mutations)

    others : (o : ℕ) → o < length x.places → has_observer (with_observer x) o ≡ has_observer x o
    others o lt = ap is_some (get_or_append_left x.places (Some (length x.mutations) ∷ []) None o lt)

pub queue-observed : (o n p : ℕ) (options : Options) (x : Observing) → queue_of p (observed o n options x) ≡ queue_of p x
queue-observed o n p options x = refl

pub pending-observed : (o n : ℕ) (options : Options) (x : Observing) → pending_of (observed o n options x) ≡ pending_of x
pending-observed o n options x = refl

-- The places stay within the list.

pub timely-noted : (m : Mutation) (x : Observing) → IsTimely x → IsTimely (noted m x)
timely-noted m x t = record {
  places = λ o. within (taken_up_to o x) (t.places o);
  last = let k = t.last in omega (arith, longer);
}
  where
    longer : length (x.mutations ++ m ∷ []) ≡ length x.mutations + 1
    longer = length-append x.mutations (m ∷ [])

    within : (place : Option ℕ) → IsWithin x.mutations place → IsWithin (x.mutations ++ m ∷ []) place
    within None h = tt
    within (Some k) h = omega (arith, longer, h)

pub timely-taken : (o : ℕ) (x : Observing) → IsTimely x → IsTimely (records_taken o x)
timely-taken o x t = record { places = λ p. place p (same_or p o); last = t.last }
  where
    place : (p : ℕ) → Same p o → IsWithin x.mutations (taken_up_to p (records_taken o x))
    place p (apart ne v) = subst (IsWithin x.mutations) (sym (get_or-set_other x.places o p (Some (length x.mutations)) None ne)) (t.places p)
    place p (same e v) = within (cases_lt p (length x.places))
      where
        end : length x.mutations ≤ length x.mutations
        end = omega arith

        within : ((p < length x.places) ⊎ (length x.places ≤ p)) → IsWithin x.mutations (taken_up_to p (records_taken o x))
        within (inl lt) =
            subst (λ q. IsWithin x.mutations (taken_up_to p (records_taken q x))) e
            (subst (IsWithin x.mutations) (sym (get_or-set_same x.places p (Some (length x.mutations)) None lt)) end)
        within (inr le) =
            subst (IsWithin x.mutations) (sym (get_or_past (slice_set x.places o (Some (length x.mutations))) p None (rw (length-set x.places o (Some (length x.mutations))) le))) tt

pub timely-released : (o : ℕ) (x : Observing) → IsTimely x → IsTimely (released_observer o x)
timely-released o x t = record { places = λ p. place p (same_or p o); last = t.last }
  where
    place : (p : ℕ) → Same p o → IsWithin x.mutations (taken_up_to p (released_observer o x))
    place p (apart ne v) = subst (IsWithin x.mutations) (sym (place-released_other o p x ne)) (t.places p)
    place p (same e v) = subst (λ q. IsWithin x.mutations (taken_up_to q (released_observer o x))) (sym e) (subst (IsWithin x.mutations) (sym (place-released o x)) tt)

pub timely-notified : (x : Observing) → IsTimely x → IsTimely (after_notify x)
timely-notified x t = record { places = λ o. subst (IsWithin x.mutations) (sym (place-notified o x)) (end (among o (pending_of x)) (taken_up_to o x) (t.places o)); last = omega arith }
  where
    end : (b : Bool) (place : Option ℕ) → IsWithin x.mutations place → IsWithin x.mutations (if b then Some (length x.mutations) else place)
    end true place h = omega arith
    end false place h = h

pub timely-pending_taken : (x : Observing) → IsTimely x → IsTimely (pending_taken x)
timely-pending_taken x t = record { places = t.places; last = omega arith }

pub timely-with_observer : (x : Observing) → IsTimely x → IsTimely (with_observer x)
timely-with_observer x t = record { places = λ o. place o (cases_lt o (length x.places)); last = t.last }
  where
    new : (k : ℕ) → IsWithin x.mutations (slice_index_or (Some (length x.mutations) ∷ []) k None)
    new zero = omega arith
    new (suc k) = tt

    place : (o : ℕ) → ((o < length x.places) ⊎ (length x.places ≤ o)) → IsWithin x.mutations (taken_up_to o (with_observer x))
    place o (inl lt) = subst (IsWithin x.mutations) (sym (get_or_append_left x.places (Some (length x.mutations) ∷ []) None o lt)) (t.places o)
    place o (inr le) = subst (IsWithin x.mutations) (sym (get_or-append_right x.places (Some (length x.mutations) ∷ []) (length x.places) o None refl le)) (new (o - length x.places))

-- Each observer that is interested was made.

made-of : (x y : Observing) → y.notified ≡ x.notified → y.mutations ≡ x.mutations → length x.places ≤ length y.places → InterestedAreMade x → InterestedAreMade y
made-of x y e d more h =
    rw (e, d) (All-weaker (λ o. o < length x.places) (λ o. o < length y.places) (λ o lt. omega (arith, lt, more)) (flat_map observers_of (drop x.notified x.mutations)) h)

pub interested_made-taken : (o : ℕ) (x : Observing) → InterestedAreMade x → InterestedAreMade (records_taken o x)
interested_made-taken o x h = made-of x (records_taken o x) refl refl (let l = length-set x.places o (Some (length x.mutations)) in omega (arith, l)) h

pub interested_made-released : (o : ℕ) (x : Observing) → InterestedAreMade x → InterestedAreMade (released_observer o x)
interested_made-released o x h = made-of x (released_observer o x) refl refl (let l = length-set x.places o None in omega (arith, l)) h

pub interested_made-with_observer : (x : Observing) → InterestedAreMade x → InterestedAreMade (with_observer x)
interested_made-with_observer x h = made-of x (with_observer x) refl refl (let l = length-append x.places (Some (length x.mutations) ∷ []) in omega (arith, l)) h

pub interested_made-noted : (m : Mutation) (x : Observing) → x.notified ≤ length x.mutations → All (λ o. o < length x.places) (observers_of m) → InterestedAreMade x → InterestedAreMade (noted m x)
interested_made-noted m x le made h = subst (All (λ o. o < length x.places)) (sym whole) (All-append (λ o. o < length x.places) before (observers_of m) h made)
  where
    before : List ℕ
    before = flat_map observers_of (drop x.notified x.mutations)

    whole : flat_map observers_of (drop x.notified (x.mutations ++ m ∷ [])) ≡ before ++ observers_of m
    whole =
        ap (flat_map observers_of) (drop-append-le x.notified x.mutations (m ∷ []) le)
        ∙ flat_map-append observers_of (drop x.notified x.mutations) (m ∷ [])
        ∙ ap (λ os. before ++ os) (append-nil (observers_of m))

pub interested_made-pending_taken : (x : Observing) → InterestedAreMade (pending_taken x)
interested_made-pending_taken x =
    subst (λ ms. All (λ o. o < length x.places) (flat_map observers_of ms)) (sym (drop-length x.mutations)) (All-nil (λ o. o < length x.places))

pub interested_made-notified : (x : Observing) → InterestedAreMade (after_notify x)
interested_made-notified x =
    subst (λ ms. All (λ o. o < length (after_notify x).places) (flat_map observers_of ms)) (sym (drop-length x.mutations)) (All-nil (λ o. o < length (after_notify x).places))
