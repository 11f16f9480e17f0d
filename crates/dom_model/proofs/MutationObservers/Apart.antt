-- Observers do not feel one another: the observing part without some observers tells the others the same.
use Rattle.std.proofs.Common.{arith, ◌≡◌, ℕ, zero, suc, ◌+◌, ◌<◌, ◌≤◌, ◌==◌, Bool, true, false, not, if◌then◌else◌, List, [], ◌∷◌, ◌++◌, map, length, drop, Some, None, refl, ap, sym, ◌∙◌, append-nil, length-append, ◌-◌, ◌⊎◌, inl, inr}
use Rattle.std.specs.{Prelude.filter, Prelude.filter_map, Prelude.flat_map, Prelude.is_none, Prelude.is_some, Prelude.slice_index_or, List.list_any}
use Rattle.std.proofs.lemmas.{Bool.cases_Bool, Bool.Decides.nat_tests, Bool.false≢true, Bool.cases_lt, List.map-append, List.length-map, List.length-set, List.get_or-set_same, List.get_or-set_other, List.get_or_append_left, List.get_or-append_right, List.Elements.filter-append}
use Rattle.dom_model.specs.Definitions.{among, Options, Registration, Mutation, Observing, registered_on, standing_on, noted, transient_of, with_transients, Notification, interests, interested, record_by, record_for, observers_of, each_once, taken_up_to, has_observer, queue_of, pending_of, told_in, has_records, notifications, after_notify, pending_taken, is_transient_of, observer_told, records_taken, disconnected, released_observer, is_registered, is_transient_from, new_registration, with_options, registered, observed, with_observer}
use Rattle.dom_model.proofs.PlainLists.Numbers.{Same, same_or, same, apart}
use Rattle.dom_model.proofs.MutationObservers.{NodeRegistrations.filter-twice, NodeRegistrations.filter-map_kept, NodeRegistrations.registered_on-filter, Queues.each_once-filter, Queues.place-released, Queues.place-released_other, Queues.place-notified, Queues.among-passing, Queues.length-moved}

module _ (erased : ℕ → Bool) where
  abbrev pub is_left : Registration → Bool
  is_left r = not (erased r.observer)

  -- a mutation, with the registrations of the others alone
  abbrev pub left_of : Mutation → Mutation
  left_of m = record m { standing = filter is_left m.standing }

  -- x without the erased observers is y: the places of the others are the same
  pub record IsWithout (x y : Observing) : Type 0 where
    pub registrations : y.registrations ≡ filter is_left x.registrations
    pub mutations : y.mutations ≡ map left_of x.mutations
    pub places : (o : ℕ) → erased o ≡ false → taken_up_to o y ≡ taken_up_to o x
    pub made : length y.places ≡ length x.places
    pub last : y.notified ≡ x.notified

  filter-own : (o : ℕ) → erased o ≡ false → (rs : List Registration) → filter (λ (r : Registration). r.observer == o) (filter is_left rs) ≡ filter (λ (r : Registration). r.observer == o) rs
  filter-own o h [] = refl
  filter-own o h (r ∷ rs) = grind (arith, filter-own o h rs)

  pub record-left : (o : ℕ) → erased o ≡ false → (m : Mutation) → record_for o (left_of m) ≡ record_for o m
  record-left o h m =
      ap (record_by m) (ap (filter (λ (r : Registration). r.observer == o)) (filter-twice (interests m) is_left m.standing) ∙ filter-own o h (interested m))

  filter_map-left : (o : ℕ) → erased o ≡ false → (ms : List Mutation) → filter_map (record_for o) (map left_of ms) ≡ filter_map (record_for o) ms
  filter_map-left o h [] = refl
  filter_map-left o h (m ∷ ms) = grind (arith, record-left o h m, filter_map-left o h ms)

  drop-map : (n : ℕ) (ms : List Mutation) → drop n (map left_of ms) ≡ map left_of (drop n ms)
  drop-map zero ms = refl
  drop-map (suc n) [] = refl
  drop-map (suc n) (m ∷ ms) = drop-map n ms

  -- the others' queues are the same
  pub queue-left : (x y : Observing) → IsWithout x y → (o : ℕ) → erased o ≡ false → queue_of o y ≡ queue_of o x
  queue-left x y w o h = grind (arith, drop-map, filter_map-left o h)

  -- the others are there in both, or in neither
  pub there-left : (x y : Observing) → IsWithout x y → (o : ℕ) → erased o ≡ false → has_observer y o ≡ has_observer x o
  there-left x y w o h = ap is_some (w.places o h)

  -- the pending list is the same but for the erased ones

  abbrev pub is_other : ℕ → Bool
  is_other o = not (erased o)

  observers-left : (m : Mutation) → observers_of (left_of m) ≡ filter is_other (observers_of m)
  observers-left m = ap (map (λ (r : Registration). r.observer)) (filter-twice (interests m) is_left m.standing) ∙ go (interested m)
    where
      go : (rs : List Registration) → map (λ (r : Registration). r.observer) (filter is_left rs) ≡ filter is_other (map (λ (r : Registration). r.observer) rs)
      go [] = refl
      go (r ∷ rs) = grind (arith, cases_Bool (erased r.observer), go rs)

  flat_map-left : (ms : List Mutation) → flat_map observers_of (map left_of ms) ≡ filter is_other (flat_map observers_of ms)
  flat_map-left [] = refl
  flat_map-left (m ∷ ms) =
      ap (λ os. os ++ flat_map observers_of (map left_of ms)) (observers-left m)
      ∙ ap (λ os. filter is_other (observers_of m) ++ os) (flat_map-left ms)
      ∙ sym (filter-append is_other (observers_of m) (flat_map observers_of ms))

  filter-there : (x y : Observing) → IsWithout x y → (ns : List ℕ) → filter (has_observer y) (filter is_other ns) ≡ filter is_other (filter (has_observer x) ns)
  filter-there x y w [] = refl
  filter-there x y w (n ∷ ns) = grind (arith, nat_tests, filter-there x y w ns)

  pub pending-left : (x y : Observing) → IsWithout x y → pending_of y ≡ filter is_other (pending_of x)
  pending-left x y w =
      ap (λ n. filter (has_observer y) (each_once (flat_map observers_of (drop n y.mutations)))) w.last
      ∙ ap (λ ms. filter (has_observer y) (each_once (flat_map observers_of (drop x.notified ms)))) w.mutations
      ∙ ap (λ ms. filter (has_observer y) (each_once (flat_map observers_of ms))) (drop-map x.notified x.mutations)
      ∙ ap (λ os. filter (has_observer y) (each_once os)) (flat_map-left (drop x.notified x.mutations))
      ∙ ap (filter (has_observer y)) (each_once-filter is_other (flat_map observers_of (drop x.notified x.mutations)))
      ∙ filter-there x y w (each_once (flat_map observers_of (drop x.notified x.mutations)))

  -- what notify tells the others is the same

  told_in-left : (x y : Observing) → IsWithout x y → (os : List ℕ) → map (told_in y) (filter is_other os) ≡ filter (λ (t : Notification). is_other t.observer) (map (told_in x) os)
  told_in-left x y w [] = refl
  told_in-left x y w (o ∷ os) = grind (arith, cases_Bool (erased o), queue-left x y w o, told_in-left x y w os)

  pub told-left : (x y : Observing) → IsWithout x y → notifications y ≡ filter (λ (t : Notification). is_other t.observer) (notifications x)
  told-left x y w = grind (arith, pending-left x y w, told_in-left x y w (pending_of x), filter-twice has_records)

  -- Each step leaves the two as they were to one another.

  pub standing-left : (ns : List ℕ) (rs : List Registration) → standing_on ns (filter is_left rs) ≡ filter is_left (standing_on ns rs)
  standing-left [] rs = refl
  standing-left (n ∷ ns) rs =
      grind (arith, registered_on-filter n is_left rs, standing-left ns rs, filter-append is_left (registered_on n rs) (standing_on ns rs))

  pub noted-left : (x y : Observing) → IsWithout x y → (m : Mutation) → IsWithout (noted m x) (noted (left_of m) y)
  noted-left x y w m = record {
    registrations = w.registrations;
    mutations = ap (λ ms. ms ++ left_of m ∷ []) w.mutations ∙ sym (map-append left_of x.mutations (m ∷ []));
    places = w.places;
    made = w.made;
    last = w.last;
  }

  pub transients-left : (x y : Observing) → IsWithout x y → (n : ℕ) (above : List ℕ) → IsWithout (with_transients n above x) (with_transients n above y)
  transients-left x y w n above = record {
    registrations =
        ap (λ rs. rs ++ map (transient_of n) (filter (λ (r : Registration). r.options.subtree) (standing_on above rs))) w.registrations
        ∙ ap (λ rs. filter is_left x.registrations ++ map (transient_of n) rs)
        (ap (filter (λ (r : Registration). r.options.subtree)) (standing-left above x.registrations)
        ∙ filter-twice (λ (r : Registration). r.options.subtree) is_left (standing_on above x.registrations))
        ∙ ap (λ rs. filter is_left x.registrations ++ rs) (sym (filter-map_kept is_left (transient_of n) (λ r. refl) (filter (λ (r : Registration). r.options.subtree) (standing_on above x.registrations))))
        ∙ sym (filter-append is_left x.registrations (map (transient_of n) (filter (λ (r : Registration). r.options.subtree) (standing_on above x.registrations))));
    mutations = w.mutations;
    places = w.places;
    made = w.made;
    last = w.last;
  }

  pub notified-left : (x y : Observing) → IsWithout x y → IsWithout (after_notify x) (after_notify y)
  notified-left x y w = record {
    registrations = ap (filter (λ (r : Registration). is_none r.source)) w.registrations ∙ filter-twice (λ (r : Registration). is_none r.source) is_left x.registrations;
    mutations = w.mutations;
    places = λ o h.
        place-notified o y
        ∙ ap (λ b. if b then Some (length y.mutations) else taken_up_to o y) (pends o h)
        ∙ ap (λ l. if among o (pending_of x) then Some l else taken_up_to o y) long
        ∙ ap (λ place. if among o (pending_of x) then Some (length x.mutations) else place) (w.places o h)
        ∙ sym (place-notified o x);
    made = length-moved (length y.mutations) (pending_of y) y.places ∙ w.made ∙ sym (length-moved (length x.mutations) (pending_of x) x.places);
    last = long;
  }
    where
      long : length y.mutations ≡ length x.mutations
      long = ap length w.mutations ∙ length-map x.mutations left_of

      pends : (o : ℕ) → erased o ≡ false → among o (pending_of y) ≡ among o (pending_of x)
      pends o h = ap (among o) (pending-left x y w) ∙ among-passing is_other o (ap not h) (pending_of x)

  pub pending_taken-left : (x y : Observing) → IsWithout x y → IsWithout (pending_taken x) (pending_taken y)
  pending_taken-left x y w = record {
    registrations = w.registrations;
    mutations = w.mutations;
    places = w.places;
    made = w.made;
    last = ap length w.mutations ∙ length-map x.mutations left_of;
  }

  -- records of an erased observer are taken in the one alone, those of another in both
  pub taken-erased : (x y : Observing) → IsWithout x y → (o : ℕ) → erased o ≡ true → IsWithout (records_taken o x) y
  taken-erased x y w o h = record {
    registrations = w.registrations;
    mutations = w.mutations;
    places = λ p k. w.places p k ∙ sym (get_or-set_other x.places o p (Some (length x.mutations)) None (λ d. false≢true (sym k ∙ ap erased d ∙ h)));
    made = w.made ∙ sym (length-set x.places o (Some (length x.mutations)));
    last = w.last;
  }

  pub taken-left : (x y : Observing) → IsWithout x y → (o : ℕ) → o < length x.places → IsWithout (records_taken o x) (records_taken o y)
  taken-left x y w o h = record {
    registrations = w.registrations;
    mutations = w.mutations;
    places = λ p k. place p k (same_or p o);
    made = length-set y.places o (Some (length y.mutations)) ∙ w.made ∙ sym (length-set x.places o (Some (length x.mutations)));
    last = w.last;
  }
    where
      long : length y.mutations ≡ length x.mutations
      long = ap length w.mutations ∙ length-map x.mutations left_of

      place : (p : ℕ) → erased p ≡ false → Same p o → taken_up_to p (records_taken o y) ≡ taken_up_to p (records_taken o x)
      place p k (apart ne t) = get_or-set_other y.places o p (Some (length y.mutations)) None ne ∙ w.places p k ∙ sym (get_or-set_other x.places o p (Some (length x.mutations)) None ne)
      place p k (same d t) =
          grind (arith, long, w.made, get_or-set_same y.places o (Some (length y.mutations)) None, get_or-set_same x.places o (Some (length x.mutations)) None h)

  -- an erased observer is disconnected in the one alone, another in both
  pub disconnected-erased : (x y : Observing) → IsWithout x y → (o : ℕ) → erased o ≡ true → IsWithout (disconnected o x) y
  disconnected-erased x y w o h =
      let t = taken-erased x y w o h in
      record {
        registrations = w.registrations ∙ go x.registrations;
        mutations = t.mutations;
        places = t.places;
        made = t.made;
        last = t.last;
      }
    where
      go : (rs : List Registration) → filter is_left rs ≡ filter is_left (filter (λ (r : Registration). not (r.observer == o)) rs)
      go [] = refl
      go (r ∷ rs) = grind (arith, nat_tests, cases_Bool (erased r.observer), go rs)

  pub disconnected-left : (x y : Observing) → IsWithout x y → (o : ℕ) → o < length x.places → IsWithout (disconnected o x) (disconnected o y)
  disconnected-left x y w o h =
      let t = taken-left x y w o h in
      record {
        registrations = ap (filter (λ (r : Registration). not (r.observer == o))) w.registrations ∙ filter-twice (λ (r : Registration). not (r.observer == o)) is_left x.registrations;
        mutations = t.mutations;
        places = t.places;
        made = t.made;
        last = t.last;
      }

  -- an erased observer is told in the one alone, another in both
  pub observer_told-erased : (x y : Observing) → IsWithout x y → (o : ℕ) → erased o ≡ true → IsWithout (observer_told o x) y
  observer_told-erased x y w o h =
      let t = taken-erased x y w o h in
      record {
        registrations = w.registrations ∙ go x.registrations;
        mutations = t.mutations;
        places = t.places;
        made = t.made;
        last = t.last;
      }
    where
      go : (rs : List Registration) → filter is_left rs ≡ filter is_left (filter (λ (r : Registration). not (is_transient_of o r)) rs)
      go [] = refl
      go (r ∷ rs) = grind (arith, nat_tests, cases_Bool (erased r.observer), cases_Bool (is_some r.source), go rs)

  pub observer_told-left : (x y : Observing) → IsWithout x y → (o : ℕ) → o < length x.places → IsWithout (observer_told o x) (observer_told o y)
  observer_told-left x y w o h =
      let t = taken-left x y w o h in
      record {
        registrations = ap (filter (λ (r : Registration). not (is_transient_of o r))) w.registrations ∙ filter-twice (λ (r : Registration). not (is_transient_of o r)) is_left x.registrations;
        mutations = t.mutations;
        places = t.places;
        made = t.made;
        last = t.last;
      }

  -- an erased observer is released in the one alone, another in both
  pub released-erased : (x y : Observing) → IsWithout x y → (o : ℕ) → erased o ≡ true → IsWithout (released_observer o x) y
  released-erased x y w o h =
      let d = disconnected-erased x y w o h in
      record {
        registrations = d.registrations;
        mutations = d.mutations;
        places = λ p k. w.places p k ∙ sym (place-released_other o p x (λ e. false≢true (sym k ∙ ap erased e ∙ h)));
        made = w.made ∙ sym (length-set x.places o None);
        last = w.last;
      }

  pub released-left : (x y : Observing) → IsWithout x y → (o : ℕ) → IsWithout (released_observer o x) (released_observer o y)
  released-left x y w o = record {
    registrations = ap (filter (λ (r : Registration). not (r.observer == o))) w.registrations ∙ filter-twice (λ (r : Registration). not (r.observer == o)) is_left x.registrations;
    mutations = w.mutations;
    places = λ p k. place p k (same_or p o);
    made = length-set y.places o None ∙ w.made ∙ sym (length-set x.places o None);
    last = w.last;
  }
    where
      place : (p : ℕ) → erased p ≡ false → Same p o → taken_up_to p (released_observer o y) ≡ taken_up_to p (released_observer o x)
      place p k (apart ne t) = place-released_other o p y ne ∙ w.places p k ∙ sym (place-released_other o p x ne)
      place p k (same d t) = grind (arith, nat_tests, place-released o y, place-released o x)

  -- an erased observer observes in the one alone
  pub observed-erased : (x y : Observing) → IsWithout x y → (o n : ℕ) (options : Options) → erased o ≡ true → IsWithout (observed o n options x) y
  observed-erased x y w o n options h = record {
    registrations = w.registrations ∙ sym (by_test (list_any (is_registered o n) x.registrations));
    mutations = w.mutations;
    places = w.places;
    made = w.made;
    last = w.last;
  }
    where
      off : (r : Registration) → erased r.observer ≡ false → (r.observer == o) ≡ false
      off r e = elim (same_or r.observer o) [ same d t ↦ absurd (false≢true (sym e ∙ ap erased d ∙ h)) | apart ne t ↦ t ]

      go : (rs : List Registration) → filter is_left (map (with_options o n options) (filter (λ (r : Registration). not (is_transient_from o n r)) rs)) ≡ filter is_left rs
      go [] = refl
      go (r ∷ rs) =
          grind (arith, nat_tests, cases_Bool (erased r.observer), cases_Bool (is_transient_from o n r), cases_Bool (is_registered o n r), off r, go rs)

      by_test : (v : Bool) → filter is_left (if v then map (with_options o n options) (filter (λ (r : Registration). not (is_transient_from o n r)) x.registrations) else x.registrations ++ new_registration o n options ∷ []) ≡ filter is_left x.registrations
      by_test true = go x.registrations
      by_test false = filter-append is_left x.registrations (new_registration o n options ∷ []) ∙ (rw h (append-nil (filter is_left x.registrations)))

  -- another observer observes in both
  pub observed-left : (x y : Observing) → IsWithout x y → (o n : ℕ) (options : Options) → erased o ≡ false → IsWithout (observed o n options x) (observed o n options y)
  observed-left x y w o n options h = record {
    registrations = ap (registered o n options) w.registrations ∙ rw (any x.registrations) (by_test (list_any (is_registered o n) x.registrations));
    mutations = w.mutations;
    places = w.places;
    made = w.made;
    last = w.last;
  }
    where
      any : (rs : List Registration) → list_any (is_registered o n) (filter is_left rs) ≡ list_any (is_registered o n) rs
      any [] = refl
      any (r ∷ rs) = grind (arith, nat_tests, cases_Bool (erased r.observer), any rs)

      kept : (r : Registration) → is_left (with_options o n options r) ≡ is_left r
      kept r = grind (arith, cases_Bool (is_registered o n r))

      by_test : (v : Bool) → (if v then map (with_options o n options) (filter (λ (r : Registration). not (is_transient_from o n r)) (filter is_left x.registrations)) else filter is_left x.registrations ++ new_registration o n options ∷ []) ≡ filter is_left (if v then map (with_options o n options) (filter (λ (r : Registration). not (is_transient_from o n r)) x.registrations) else x.registrations ++ new_registration o n options ∷ [])
      by_test true =
          ap (map (with_options o n options)) (filter-twice (λ (r : Registration). not (is_transient_from o n r)) is_left x.registrations)
          ∙ sym (filter-map_kept is_left (with_options o n options) kept (filter (λ (r : Registration). not (is_transient_from o n r)) x.registrations))
      by_test false = sym (filter-append is_left x.registrations (new_registration o n options ∷ []) ∙ (rw h refl))

  -- an observer is made in both
  pub made-left : (x y : Observing) → IsWithout x y → IsWithout (with_observer x) (with_observer y)
  made-left x y w = record {
    registrations = w.registrations;
    mutations = w.mutations;
    places = λ o h. place o h (cases_lt o (length x.places));
    made = length-append y.places (Some (length y.mutations) ∷ []) ∙ ap (λ l. l + 1) w.made ∙ sym (length-append x.places (Some (length x.mutations) ∷ []));
    last = w.last;
  }
    where
      long : length y.mutations ≡ length x.mutations
      long = ap length w.mutations ∙ length-map x.mutations left_of

      place : (o : ℕ) → erased o ≡ false → ((o < length x.places) ⊎ (length x.places ≤ o)) → taken_up_to o (with_observer y) ≡ taken_up_to o (with_observer x)
      place o h (inl lt) =
          grind (arith, nat_tests, get_or_append_left y.places (Some (length y.mutations) ∷ []) None o, get_or_append_left x.places (Some (length x.mutations) ∷ []) None o lt)
      place o h (inr le) =
          get_or-append_right y.places (Some (length y.mutations) ∷ []) (length x.places) o None w.made le
          ∙ ap (λ l. slice_index_or (Some l ∷ []) (o - length x.places) None) long
          ∙ sym (get_or-append_right x.places (Some (length x.mutations) ∷ []) (length x.places) o None refl le)
