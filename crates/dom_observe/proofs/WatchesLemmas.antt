-- The observing part that observers stand for goes with them, step by step.
use Rattle.std.proofs.Common.{◌≡◌, ℕ, zero, suc, ◌-◌, ◌<◌, ◌≤◌, ◌==◌, Bool, true, false, not, ◌&&◌, if◌then◌else◌, cond, List, [], ◌∷◌, ◌++◌, length, map, filter, Option, None, Some, is_some, refl, ap, sym, ◌∙◌, subst, arith, length-append, append-nil, ◌⊎◌, inl, inr, slice_index_or, slice_set, is_none, filter_map, option_to_list}
use Rattle.std.specs.List.{list_any, AllByRecursion}
use Rattle.std.proofs.lemmas.{List.get_or_append_left, List.get_or-append_right, List.get_or_past, List.length-set, List.Elements.All-from_recursion, Bool.true≢false, Bool.or_parts, Bool.cases_lt}
use Rattle.std.proofs.Math.Seq.{drop-length}
use Rattle.dom_model.specs.Definitions.{Options, Registration, Mutation, Observing, Record, registered_on, standing_on, transient_of, with_transients, noted, is_registered, is_transient_from, new_registration, with_options, registered, observed, taken_up_to, has_observer, records_past, queue_of, with_observer, records_taken, released_observer, record_by, record_for, interested, observers_of, pending_of, after_notify, pending_taken, among, left_out, with_all_last}
use Rattle.dom_model.proofs.PlainLists.Numbers.{Same, same_or, same, apart}
use Rattle.dom_model.proofs.MutationObservers.{Queues.IsTimely, Queues.observer-made, Queues.there-taken, Queues.place-released, Queues.place-released_other, Queues.there-notified, Queues.length-moved, Queues.pending-pending_taken, Queues.interested_made-pending_taken, Queues.queue-with_observer, Queues.queue-taken, Queues.queue-kept, Queues.queue-released, Queues.queue-released_other, Queues.timely-taken, Queues.timely-released, Queues.timely-notified, Queues.timely-with_observer, Queues.timely-noted, Queues.queue-noted, Queues.pending-noted_there, Queues.pending-taken, Queues.pending-released, Queues.pending-with_observer, Queues.queue-notified, Queues.pending-notified, Queues.interested_made-taken, Queues.interested_made-released, Queues.interested_made-with_observer, Queues.interested_made-noted, Queues.interested_made-notified, NodeRegistrations.registered_on-filter, NodeRegistrations.registered-there, NodeRegistrations.registrations-observed, NodeRegistrations.registrations-observed_again, NodeRegistrations.registrations-transients}
use Rattle.dom_observe.specs.{WithoutRepeats.same_registration, WithoutRepeats.once, Watchers.Watchers, Watchers.Watches, Watchers.records_at, Watchers.on, Invariant.has_queue, Invariant.AllThere}
use Rattle.dom_observe.proofs.{TallyLemmas.tally, TallyLemmas.count-append, TallyLemmas.count-filter, TallyLemmas.count-map, TallyLemmas.count-none, TallyLemmas.count-fails, TallyLemmas.any-from_count, ObservedNodesLemmas.fewer, QueueListLemmas.has-set, QueueListLemmas.has-gone, QueueListLemmas.records-none, QueueListLemmas.records-set, QueueListLemmas.records-gone, QueueListLemmas.records-stay, QueueListLemmas.records-more, ReleaseLemmas.there-each, RegistrationTableLemmas.all_imply, OnceLemmas.not-same, OnceLemmas.apart_from, OnceLemmas.filter-once, OnceLemmas.any-once, OnceLemmas.once-new, OnceLemmas.apart-map}

-- options put in place leave a registration the observer's or not
own-with_options : (o n i m : ℕ) (options : Options) (r : Registration) → is_registered i m (with_options o n options r) ≡ is_registered i m r
own-with_options o n i m options r = go (is_registered o n r)
  where
    go : (v : Bool) → is_registered i m (if v then record r { options = options } else r) ≡ is_registered i m r
    go true = refl
    go false = refl

-- options put in place of one make it equal to none other
map-with_options : (o n : ℕ) (options : Options) (rs : List Registration) → tally (is_registered o n) rs ≤ 1 → map (with_options o n options) (once rs) ≡ once (map (with_options o n options) rs)
map-with_options o n options [] h = refl
map-with_options o n options (r ∷ rs) h =
    ap (λ ys. with_options o n options r ∷ ys)
    (sym (apart-map (with_options o n options) r (once rs) (each (is_registered o n r) refl h))
    ∙ ap (apart_from (with_options o n options r)) (map-with_options o n options rs (fewer_behind (is_registered o n r) h)))
  where
    fewer_behind : (b : Bool) → length (cond b (r ∷ filter (is_registered o n) rs) (filter (is_registered o n) rs)) ≤ 1 → tally (is_registered o n) rs ≤ 1
    fewer_behind true l = omega (arith, l)
    fewer_behind false l = l

    kept : (s : Registration) → is_registered o n s ≡ false → with_options o n options s ≡ s
    kept s e = ap (λ b. if b then record s { options = options } else s) e

    -- one of two is the observer's
    told : (s t : Registration) → is_registered o n s ≡ true → is_registered o n t ≡ false → same_registration s t ≡ false
    told s t e f = not-same (λ q. not (is_registered o n q)) s t (ap not e) (ap not f)

    pair : (s : Registration) → (b c : Bool) → is_registered o n r ≡ b → is_registered o n s ≡ c → (b && c) ≡ false → same_registration (with_options o n options r) (with_options o n options s) ≡ same_registration r s
    pair s true true e f z = absurd (true≢false z)
    pair s true false e f z = told (with_options o n options r) (with_options o n options s) (own-with_options o n o n options r ∙ e) (own-with_options o n o n options s ∙ f) ∙ sym (told r s e f)
    pair s false true e f z =
        not-same (is_registered o n) (with_options o n options r) (with_options o n options s) (own-with_options o n o n options r ∙ e) (own-with_options o n o n options s ∙ f)
        ∙ sym (not-same (is_registered o n) r s e f)
    pair s false false e f z = (λ i. same_registration (kept r e i) (kept s f i))

    without : (ss : List Registration) → list_any (is_registered o n) ss ≡ false → is_registered o n r ≡ true → AllByRecursion (λ s. same_registration (with_options o n options r) (with_options o n options s) ≡ same_registration r s) ss
    without [] none e = tt
    without (s ∷ ss) none e =
        let f = or_parts (is_registered o n s) (list_any (is_registered o n) ss) none in
        (pair s true false e f.0 refl, without ss f.1 e)

    any_of : (ss : List Registration) → is_registered o n r ≡ false → AllByRecursion (λ s. same_registration (with_options o n options r) (with_options o n options s) ≡ same_registration r s) ss
    any_of [] e = tt
    any_of (s ∷ ss) e = (pair s false (is_registered o n s) e refl refl, any_of ss e)

    each : (b : Bool) → is_registered o n r ≡ b → length (cond b (r ∷ filter (is_registered o n) rs) (filter (is_registered o n) rs)) ≤ 1
        → AllByRecursion (λ s. same_registration (with_options o n options r) (with_options o n options s) ≡ same_registration r s) (once rs)
    each true e l = without (once rs) (any-once (is_registered o n) rs ∙ any-from_count (is_registered o n) rs (omega (arith, l))) e
    each false e l = any_of (once rs) e

-- one queue more, and one place more
new_there : (q : List Record) (l k : ℕ) → is_some (slice_index_or (Some q ∷ []) k None) ≡ is_some (slice_index_or (Some l ∷ []) k None)
new_there q l zero = refl
new_there q l (suc k) = refl

module _ (x : Observing) where
  -- one that is not there has no queue
  pub no_records : (i : ℕ) → has_observer x i ≡ false → queue_of i x ≡ []
  no_records i gone = go (taken_up_to i x) gone
    where
      go : (place : Option ℕ) → is_some place ≡ false → records_past i x.mutations place ≡ []
      go None h = refl
      go (Some k) h = absurd (true≢false h)

  -- one more observer: the queues stay, and nothing waits for it
  pub queue-more : (i : ℕ) → queue_of i (with_observer x) ≡ queue_of i x
  queue-more i = go (cases_lt i (length x.places))
    where
      new : (k : ℕ) → records_past i x.mutations (slice_index_or (Some (length x.mutations) ∷ []) k None) ≡ []
      new zero = ap (filter_map (record_for i)) (drop-length x.mutations)
      new (suc k) = refl

      go : ((i < length x.places) ⊎ (length x.places ≤ i)) → queue_of i (with_observer x) ≡ queue_of i x
      go (inl lt) = queue-with_observer i x lt
      go (inr le) =
          ap (records_past i x.mutations) (get_or-append_right x.places (Some (length x.mutations) ∷ []) (length x.places) i None refl le)
          ∙ new (i - length x.places)
          ∙ sym (ap (records_past i x.mutations) (get_or_past x.places i None le))

module _ (o : Watchers) (x : Observing) (w : Watches o x) where
  pub timely : IsTimely x
  timely = record { places = w.places; last = w.notified }

  there_of : (i : ℕ) → has_queue o.queues i ≡ true → has_observer x i ≡ true
  there_of i held_there = sym (w.there i) ∙ held_there

  pub watches-made : Watches (record o { queues = o.queues ++ Some [] ∷ [] }) (with_observer x)
  watches-made = record {
    registrations = w.registrations;
    made = omega (arith, length-append x.places (Some (length x.mutations) ∷ []), length-append o.queues (Some [] ∷ []), w.made);
    there = λ i. there i (cases_lt i (length x.places));
    queues = λ i. records-more o.queues i ∙ w.queues i ∙ sym (queue-more x i);
    pending = w.pending ∙ sym (pending-with_observer x w.interested);
    places = (timely-with_observer x timely).places;
    notified = w.notified;
    interested = interested_made-with_observer x w.interested;
    once = w.once;
  }
    where
      there : (i : ℕ) → ((i < length x.places) ⊎ (length x.places ≤ i)) → has_queue (o.queues ++ Some [] ∷ []) i ≡ has_observer (with_observer x) i
      there i (inl lt) = ap is_some (get_or_append_left o.queues (Some [] ∷ []) None i (omega (arith, lt, w.made))) ∙ w.there i ∙ sym (ap is_some (get_or_append_left x.places (Some (length x.mutations) ∷ []) None i lt))
      there i (inr le) =
          ap is_some (get_or-append_right o.queues (Some [] ∷ []) (length x.places) i None (sym w.made) le)
          ∙ new_there [] (length x.mutations) (i - length x.places)
          ∙ sym (ap is_some (get_or-append_right x.places (Some (length x.mutations) ∷ []) (length x.places) i None refl le))

  pub watches-taken : (i : ℕ) → has_queue o.queues i ≡ true → Watches (record o { queues = slice_set o.queues i (Some []) }) (records_taken i x)
  watches-taken i held_there = record {
    registrations = w.registrations;
    made = length-set x.places i (Some (length x.mutations)) ∙ w.made ∙ sym (length-set o.queues i (Some []));
    there = λ j. has-set o.queues i held_there [] j ∙ w.there j ∙ sym (there-taken i x (there_of i held_there) j);
    queues = λ j. records-set o.queues i held_there [] j ∙ queue j (same_or i j);
    pending = w.pending ∙ sym (pending-taken i x (there_of i held_there));
    places = (timely-taken i x timely).places;
    notified = w.notified;
    interested = interested_made-taken i x w.interested;
    once = w.once;
  }
    where
      queue : (j : ℕ) → Same i j → (if i == j then [] else records_at o.queues j) ≡ queue_of j (records_taken i x)
      queue j (same e t) = rw t (sym (ap (λ k. queue_of k (records_taken i x)) (sym e) ∙ queue-taken i x (observer-made x i (there_of i held_there))))
      queue j (apart ne t) = rw t (w.queues j ∙ sym (queue-kept i j x (λ e. ne (sym e))))

  -- the observer has no place any more
  pub watches-released : (i : ℕ) → Watches (record o { queues = slice_set o.queues i None; pending = left_out i o.pending }) (record x { places = slice_set x.places i None })
  watches-released i = record {
    registrations = w.registrations;
    made = length-set x.places i None ∙ w.made ∙ sym (length-set o.queues i None);
    there = λ j. has-gone o.queues i j ∙ ap (λ b. if j == i then false else b) (w.there j) ∙ sym (there j (same_or j i));
    queues = λ j. queue j (same_or j i);
    pending = ap (left_out i) w.pending ∙ sym (pending-released i x);
    places = (timely-released i x timely).places;
    notified = w.notified;
    interested = interested_made-released i x w.interested;
    once = w.once;
  }
    where
      there : (j : ℕ) → Same j i → has_observer (released_observer i x) j ≡ (if j == i then false else has_observer x j)
      there j (same e t) = rw t (ap (has_observer (released_observer i x)) e ∙ ap is_some (place-released i x))
      there j (apart ne t) = rw t (ap is_some (place-released_other i j x ne))

      queue : (j : ℕ) → Same j i → records_at (slice_set o.queues i None) j ≡ queue_of j (released_observer i x)
      queue j (same e t) = ap (records_at (slice_set o.queues i None)) e ∙ records-gone o.queues i ∙ sym (ap (λ k. queue_of k (released_observer i x)) e ∙ queue-released i x)
      queue j (apart ne t) = records-stay o.queues i j ne ∙ w.queues j ∙ sym (queue-released_other i j x ne)

  -- nodes and registrations change, and nothing else
  pub watches-registered : (nodes : List (ℕ × List Registration)) (rs : List Registration) → ((n : ℕ) → on n nodes ≡ once (registered_on n rs))
      → ((i n : ℕ) → tally (is_registered i n) rs ≤ 1) → Watches (record o { nodes = nodes }) (record x { registrations = rs })
  watches-registered nodes rs by_node once = record {
    registrations = by_node;
    made = w.made;
    there = w.there;
    queues = w.queues;
    pending = w.pending;
    places = w.places;
    notified = w.notified;
    interested = w.interested;
    once = once;
  }

  pub watches-filtered : (keep : Registration → Bool) (nodes : List (ℕ × List Registration)) → ((n : ℕ) → on n nodes ≡ filter keep (on n o.nodes))
      → Watches (record o { nodes = nodes }) (record x { registrations = filter keep x.registrations })
  watches-filtered keep nodes kept = watches-registered nodes (filter keep x.registrations)
      (λ n. kept n ∙ ap (filter keep) (w.registrations n) ∙ filter-once keep (registered_on n x.registrations) ∙ ap once (sym (registered_on-filter n keep x.registrations)))
      (λ i n. let c = count-filter (is_registered i n) keep x.registrations in let k = w.once i n in omega arith)

  -- where the observer has no registration on the node
  pub watches-observed : (i n : ℕ) (options : Options) (nodes : List (ℕ × List Registration)) → list_any (is_registered i n) (on n o.nodes) ≡ false
      → ((m : ℕ) → on m nodes ≡ on m o.nodes ++ (if n == m then new_registration i n options ∷ [] else []))
      → Watches (record o { nodes = nodes }) (observed i n options x)
  watches-observed i n options nodes none added = watches-registered nodes (registered i n options x.registrations)
      (λ m. added m ∙ ap (λ rs. rs ++ (if n == m then new_registration i n options ∷ [] else [])) (w.registrations m) ∙ new (n == m) (registered_on m x.registrations) (fewer (is_registered i n) (λ (r : Registration). r.node == m) x.registrations absent) ∙ ap once (sym (registrations-observed i n m options x.registrations absent)))
      seldom
    where
      absent : list_any (is_registered i n) x.registrations ≡ false
      absent = sym (registered-there i n x.registrations) ∙ sym (any-once (is_registered i n) (registered_on n x.registrations)) ∙ ap (list_any (is_registered i n)) (sym (w.registrations n)) ∙ none

      is_its : is_registered i n (new_registration i n options) ≡ true
      is_its = elim (same_or i i) [ same _ t ↦ elim (same_or n n) [ same _ u ↦ rw (t, u) refl | apart ne _ ↦ absurd (ne refl) ] | apart ne _ ↦ absurd (ne refl) ]

      new : (b : Bool) (rs : List Registration) → list_any (is_registered i n) rs ≡ false → once rs ++ (if b then new_registration i n options ∷ [] else []) ≡ once (rs ++ (if b then new_registration i n options ∷ [] else []))
      new true rs gone = sym (once-new (is_registered i n) (new_registration i n options) is_its rs gone)
      new false rs gone = append-nil (once rs) ∙ ap once (sym (append-nil rs))

      last : (j m : ℕ) → Same i j → Same n m → tally (is_registered j m) (x.registrations ++ new_registration i n options ∷ []) ≤ 1
      last j m (same d t) (same e u) =
          let z : tally (is_registered j m) x.registrations ≡ 0 =
          subst (λ k. tally (is_registered k m) x.registrations ≡ 0) d (subst (λ k. tally (is_registered i k) x.registrations ≡ 0) e (count-none (is_registered i n) x.registrations absent)) in
          rw (count-append (is_registered j m) x.registrations (new_registration i n options ∷ []), t, u) (omega (arith, z))
      last j m (same d t) (apart ne u) = rw (count-append (is_registered j m) x.registrations (new_registration i n options ∷ []), t, u) (let k = w.once j m in omega arith)
      last j m (apart ne t) u = rw (count-append (is_registered j m) x.registrations (new_registration i n options ∷ []), t) (let k = w.once j m in omega arith)

      seldom : (j m : ℕ) → tally (is_registered j m) (registered i n options x.registrations) ≤ 1
      seldom j m = rw absent (last j m (same_or i j) (same_or n m))

  -- where it has one
  pub watches-observed_again : (i n : ℕ) (options : Options) (nodes : List (ℕ × List Registration)) → list_any (is_registered i n) (on n o.nodes) ≡ true
      → ((m : ℕ) → on m nodes ≡ map (with_options i n options) (filter (λ (r : Registration). not (is_transient_from i n r)) (on m o.nodes)))
      → Watches (record o { nodes = nodes }) (observed i n options x)
  watches-observed_again i n options nodes one changed = watches-registered nodes (registered i n options x.registrations)
      (λ m. changed m
      ∙ ap (λ rs. map (with_options i n options) (filter (λ (r : Registration). not (is_transient_from i n r)) rs)) (w.registrations m)
      ∙ ap (map (with_options i n options)) (filter-once (λ (r : Registration). not (is_transient_from i n r)) (registered_on m x.registrations))
      ∙ map-with_options i n options (filter (λ (r : Registration). not (is_transient_from i n r)) (registered_on m x.registrations)) (few m)
      ∙ ap once (sym (registrations-observed_again i n m options x.registrations there)))
      (λ j m. rw there (
      let c = count-map (is_registered j m) (with_options i n options) (own-with_options i n j m options) (filter (λ (r : Registration). not (is_transient_from i n r)) x.registrations) in
      let d = count-filter (is_registered j m) (λ (r : Registration). not (is_transient_from i n r)) x.registrations in
      let k = w.once j m in
      omega arith))
    where
      few : (m : ℕ) → tally (is_registered i n) (filter (λ (r : Registration). not (is_transient_from i n r)) (registered_on m x.registrations)) ≤ 1
      few m =
          let c = count-filter (is_registered i n) (λ (r : Registration). not (is_transient_from i n r)) (registered_on m x.registrations) in
          let d = count-filter (is_registered i n) (λ (r : Registration). r.node == m) x.registrations in
          let k = w.once i n in
          omega arith

      there : list_any (is_registered i n) x.registrations ≡ true
      there = sym (registered-there i n x.registrations) ∙ sym (any-once (is_registered i n) (registered_on n x.registrations)) ∙ ap (list_any (is_registered i n)) (sym (w.registrations n)) ∙ one

  pub watches-transients : (node : ℕ) (above : List ℕ) (nodes : List (ℕ × List Registration))
      → ((n : ℕ) → on n nodes ≡ once (registered_on n x.registrations ++ (if node == n then map (transient_of node) (filter (λ (r : Registration). r.options.subtree) (standing_on above x.registrations)) else [])))
      → Watches (record o { nodes = nodes }) (with_transients node above x)
  watches-transients node above nodes added = watches-registered nodes _
      (λ n. added n ∙ ap once (sym (registrations-transients node n x.registrations subtree)))
      (λ j m.
      let c = count-append (is_registered j m) x.registrations (map (transient_of node) subtree) in
      let d = count-fails2 j m subtree in
      let k = w.once j m in
      omega arith)
    where
      subtree : List Registration
      subtree = filter (λ (r : Registration). r.options.subtree) (standing_on above x.registrations)

      fails : (a b : Bool) → (a && (b && false)) ≡ false
      fails true true = refl
      fails true false = refl
      fails false b = refl

      count-fails2 : (j m : ℕ) (rs : List Registration) → tally (is_registered j m) (map (transient_of node) rs) ≡ 0
      count-fails2 j m rs = count-fails (is_registered j m) (transient_of node) (λ r. fails (r.observer == j) (node == m)) rs

-- A mutation is noted.

module _ (o : Watchers) (x : Observing) (w : Watches o x) (m : Mutation) where
  -- its records are in the queues, and whom it interests is pending
  pub watches-noted : (queues : List (Option (List Record))) (pending : List ℕ) → length queues ≡ length o.queues
      → ((i : ℕ) → has_queue queues i ≡ has_queue o.queues i)
      → ((i : ℕ) → records_at queues i ≡ records_at o.queues i ++ option_to_list (record_for i m))
      → pending ≡ with_all_last o.pending (observers_of m)
      → ((i : ℕ) → among i (observers_of m) ≡ true → has_queue o.queues i ≡ true)
      → Watches (record o { queues = queues; pending = pending }) (noted m x)
  watches-noted queues pending same_length same_there told pended known = record {
    registrations = w.registrations;
    made = w.made ∙ sym same_length;
    there = λ i. same_there i ∙ w.there i;
    queues = λ i. queue i (has_observer x i) refl;
    pending =
        pended ∙ ap (λ ps. with_all_last ps (observers_of m)) w.pending
        ∙ sym (pending-noted_there m x w.notified (All-from_recursion (λ i. has_observer x i ≡ true) (observers_of m) all_there));
    places = (timely-noted m x (timely o x w)).places;
    notified = (timely-noted m x (timely o x w)).last;
    interested = interested_made-noted m x w.notified (All-from_recursion (λ i. i < length x.places) (observers_of m) (all_imply (λ i. has_observer x i ≡ true) (λ i. i < length x.places) (observer-made x) (observers_of m) all_there)) w.interested;
    once = w.once;
  }
    where
      queue : (i : ℕ) (b : Bool) → has_observer x i ≡ b → records_at queues i ≡ queue_of i (noted m x)
      queue i true e = told i ∙ ap (λ rs. rs ++ option_to_list (record_for i m)) (w.queues i) ∙ sym (queue-noted i m x e (w.places i))
      queue i false e = records-none queues i (same_there i ∙ w.there i ∙ e) ∙ sym (no_records (noted m x) i e)

      all_there : AllThere (has_observer x) (observers_of m)
      all_there = there-each (has_observer x) (observers_of m) (λ i there. there_of o x w i (known i there))

  -- a mutation that interests nobody changes no queue, and not the pending list
  pub watches-unheard : interested m ≡ [] → Watches o (noted m x)
  watches-unheard nobody = watches-noted o.queues o.pending refl (λ i. refl)
      (λ i. sym (ap (λ rs. records_at o.queues i ++ option_to_list (record_by m (filter (λ (r : Registration). r.observer == i) rs))) nobody ∙ append-nil (records_at o.queues i)))
      (sym (ap (λ rs. with_all_last o.pending (map (λ (r : Registration). r.observer) rs)) nobody))
      (λ i there. absurd (true≢false (sym there ∙ ap (λ rs. among i (map (λ (r : Registration). r.observer) rs)) nobody)))

  -- where nothing stands on the ancestors, no registration is left behind
  pub watches-unstood : (node : ℕ) (above : List ℕ) → standing_on above x.registrations ≡ [] → Watches o (with_transients node above x)
  watches-unstood node above nothing = subst (λ rs. Watches o (record x { registrations = rs })) (sym same_registrations) w
    where
      same_registrations : (with_transients node above x).registrations ≡ x.registrations
      same_registrations = ap (λ ss. x.registrations ++ map (transient_of node) (filter (λ (r : Registration). r.options.subtree) ss)) nothing ∙ append-nil x.registrations

-- Everybody is notified.
module _ (o : Watchers) (x : Observing) (w : Watches o x) where
  pub watches-notified : (nodes : List (ℕ × List Registration)) (queues : List (Option (List Record))) (pending : List ℕ)
      → ((n : ℕ) → on n nodes ≡ filter (λ (r : Registration). is_none r.source) (on n o.nodes))
      → length queues ≡ length o.queues → ((i : ℕ) → has_queue queues i ≡ has_queue o.queues i) → ((i : ℕ) → records_at queues i ≡ (if among i o.pending then [] else records_at o.queues i)) → pending ≡ []
      → Watches (record { nodes = nodes; queues = queues; pending = pending }) (after_notify x)
  watches-notified nodes queues pending kept same_length same_there emptied none = record {
    registrations = λ n. kept n ∙ ap (filter (λ (r : Registration). is_none r.source)) (w.registrations n) ∙ filter-once (λ (r : Registration). is_none r.source) (registered_on n x.registrations) ∙ ap once (sym (registered_on-filter n (λ (r : Registration). is_none r.source) x.registrations));
    made = length-moved (length x.mutations) (pending_of x) x.places ∙ w.made ∙ sym same_length;
    there = λ i. same_there i ∙ w.there i ∙ sym (there-notified i x);
    queues = λ i. emptied i ∙ (λ j. if among i (w.pending j) then [] else w.queues i j) ∙ sym (queue-notified i x);
    pending = none ∙ sym (pending-notified x);
    places = (timely-notified x (record { places = w.places; last = w.notified })).places;
    notified = omega arith;
    interested = interested_made-notified x;
    once = λ i n. let c = count-filter (is_registered i n) (λ (r : Registration). is_none r.source) x.registrations in let k = w.once i n in omega arith;
  }

-- The pending observers are taken.
module _ (o : Watchers) (x : Observing) (w : Watches o x) where
  pub watches-pending_taken : Watches (record o { pending = [] }) (pending_taken x)
  watches-pending_taken = record {
    registrations = w.registrations;
    made = w.made;
    there = w.there;
    queues = w.queues;
    pending = sym (pending-pending_taken x);
    places = w.places;
    notified = omega arith;
    interested = interested_made-pending_taken x;
    once = w.once;
  }
