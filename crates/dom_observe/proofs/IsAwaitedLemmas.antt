-- For whom records wait, step by step: for the pending observers, and for those that were taken from them and not told since.
use Rattle.std.proofs.Common.{◌≡◌, ℕ, ◌==◌, Bool, true, false, ◌||◌, if◌then◌else◌, cond, List, [], ◌∷◌, ◌++◌, Option, None, Some, refl, ap, sym, ◌∙◌, ◌⊎◌, inl, inr, nat_eq, slice_index_or, slice_set, not, flat_map, unwrap_or}
use Rattle.std.specs.List.{list_any}
use Rattle.std.proofs.lemmas.{List.Folds.list_any-append, Bool.true≢false, Bool.or_parts}
use Rattle.indexmap.specs.IndexSet.{insert_all}
use Rattle.dom_model.specs.Definitions.{among, left_out, with_last, with_all_last, Registration, Record, is_transient_of, nodes_of_record}
use Rattle.dom_model.proofs.PlainLists.Numbers.{Same, same_or, same, apart}
use Rattle.dom_observe.specs.{declared.registration.EndedRegistrations.TheVariants.TransientOf, Watchers.records_at, Registrations.unless_ended, Registrations.passes_for, Invariant.has_queue, Invariant.AllThere, Invariant.IsAwaited, Invariant.IsIndexed}
use Rattle.dom_observe.proofs.{InterestedLemmas.insert-last, InterestedLemmas.stay-all_last, InterestedLemmas.all_last-there, InterestedLemmas.among-list_any, QueueListLemmas.has-more, QueueListLemmas.has-set, QueueListLemmas.records-more, QueueListLemmas.records-set, QueueListLemmas.records-gone, QueueListLemmas.records-stay, QueueRecordLemmas.not_before, ReleaseLemmas.there-each, ReleaseLemmas.each-there, ReleaseLemmas.others-there, ReleaseLemmas.out-taken, ReleaseLemmas.there-taken, ReleaseLemmas.among-others, RegistrationTableLemmas.all_imply, PendingQueueLemmas.any-told}

-- of neither list, so not of both
not_with_last : (p n : ℕ) (ns : List ℕ) → among p ns ≡ false → (n ≡ p → ⊥) → among p (with_last ns n) ≡ false
not_with_last p n ns off ne = go (among n ns)
  where
    at_end : (ms : List ℕ) → among p ms ≡ false → among p (ms ++ n ∷ []) ≡ false
    at_end [] h = elim (same_or n p) [ same e t ↦ absurd (ne e) | apart _ t ↦ rw t refl ]
    at_end (m ∷ ms) h = elim (same_or m p) [
      | same e t ↦ absurd (let k = rw t at h in true≢false k)
      | apart _ t ↦ let k = rw t at h in rw t (at_end ms k)
    ]

    go : (b : Bool) → among p (if b then ns else ns ++ n ∷ []) ≡ false
    go true = off
    go false = at_end ns off

not_last : (p : ℕ) (ns ms : List ℕ) → among p ns ≡ false → among p ms ≡ false → among p (with_all_last ns ms) ≡ false
not_last p ns [] off out = off
not_last p ns (m ∷ ms) off out = elim (same_or m p) [
  | same e t ↦ absurd (let k = rw t at out in true≢false k)
  | apart ne t ↦ let k = rw t at out in not_last p (with_last ns m) ms (not_with_last p m ns off ne) k
]

nothing_left : (b : Bool) {rs : List Record} → rs ≡ [] → (if b then [] else rs) ≡ []
nothing_left true e = refl
nothing_left false e = e

module _ (queues : List (Option (List Record))) (pending untold : List ℕ) (awaited : IsAwaited queues pending untold) where
  -- other queues: of as many observers at least, and none has records that had none
  pub awaited-queues : (queues' : List (Option (List Record))) → ((o : ℕ) → has_queue queues o ≡ true → has_queue queues' o ≡ true) → ((o : ℕ) → records_at queues o ≡ [] → records_at queues' o ≡ []) → IsAwaited queues' pending untold
  awaited-queues queues' more empty = record {
    there = all_imply (λ o. has_queue queues o ≡ true) (λ o. has_queue queues' o ≡ true) more untold awaited.there;
    waiting = λ o off out. empty o (awaited.waiting o off out);
  }

  pub awaited-made : IsAwaited (queues ++ Some [] ∷ []) pending untold
  awaited-made = awaited-queues (queues ++ Some [] ∷ []) (has-more queues) (λ o e. records-more queues o ∙ e)

  pub awaited-emptied : (i : ℕ) → has_queue queues i ≡ true → IsAwaited (slice_set queues i (Some [])) pending untold
  awaited-emptied i there = awaited-queues (slice_set queues i (Some [])) (λ o held_there. has-set queues i there [] o ∙ held_there) (λ o e. records-set queues i there [] o ∙ nothing_left (i == o) e)

  -- more are pending, and what came, waits for one of them
  pub awaited-queued : (queues' : List (Option (List Record))) (pending' : List ℕ) → ((o : ℕ) → has_queue queues' o ≡ has_queue queues o) → ((p : ℕ) → among p pending ≡ true → among p pending' ≡ true)
      → ((p : ℕ) → among p pending' ≡ false → records_at queues' p ≡ records_at queues p) → IsAwaited queues' pending' untold
  awaited-queued queues' pending' same_there stay others = record {
    there = all_imply (λ o. has_queue queues o ≡ true) (λ o. has_queue queues' o ≡ true) (λ o there. same_there o ∙ there) untold awaited.there;
    waiting = λ p off out. others p off ∙ awaited.waiting p (not_before p pending pending' (stay p) off) out;
  }

  -- the pending ones have nothing left
  pub awaited-notified : (queues' : List (Option (List Record))) (pending' : List ℕ) → ((o : ℕ) → has_queue queues' o ≡ has_queue queues o) → ((p : ℕ) → records_at queues' p ≡ (if among p pending then [] else records_at queues p)) → IsAwaited queues' pending' untold
  awaited-notified queues' pending' same_there emptied = record {
    there = all_imply (λ o. has_queue queues o ≡ true) (λ o. has_queue queues' o ≡ true) (λ o there. same_there o ∙ there) untold awaited.there;
    waiting = λ p off out. emptied p ∙ go p (among p pending) refl out;
  }
    where
      go : (p : ℕ) (b : Bool) → among p pending ≡ b → among p untold ≡ false → (if b then [] else records_at queues p) ≡ []
      go p true e out = refl
      go p false e out = awaited.waiting p e out

  -- one is told
  pub awaited-told : (o : ℕ) → has_queue queues o ≡ true → (untold' : List ℕ) → ((p : ℕ) → list_any (nat_eq p) untold' ≡ cond (nat_eq o p) false (list_any (nat_eq p) untold)) → IsAwaited (slice_set queues o (Some [])) pending untold'
  awaited-told o held_there untold' taken = record {
    there = there-taken o untold untold' taken (has_queue queues) (has_queue (slice_set queues o (Some []))) (λ p ne there. has-set queues o held_there [] p ∙ there) awaited.there;
    waiting = λ p off out. records-set queues o held_there [] p ∙ go p (same_or o p) off (out-taken o untold untold' taken p out);
  }
    where
      go : (p : ℕ) → Same o p → among p pending ≡ false → ((p ≡ o) ⊎ (among p untold ≡ false)) → (if o == p then [] else records_at queues p) ≡ []
      go p (same e t) off out = rw t refl
      go p (apart ne t) off (inl e) = absurd (ne (sym e))
      go p (apart ne t) off (inr out) = rw t (awaited.waiting p off out)

  -- one is released
  pub awaited-released : (o : ℕ) (untold' : List ℕ) → ((p : ℕ) → list_any (nat_eq p) untold' ≡ cond (nat_eq o p) false (list_any (nat_eq p) untold)) → IsAwaited (slice_set queues o None) (left_out o pending) untold'
  awaited-released o untold' taken = record {
    there = there-taken o untold untold' taken (has_queue queues) (has_queue (slice_set queues o None)) (others-there queues o) awaited.there;
    waiting = λ p off out. go p (same_or p o) off (out-taken o untold untold' taken p out);
  }
    where
      go : (p : ℕ) → Same p o → among p (left_out o pending) ≡ false → ((p ≡ o) ⊎ (among p untold ≡ false)) → records_at (slice_set queues o None) p ≡ []
      go p (same e t) off out = ap (records_at (slice_set queues o None)) e ∙ records-gone queues o
      go p (apart ne t) off (inl e) = absurd (ne e)
      go p (apart ne t) off (inr out) = records-stay queues o p ne ∙ awaited.waiting p (sym (among-others o p pending ne) ∙ off) out

  -- the pending ones are taken
  pub awaited-taken : (pending' untold' : List ℕ) → AllThere (has_queue queues) pending → untold' ≡ with_all_last untold pending → IsAwaited queues pending' untold'
  awaited-taken pending' untold' all is = record {
    there = there-each (has_queue queues) untold' (λ p m. held p (among p pending) (among p untold) refl refl m);
    waiting = λ p off out. awaited.waiting p (not_before p pending untold' (λ m. ap (among p) is ∙ all_last-there p untold pending m) out) (not_before p untold untold' (λ m. ap (among p) is ∙ stay-all_last p untold pending m) out);
  }
    where
      held : (p : ℕ) (b c : Bool) → among p pending ≡ b → among p untold ≡ c → among p untold' ≡ true → has_queue queues p ≡ true
      held p true c e f m = each-there (has_queue queues) pending all p e
      held p false true e f m = each-there (has_queue queues) untold awaited.there p f
      held p false false e f m = absurd (true≢false (sym m ∙ ap (among p) is ∙ not_last p untold pending f e))

  -- nobody else has records
  pub awaited-names : (p : ℕ → Bool) → (list_any (λ o. list_any p (flat_map nodes_of_record (records_at queues o))) pending || list_any (λ o. list_any p (flat_map nodes_of_record (records_at queues o))) untold)
      ≡ list_any (λ (q : Option (List Record)). list_any (λ r. list_any p (nodes_of_record r)) (unwrap_or q [])) queues
  awaited-names p =
      sym (list_any-append (λ o. list_any p (flat_map nodes_of_record (records_at queues o))) pending untold)
      ∙ any-told p queues (pending ++ untold) (λ o off. let parts = apart_in o off in awaited.waiting o parts.0 parts.1)
    where
      apart_in : (o : ℕ) → among o (pending ++ untold) ≡ false → (among o pending ≡ false) × (among o untold ≡ false)
      apart_in o off =
          let parts = or_parts (list_any (nat_eq o) pending) (list_any (nat_eq o) untold) (sym (list_any-append (nat_eq o) pending untold) ∙ among-list_any o (pending ++ untold) ∙ off) in
          (sym (among-list_any o pending) ∙ parts.0, sym (among-list_any o untold) ∙ parts.1)

-- the keys after each of several is inserted
pub insert_all-last : (ns ms : List ℕ) → insert_all nat_eq ns ms ≡ with_all_last ns ms
insert_all-last ns [] = refl
insert_all-last ns (m ∷ ms) = ap (λ ks. insert_all nat_eq ks ms) (insert-last ns m) ∙ insert_all-last (with_last ns m) ms

-- the transient registrations of an observer end
pub told-left : (u v : ℕ → Option Registration) (ls ps : List (List ℕ)) (some : List ℕ) (there : ℕ → Bool) (o : ℕ) → IsIndexed u ls ps some there
    → ((k : ℕ) → v k ≡ (if among k (slice_index_or ps o []) then unless_ended (TransientOf o) (u k) else u k)) → (k : ℕ) → v k ≡ unless_ended (TransientOf o) (u k)
told-left u v ls ps some there o ix left k = left k ∙ ap (λ b. if b then unless_ended (TransientOf o) (u k) else u k) (ix.passing o k) ∙ go (u k)
  where
    by : (r : Registration) (b : Bool) → (if b then (if not b then Some r else None) else Some r) ≡ (if not b then Some r else None)
    by r true = refl
    by r false = refl

    go : (p : Option Registration) → (if passes_for o p then unless_ended (TransientOf o) p else p) ≡ unless_ended (TransientOf o) p
    go None = none (passes_for o None)
      where
        nobody : Option Registration
        nobody = None

        none : (b : Bool) → (if b then nobody else nobody) ≡ nobody
        none true = refl
        none false = refl
    go (Some r) = by r (is_transient_of o r)
