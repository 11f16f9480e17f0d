-- The queues of observers by their numbers, as one of them changes.
use Rattle.std.proofs.Common.{◌≡◌, ℕ, zero, suc, ◌-◌, ◌<◌, ◌≤◌, ◌==◌, true, false, if◌then◌else◌, List, [], ◌∷◌, ◌++◌, length, take, Option, None, Some, is_some, refl, ap, sym, ◌∙◌, arith, ◌⊎◌, inl, inr, length-set, slice_index_or, slice_set, unwrap_or}
use Rattle.std.proofs.lemmas.{Bool.cases_lt, Bool.true≢false, List.get_or_append_left, List.get_or-append_right, List.get_or_past, List.get_or-set_same, List.get_or-set_other, List.ext_get_or}
use Rattle.dom_model.specs.Definitions.{Record}
use Rattle.dom_model.proofs.PlainLists.Numbers.{Same, same_or, same, apart}
use Rattle.dom_observe.specs.{Watchers.queue_at, Watchers.records_at, Invariant.has_queue}

module _ (queues : List (Option (List Record))) where
  -- one that is there was made
  pub queue_within : (o : ℕ) → has_queue queues o ≡ true → o < length queues
  queue_within o there = go (cases_lt o (length queues))
    where
      go : ((o < length queues) ⊎ (length queues ≤ o)) → o < length queues
      go (inl lt) = lt
      go (inr le) = absurd (true≢false (sym there ∙ ap is_some (get_or_past queues o None le)))

  -- where none is, no record waits
  pub records-none : (o : ℕ) → has_queue queues o ≡ false → records_at queues o ≡ []
  records-none o gone = go (queue_at queues o) gone
    where
      go : (q : Option (List Record)) → is_some q ≡ false → unwrap_or q [] ≡ []
      go None h = refl
      go (Some q) h = absurd (true≢false h)

  -- Another queue in its place.
  module _ (i : ℕ) (there : has_queue queues i ≡ true) (q : List Record) where
    here : queue_at (slice_set queues i (Some q)) i ≡ Some q
    here = get_or-set_same queues i (Some q) None (queue_within i there)

    pub has-set : (o : ℕ) → has_queue (slice_set queues i (Some q)) o ≡ has_queue queues o
    has-set o = go (same_or o i)
      where
        go : Same o i → has_queue (slice_set queues i (Some q)) o ≡ has_queue queues o
        go (same e t) = ap (has_queue (slice_set queues i (Some q))) e ∙ ap is_some here ∙ sym (ap (has_queue queues) e ∙ there)
        go (apart ne t) = ap is_some (get_or-set_other queues i o (Some q) None ne)

    pub records-set : (o : ℕ) → records_at (slice_set queues i (Some q)) o ≡ (if i == o then q else records_at queues o)
    records-set o = go (same_or i o)
      where
        go : Same i o → records_at (slice_set queues i (Some q)) o ≡ (if i == o then q else records_at queues o)
        go (same e t) = rw t (ap (records_at (slice_set queues i (Some q))) (sym e) ∙ ap (λ (p : Option (List Record)). unwrap_or p []) here)
        go (apart ne t) = rw t (ap (λ (p : Option (List Record)). unwrap_or p []) (get_or-set_other queues i o (Some q) None (λ e. ne (sym e))))

  -- a record comes last in its queue
  pub records-pushed : (i : ℕ) (q : List Record) → queue_at queues i ≡ Some q → (q' : List Record) (r : Record) → q' ≡ q ++ r ∷ []
      → (p : ℕ) → records_at (slice_set queues i (Some q')) p ≡ (if i == p then records_at queues p ++ r ∷ [] else records_at queues p)
  records-pushed i q at q' r pushed p = records-set i (ap is_some at) q' p ∙ go (same_or i p)
    where
      go : Same i p → (if i == p then q' else records_at queues p) ≡ (if i == p then records_at queues p ++ r ∷ [] else records_at queues p)
      go (same e t) = rw t (pushed ∙ ap (λ rs. rs ++ r ∷ []) (sym (ap (λ (o : Option (List Record)). unwrap_or o []) (ap (queue_at queues) (sym e) ∙ at))))
      go (apart ne t) = rw t refl

  -- the last record of its queue goes
  pub records-shortened : (i : ℕ) (q : List Record) → queue_at queues i ≡ Some q → (q' : List Record) → q' ≡ take (length q - 1) q
      → (p : ℕ) → records_at (slice_set queues i (Some q')) p ≡ (if i == p then take (length (records_at queues p) - 1) (records_at queues p) else records_at queues p)
  records-shortened i q at q' shortened p = records-set i (ap is_some at) q' p ∙ go (same_or i p)
    where
      go : Same i p → (if i == p then q' else records_at queues p) ≡ (if i == p then take (length (records_at queues p) - 1) (records_at queues p) else records_at queues p)
      go (same e t) = rw t (shortened ∙ ap (λ (rs : List Record). take (length rs - 1) rs) (sym (ap (λ (o : Option (List Record)). unwrap_or o []) (ap (queue_at queues) (sym e) ∙ at))))
      go (apart ne t) = rw t refl

  -- It is released.
  module _ (i : ℕ) where
    pub queue-gone : queue_at (slice_set queues i None) i ≡ None
    queue-gone = go (cases_lt i (length queues))
      where
        go : ((i < length queues) ⊎ (length queues ≤ i)) → queue_at (slice_set queues i None) i ≡ None
        go (inl lt) = get_or-set_same queues i None None lt
        go (inr le) = get_or_past (slice_set queues i None) i None (omega (arith, le, length-set queues i None))

    pub queue-stays : (o : ℕ) → (o ≡ i → ⊥) → queue_at (slice_set queues i None) o ≡ queue_at queues o
    queue-stays o ne = get_or-set_other queues i o None None ne

    pub has-gone : (o : ℕ) → has_queue (slice_set queues i None) o ≡ (if o == i then false else has_queue queues o)
    has-gone o = go (same_or o i)
      where
        go : Same o i → has_queue (slice_set queues i None) o ≡ (if o == i then false else has_queue queues o)
        go (same e t) = rw t (ap (has_queue (slice_set queues i None)) e ∙ ap is_some queue-gone)
        go (apart ne t) = rw t (ap is_some (queue-stays o ne))

    pub records-stay : (o : ℕ) → (o ≡ i → ⊥) → records_at (slice_set queues i None) o ≡ records_at queues o
    records-stay o ne = ap (λ (p : Option (List Record)). unwrap_or p []) (queue-stays o ne)

    pub records-gone : records_at (slice_set queues i None) i ≡ []
    records-gone = ap (λ (p : Option (List Record)). unwrap_or p []) queue-gone

  -- One more, with nothing in it.

  pub has-more : (o : ℕ) → has_queue queues o ≡ true → has_queue (queues ++ Some [] ∷ []) o ≡ true
  has-more o there = ap is_some (get_or_append_left queues (Some [] ∷ []) None o (queue_within o there)) ∙ there

  pub records-more : (o : ℕ) → records_at (queues ++ Some [] ∷ []) o ≡ records_at queues o
  records-more o = go (cases_lt o (length queues))
    where
      nothing : List Record
      nothing = []

      new : (k : ℕ) → unwrap_or (slice_index_or (Some nothing ∷ []) k None) nothing ≡ nothing
      new zero = refl
      new (suc k) = refl

      go : ((o < length queues) ⊎ (length queues ≤ o)) → records_at (queues ++ Some [] ∷ []) o ≡ records_at queues o
      go (inl lt) = ap (λ (p : Option (List Record)). unwrap_or p []) (get_or_append_left queues (Some [] ∷ []) None o lt)
      go (inr le) =
          ap (λ (p : Option (List Record)). unwrap_or p []) (get_or-append_right queues (Some [] ∷ []) (length queues) o None refl le)
          ∙ new (o - length queues)
          ∙ sym (ap (λ (p : Option (List Record)). unwrap_or p []) (get_or_past queues o None le))

-- the same observers with the same records
pub queues-equal : (queues queues' : List (Option (List Record))) → length queues ≡ length queues' → ((i : ℕ) → has_queue queues i ≡ has_queue queues' i) → ((i : ℕ) → records_at queues i ≡ records_at queues' i) → queues ≡ queues'
queues-equal queues queues' same_length same_there same_records = ext_get_or None queues queues' same_length (λ i within. go (queue_at queues i) (queue_at queues' i) (same_there i) (same_records i))
  where
    go : (q r : Option (List Record)) → is_some q ≡ is_some r → unwrap_or q [] ≡ unwrap_or r [] → q ≡ r
    go None None h e = refl
    go None (Some r) h e = absurd (true≢false (sym h))
    go (Some q) None h e = absurd (true≢false h)
    go (Some q) (Some r) h e = ap (λ v. Some v) e
