-- What is kept of observers by their numbers, as one of them changes: the keys, and the queues.
use Rattle.std.proofs.Common.{◌≡◌, ℕ, zero, suc, ◌<◌, true, List, [], ◌∷◌, ◌++◌, length, map, Option, None, Some, is_some, option_map, refl, ap, sym, ◌∙◌, arith, slice_index_or, slice_set}
use Rattle.std.proofs.Math.ListN.{get_or-map}
use Rattle.std.proofs.Math.Seq.{map-set_same}
use Rattle.std.proofs.lemmas.{List.length-map, List.map_push, List.map-set}
use Rattle.dom_observe.specs.{declared.roster.Observer.Observer, Watchers.queue_at, Invariant.has_queue, Roster.observer_at, Roster.keys_by, Roster.first_keys, Roster.second_keys, Roster.lasting_by, Roster.passing_by, Roster.queues_by, Roster.records_of}
use Rattle.dom_observe.proofs.{InvariantLemmas.set_same, QueueListLemmas.queue_within, QueueListLemmas.queues-equal}

-- the keys of one
abbrev both_keys : Observer → List ℕ × List ℕ
both_keys o = (o.lasting.items, o.passing.items)

module _ (roster : List (Option Observer)) where
  pub queue-kept : (i : ℕ) → queue_at (queues_by roster) i ≡ option_map (λ (o : Observer). o.queue.records) (observer_at roster i)
  queue-kept i = get_or-map (option_map (λ (o : Observer). o.queue.records)) roster i None

  keys-kept : (i : ℕ) → slice_index_or (keys_by roster) i None ≡ option_map both_keys (observer_at roster i)
  keys-kept i = get_or-map (option_map both_keys) roster i None

  -- an observer is there where its queue is
  pub has-kept : (i : ℕ) → has_queue (queues_by roster) i ≡ is_some (observer_at roster i)
  has-kept i = ap is_some (queue-kept i) ∙ go (observer_at roster i)
    where
      go : (o : Option Observer) → is_some (option_map (λ (p : Observer). p.queue.records) o) ≡ is_some o
      go None = refl
      go (Some o) = refl

  has-keys : (i : ℕ) → is_some (slice_index_or (keys_by roster) i None) ≡ is_some (observer_at roster i)
  has-keys i = ap is_some (keys-kept i) ∙ go (observer_at roster i)
    where
      go : (o : Option Observer) → is_some (option_map both_keys o) ≡ is_some o
      go None = refl
      go (Some o) = refl

  pub length-queues : length (queues_by roster) ≡ length roster
  length-queues = length-map roster (option_map (λ (o : Observer). o.queue.records))

  length-keys : length (keys_by roster) ≡ length roster
  length-keys = length-map roster (option_map both_keys)

  pub length-lasting : length (lasting_by roster) ≡ length roster
  length-lasting = length-map (keys_by roster) first_keys ∙ length-keys

  pub length-passing : length (passing_by roster) ≡ length roster
  length-passing = length-map (keys_by roster) second_keys ∙ length-keys

  module _ (i : ℕ) (there : has_queue (queues_by roster) i ≡ true) where
    pub within-lasting : i < length (lasting_by roster)
    within-lasting = omega (arith, queue_within (queues_by roster) i there, length-queues, length-lasting)

    pub within-passing : i < length (passing_by roster)
    within-passing = omega (arith, queue_within (queues_by roster) i there, length-queues, length-passing)

  -- One that is there.
  module _ (i : ℕ) (o : Observer) (at : observer_at roster i ≡ Some o) where
    pub queue-there : queue_at (queues_by roster) i ≡ Some o.queue.records
    queue-there = queue-kept i ∙ ap (option_map (λ (p : Observer). p.queue.records)) at

    pub lasting-there : slice_index_or (lasting_by roster) i [] ≡ o.lasting.items
    lasting-there = get_or-map first_keys (keys_by roster) i None ∙ ap first_keys (keys-kept i ∙ ap (option_map both_keys) at)

    pub passing-there : slice_index_or (passing_by roster) i [] ≡ o.passing.items
    passing-there = get_or-map second_keys (keys_by roster) i None ∙ ap second_keys (keys-kept i ∙ ap (option_map both_keys) at)

    -- another queue in place of its own
    pub keys-same : (p : Observer) → p.lasting.items ≡ o.lasting.items → p.passing.items ≡ o.passing.items → keys_by (slice_set roster i (Some p)) ≡ keys_by roster
    keys-same p lasting passing =
        map-set_same (option_map both_keys) roster i (Some p) None
        ((λ j. Some (lasting j, passing j)) ∙ sym (ap (option_map both_keys) at))

    -- the same keys of one kind
    pub lasting-same : (p : Observer) → p.lasting.items ≡ o.lasting.items → lasting_by (slice_set roster i (Some p)) ≡ lasting_by roster
    lasting-same p lasting =
        ap (map first_keys) (map-set (option_map both_keys) roster i (Some p))
        ∙ map-set_same first_keys (keys_by roster) i (Some (both_keys p)) None (lasting ∙ sym (ap first_keys (keys-kept i ∙ ap (option_map both_keys) at)))

    pub passing-same : (p : Observer) → p.passing.items ≡ o.passing.items → passing_by (slice_set roster i (Some p)) ≡ passing_by roster
    passing-same p passing =
        ap (map second_keys) (map-set (option_map both_keys) roster i (Some p))
        ∙ map-set_same second_keys (keys_by roster) i (Some (both_keys p)) None (passing ∙ sym (ap second_keys (keys-kept i ∙ ap (option_map both_keys) at)))

    -- other keys in place of its own
    pub queues-same : (p : Observer) → p.queue.records ≡ o.queue.records → queues_by (slice_set roster i (Some p)) ≡ queues_by roster
    queues-same p queue =
        map-set_same (option_map (λ (q : Observer). q.queue.records)) roster i (Some p) None
        (ap Some queue ∙ sym (ap (option_map (λ (q : Observer). q.queue.records)) at))

    -- it is as it was
    pub roster-same : (p : Observer) → p ≡ o → slice_set roster i (Some p) ≡ roster
    roster-same p e = ap (λ q. slice_set roster i (Some q)) e ∙ ap (slice_set roster i) (sym at) ∙ set_same roster i None

  -- One more, without keys and records.
  module _ (o : Observer) where
    pub keys-made : o.lasting.items ≡ [] → o.passing.items ≡ [] → keys_by (roster ++ Some o ∷ []) ≡ keys_by roster ++ Some ([], []) ∷ []
    keys-made lasting passing = map_push (option_map both_keys) roster (Some o) ∙ (λ j. keys_by roster ++ Some (lasting j, passing j) ∷ [])

    pub queues-made : o.queue.records ≡ [] → queues_by (roster ++ Some o ∷ []) ≡ queues_by roster ++ Some [] ∷ []
    queues-made queue = map_push (option_map (λ (p : Observer). p.queue.records)) roster (Some o) ∙ (λ j. queues_by roster ++ Some (queue j) ∷ [])

  -- Another in its place, or none.
  module _ (i : ℕ) where
    pub lasting-set : (o : Observer) → lasting_by (slice_set roster i (Some o)) ≡ slice_set (lasting_by roster) i o.lasting.items
    lasting-set o = ap (map first_keys) (map-set (option_map both_keys) roster i (Some o)) ∙ map-set first_keys (keys_by roster) i (Some (both_keys o))

    pub passing-set : (o : Observer) → passing_by (slice_set roster i (Some o)) ≡ slice_set (passing_by roster) i o.passing.items
    passing-set o = ap (map second_keys) (map-set (option_map both_keys) roster i (Some o)) ∙ map-set second_keys (keys_by roster) i (Some (both_keys o))

    pub queues-set : (o : Observer) → queues_by (slice_set roster i (Some o)) ≡ slice_set (queues_by roster) i (Some o.queue.records)
    queues-set o = map-set (option_map (λ (p : Observer). p.queue.records)) roster i (Some o)

    pub lasting-gone : lasting_by (slice_set roster i None) ≡ slice_set (lasting_by roster) i []
    lasting-gone = ap (map first_keys) (map-set (option_map both_keys) roster i None) ∙ map-set first_keys (keys_by roster) i None

    pub passing-gone : passing_by (slice_set roster i None) ≡ slice_set (passing_by roster) i []
    passing-gone = ap (map second_keys) (map-set (option_map both_keys) roster i None) ∙ map-set second_keys (keys_by roster) i None

    pub queues-gone : queues_by (slice_set roster i None) ≡ slice_set (queues_by roster) i None
    queues-gone = map-set (option_map (λ (p : Observer). p.queue.records)) roster i None

-- The same observers with the same keys.
module _ (old new : List (Option Observer)) (keys : keys_by new ≡ keys_by old) where
  pub has-same : (i : ℕ) → has_queue (queues_by new) i ≡ has_queue (queues_by old) i
  has-same i = has-kept new i ∙ sym (has-keys new i) ∙ ap (λ ks. is_some (slice_index_or ks i None)) keys ∙ has-keys old i ∙ sym (has-kept old i)

  pub length-same : length (queues_by new) ≡ length (queues_by old)
  length-same = length-queues new ∙ sym (length-keys new) ∙ ap length keys ∙ length-keys old ∙ sym (length-queues old)

  -- and the same records
  pub queues-alike : ((p : ℕ) → records_of new p ≡ records_of old p) → queues_by new ≡ queues_by old
  queues-alike same_records = queues-equal (queues_by new) (queues_by old) length-same has-same same_records

-- One more observer, without keys.
no_more : (ls : List (List ℕ)) (i : ℕ) → slice_index_or (ls ++ [] ∷ []) i [] ≡ slice_index_or ls i []
no_more [] zero = refl
no_more [] (suc i) = refl
no_more (l ∷ ls) zero = refl
no_more (l ∷ ls) (suc i) = no_more ls i

module _ (old new : List (Option Observer)) (keys : keys_by new ≡ keys_by old ++ Some ([], []) ∷ []) (i : ℕ) where
  pub lasting-more : slice_index_or (lasting_by new) i [] ≡ slice_index_or (lasting_by old) i []
  lasting-more = ap (λ ks. slice_index_or ks i []) (ap (map first_keys) keys ∙ map_push first_keys (keys_by old) (Some ([], []))) ∙ no_more (lasting_by old) i

  pub passing-more : slice_index_or (passing_by new) i [] ≡ slice_index_or (passing_by old) i []
  passing-more = ap (λ ks. slice_index_or ks i []) (ap (map second_keys) keys ∙ map_push second_keys (keys_by old) (Some ([], []))) ∙ no_more (passing_by old) i
