-- The keys of nodes and observers, as what is kept of the observers changes.
use Rattle.std.proofs.Common.{◌≡◌, ℕ, Bool, true, false, List, [], ◌∷◌, ◌++◌, map, Option, Some, ap, ◌∙◌, ◌⊎◌, slice_index_or, slice_set}
use Rattle.dom_model.specs.Definitions.{among, Registration}
use Rattle.dom_observe.specs.{declared.registration.EndedRegistrations.TheVariants.Of, declared.roster.Observer.Observer, Registrations.unless_ended, Invariant.has_queue, Invariant.AllThere, Invariant.IsIndexed, Roster.keys_by, Roster.first_keys, Roster.second_keys, Roster.lasting_by, Roster.passing_by, Roster.queues_by}
use Rattle.dom_observe.proofs.{IsIndexedLemmas.indexed-alike, IsIndexedLemmas.indexed-left, QueueListLemmas.has-more, RosterLemmas.has-same, RosterLemmas.within-lasting, RosterLemmas.within-passing, RosterLemmas.lasting-more, RosterLemmas.passing-more}

module _ (u : ℕ → Option Registration) (some : List ℕ) (old new : List (Option Observer))
    (ix : IsIndexed u (lasting_by old) (passing_by old) some (has_queue (queues_by old))) where
  -- the keys stay
  pub indexed-same : keys_by new ≡ keys_by old → IsIndexed u (lasting_by new) (passing_by new) some (has_queue (queues_by new))
  indexed-same keys =
      indexed-alike u (lasting_by old) (lasting_by new) (passing_by old) (passing_by new) some (has_queue (queues_by old)) (has_queue (queues_by new))
      (λ i. ap (λ ks. slice_index_or (map first_keys ks) i []) keys) (λ i. ap (λ ks. slice_index_or (map second_keys ks) i []) keys)
      (λ i there. has-same old new keys i ∙ there) ix

  -- one more observer, without keys
  pub indexed-more : keys_by new ≡ keys_by old ++ Some ([], []) ∷ [] → queues_by new ≡ queues_by old ++ Some [] ∷ [] → IsIndexed u (lasting_by new) (passing_by new) some (has_queue (queues_by new))
  indexed-more keys queues =
      indexed-alike u (lasting_by old) (lasting_by new) (passing_by old) (passing_by new) some (has_queue (queues_by old)) (has_queue (queues_by new))
      (lasting-more old new keys) (passing-more old new keys) (λ i there. ap (λ qs. has_queue qs i) queues ∙ has-more (queues_by old) i there) ix

-- the lists of keys that are kept, and the observers that are there
pub indexed-by : (u : ℕ → Option Registration) (some : List ℕ) (new : List (Option Observer)) (ls ps : List (List ℕ)) (there : ℕ → Bool) → lasting_by new ≡ ls → passing_by new ≡ ps
    → ((i : ℕ) → there i ≡ true → has_queue (queues_by new) i ≡ true) → IsIndexed u ls ps some there → IsIndexed u (lasting_by new) (passing_by new) some (has_queue (queues_by new))
indexed-by u some new ls ps there lasting passing more ix =
    indexed-alike u ls (lasting_by new) ps (passing_by new) some there (has_queue (queues_by new))
    (λ i. ap (λ ks. slice_index_or ks i []) lasting) (λ i. ap (λ ks. slice_index_or ks i []) passing) more ix

-- an observer loses all its registrations
module _ (u v : ℕ → Option Registration) (old new : List (Option Observer)) (some : List ℕ) (o : ℕ)
    (ix : IsIndexed u (lasting_by old) (passing_by old) some (has_queue (queues_by old))) (held_there : has_queue (queues_by old) o ≡ true) (left : (k : ℕ) → v k ≡ unless_ended (Of o) (u k))
    (lasting : lasting_by new ≡ slice_set (lasting_by old) o []) (passing : passing_by new ≡ slice_set (passing_by old) o []) where
  pub indexed-lost : (some' : List ℕ) → ((p : ℕ) → among p some' ≡ false → (p ≡ o) ⊎ (among p some ≡ false)) → AllThere (has_queue (queues_by new)) some' → IsIndexed v (lasting_by new) (passing_by new) some' (has_queue (queues_by new))
  indexed-lost some' out known =
      indexed-by v some' new (slice_set (lasting_by old) o []) (slice_set (passing_by old) o []) (has_queue (queues_by new)) lasting passing (λ i there. there)
      (indexed-left u v (lasting_by old) (passing_by old) some (has_queue (queues_by old)) o ix (within-lasting old o held_there) (within-passing old o held_there) left some' (has_queue (queues_by new)) out known)
