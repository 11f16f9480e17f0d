-- Registrations as they are seen, and what holds of them at all times, as some come in and end.
use Rattle.std.proofs.Common.{◌≡◌, ◌≢◌, ℕ, ◌<◌, ◌==◌, ◌++◌, if◌then◌else◌, true, List, [], ◌∷◌, filter, option_map, None, Some, refl, ap, sym, ◌∙◌, subst, ◌⊎◌, inl, inr, nat_eq, slice_index_or}
use Rattle.std.specs.{List.IsDistinct, List.insert, Map.keys_of, Option.option_map_or}
use Rattle.std.proofs.lemmas.Map.Made.{keys_of-map_values}
use Rattle.slab.specs.Slab.{Slab, Updates, get}
use Rattle.dom_model.specs.Definitions.{among, Options}
use Rattle.dom_observe.specs.declared.registration.Registration as held
use Rattle.dom_observe.specs.{Keys.Keys, Invariant.AreRegistered, Watchers.on, Registrations.Registered, Registrations.plain, Registrations.at, Registrations.in_table, Registrations.listed, Registrations.registered_view, Registrations.is_live, Registrations.AllLive, Registrations.HaveKeys, Registrations.Added, Registrations.NewKey, Registrations.with_new_options, Turns.turn_at, Turns.Fewer}
use Rattle.dom_observe.proofs.{LeftByLemmas.placed-left, HaveOnceLemmas.placed_once-added, HaveOnceLemmas.placed_once-swept, EndByNodeLemmas.all_live-placed, OwnedLemmas.placed-added, OwnedLemmas.placed-changed, TurnLemmas.rising-added, TurnLemmas.rising-same, TurnLemmas.rising-swept}

-- no node is twice among the entries
pub unique-in : (entries : List (ℕ × Keys)) → IsDistinct nat_eq (keys_of (listed entries)) → IsDistinct nat_eq (keys_of entries)
unique-in entries = subst (IsDistinct nat_eq) (keys_of-map_values (λ (l : Keys). l.items) entries)

-- each key of a node has a registration
pub are-live : {r : Registered} → AreRegistered r → (n : ℕ) → AllLive (at r) (on n r.lists)
are-live {r} are n = all_live-placed (at r) n (on n r.lists) (λ k m. sym (are.placed n k) ∙ m)

-- A registration is put under a key that was vacant.
module _ (table mid table' : Slab held.Registration) (slots : mid.slots ≡ table.slots) (r : held.Registration) (key : ℕ) (vacant : get mid key ≡ None) (updates : Updates mid table' key (Some r)) where
  vacant_before : in_table table key ≡ None
  vacant_before = ap (λ ss. option_map plain (slice_index_or ss key None)) (sym slots) ∙ ap (option_map plain) vacant

  others_stay : (other : ℕ) → other ≢ key → get table' other ≡ get table other
  others_stay other ne = updates.others other ne ∙ ap (λ ss. slice_index_or ss other None) slots

  -- and comes last among those of its node
  pub put-last : (lists lists' : List (ℕ × List ℕ)) → ((n : ℕ) → on n lists' ≡ on n lists ++ (if n == r.node then key ∷ [] else [])) → Added (in_table table) lists (plain r) (in_table table') lists'
  put-last lists lists' keys = record {
    key = key;
    vacant = vacant_before;
    here = ap (option_map plain) updates.changed;
    others = λ other ne. ap (option_map plain) (others_stay other ne);
    keys = keys;
  }

  pub put-among : (place : ℕ) (keys keys' : List ℕ) → keys' ≡ insert keys place key → NewKey (in_table table) (plain r) (in_table table') place keys keys'
  put-among place keys keys' put = record {
    key = key;
    vacant = vacant_before;
    here = ap (option_map plain) updates.changed;
    others = λ other ne. ap (option_map plain) (others_stay other ne);
    put = put;
  }

  turn-put : turn_at table' key ≡ r.turn
  turn-put = ap (λ o. option_map_or (λ (q : held.Registration). q.turn) o 0) updates.changed

  turns-stay : (k : ℕ) → k ≢ key → turn_at table' k ≡ turn_at table k
  turns-stay k ne = ap (λ o. option_map_or (λ (q : held.Registration). q.turn) o 0) (others_stay k ne)

  -- its turn is behind those of its node
  pub registered-put : (entries : List (ℕ × Keys)) → AreRegistered (registered_view table entries) → (entries' : List (ℕ × Keys)) → IsDistinct nat_eq (keys_of entries') → HaveKeys (listed entries')
      → ((n : ℕ) → on n (listed entries') ≡ on n (listed entries) ++ (if n == r.node then key ∷ [] else [])) → ((k : ℕ) → among k (on r.node (listed entries)) ≡ true → turn_at table k < r.turn) → AreRegistered (registered_view table' entries')
  registered-put entries is entries' unique full keys late =
      let added = put-last (listed entries) (listed entries') keys in
      record {
        unique = subst (IsDistinct nat_eq) (sym (keys_of-map_values (λ (l : Keys). l.items) entries')) unique;
        full = full;
        placed = placed-added (in_table table) (listed entries) (plain r) (in_table table') (listed entries') added is.placed;
        once = placed_once-added (in_table table) (listed entries) (plain r) (in_table table') (listed entries') added is.placed is.once;
        rising = rising-added table table' (listed entries) (listed entries') r.node key keys vacant_before (λ k m. subst (λ t. turn_at table k < t) (sym turn-put) (late k m)) turns-stay is.placed is.rising;
      }

-- the same slots and the same keys are seen alike
pub seen-same : (table table' : Slab held.Registration) (entries entries' : List (ℕ × Keys)) → table'.slots ≡ table.slots → listed entries' ≡ listed entries → registered_view table' entries' ≡ registered_view table entries
seen-same table table' entries entries' slots lists = λ i. record { rows = slots i; lists = lists i }

module _ (table : Slab held.Registration) (entries : List (ℕ × Keys)) (is : AreRegistered (registered_view table entries)) (table' : Slab held.Registration) where
  -- one gets other options
  pub registered-changed : (key : ℕ) (options : Options) → in_table table' key ≡ option_map (with_new_options options) (in_table table key) → ((k : ℕ) → k ≢ key → in_table table' k ≡ in_table table k)
      → ((k : ℕ) → turn_at table' k ≡ turn_at table k) → AreRegistered (registered_view table' entries)
  registered-changed key options changed others turns = record {
    unique = is.unique;
    full = is.full;
    placed = placed-changed (in_table table) (in_table table') key options changed others (listed entries) is.placed;
    once = is.once;
    rising = rising-same table table' (listed entries) (listed entries) turns (λ n. refl) is.rising;
  }

  -- some end, with their keys
  pub registered-swept : (entries' : List (ℕ × Keys)) → IsDistinct nat_eq (keys_of entries') → HaveKeys (listed entries') → Fewer table table'
      → ((n : ℕ) → on n (listed entries') ≡ filter (is_live (in_table table')) (on n (listed entries))) → AreRegistered (registered_view table' entries')
  registered-swept entries' unique full fewer swept = record {
    unique = subst (IsDistinct nat_eq) (sym (keys_of-map_values (λ (l : Keys). l.items) entries')) unique;
    full = full;
    placed = placed-left (in_table table) (in_table table') (listed entries) (listed entries') (λ k. gone k (fewer k)) swept is.placed;
    once = placed_once-swept (listed entries) (listed entries') (is_live (in_table table')) swept is.once;
    rising = rising-swept table table' (listed entries) (listed entries') fewer swept is.rising;
  }
    where
      gone : (k : ℕ) → (get table' k ≡ get table k) ⊎ (get table' k ≡ None) → (in_table table' k ≡ in_table table k) ⊎ (in_table table' k ≡ None)
      gone k (inl e) = inl (ap (option_map plain) e)
      gone k (inr e) = inr (ap (option_map plain) e)
