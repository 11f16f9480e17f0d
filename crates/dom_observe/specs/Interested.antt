-- Whom a mutation interests, one registration after another.
use Rattle.std.specs.Prelude.{◌≡◌, ℕ, ◌==◌, ◌||◌, Bool, List, [], ◌∷◌, filter, filter_map, if◌then◌else◌, Option, None, Some}
use Rattle.std.specs.List.{list_any}
use Rattle.std.specs.Option.{option_and_then}
use Rattle.std.specs.Map.{keys_of}
use Rattle.dom_model.specs.declared.RecordType.{RecordType}
use Rattle.dom_model.specs.Worlds.World.{Registration, Mutation}
use Rattle.dom_model.specs.MutationObservers.Record.{Record}
use Rattle.dom_model.specs.PlainLists.LastOnce.{with_last, with_all_last}
use Rattle.dom_model.specs.MutationObservers.Records.{asks_old_value, record_with}
use Rattle.dom_observe.specs.Registrations.{concerns}

-- the observer that the registration makes interested, and whether it asks for the old value
abbrev pub listener_of : RecordType → ℕ → Option (List ℕ) → Registration → Option (ℕ × Bool)
listener_of what target name r = if concerns what target name r then Some (r.observer, asks_old_value what r.options) else None

abbrev pub listener_under : (ℕ → Option Registration) → RecordType → ℕ → Option (List ℕ) → ℕ → Option (ℕ × Bool)
listener_under under what target name key = option_and_then (listener_of what target name) (under key)

-- those of several registrations, in their order
abbrev pub listeners : (ℕ → Option Registration) → RecordType → ℕ → Option (List ℕ) → List ℕ → List (ℕ × Bool)
listeners under what target name keys = filter_map (listener_under under what target name) keys

-- whom a mutation makes listen
abbrev pub listeners_to : (ℕ → Option Registration) → Mutation → List ℕ → List (ℕ × Bool)
listeners_to under m keys = listeners under m.type m.target m.name keys

-- one of these asks, where there is any
abbrev pub asked_by : List (ℕ × Bool) → Option Bool
asked_by [] = None
asked_by (l ∷ ls) = Some (list_any (λ (m : ℕ × Bool). m.1) (l ∷ ls))

-- whether the observer asks for the old value; none where it is not interested
abbrev pub flag_of : ℕ → List (ℕ × Bool) → Option Bool
flag_of p ls = asked_by (filter (λ (l : ℕ × Bool). l.0 == p) ls)

-- the record that a listener gets
abbrev pub delivered : Mutation → Option Bool → List Record
delivered m None = []
delivered m (Some asks) = record_with m (if asks then m.old_value else None) ∷ []

-- a listener, with one more; none where that is another observer
abbrev pub joined_interest : Option (ℕ × Bool) → ℕ × Bool → Option (ℕ × Bool)
joined_interest None l = Some l
joined_interest (Some only) l = if only.0 == l.0 then Some (only.0, only.1 || l.1) else None

-- all these listeners are one
pub record IsOnly (only : ℕ × Bool) (ls : List (ℕ × Bool)) : Type 0 where
  pub flags : (p : ℕ) → flag_of p ls ≡ (if only.0 == p then Some only.1 else None)
  pub pends : (ps : List ℕ) → with_all_last ps (keys_of ls) ≡ with_last ps only.0
