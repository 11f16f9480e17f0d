-- What is kept of each observer, by the number under which it was made: the keys of its registrations, and its queue.
use Rattle.std.specs.Prelude.{ℕ, Bool, List, [], map, Option, None, Some, option_map, slice_index_or}
use Rattle.dom_model.specs.MutationObservers.Record.{Record}
use Rattle.dom_observe.specs.declared.roster.Observer.{Observer}
use Rattle.dom_observe.specs.Watchers.{records_at}
use Rattle.dom_observe.specs.Invariant.{has_queue}

-- what is kept under a number; none where the number was not given out, or its observer was released
abbrev pub observer_at : List (Option Observer) → ℕ → Option Observer
observer_at roster i = slice_index_or roster i None

-- the keys of each observer: those of its registrations that last, and those of its transient ones
abbrev pub keys_by : List (Option Observer) → List (Option (List ℕ × List ℕ))
keys_by roster = map (option_map (λ (o : Observer). (o.lasting.items, o.passing.items))) roster

abbrev pub first_keys : Option (List ℕ × List ℕ) → List ℕ
first_keys None = []
first_keys (Some keys) = keys.0

abbrev pub second_keys : Option (List ℕ × List ℕ) → List ℕ
second_keys None = []
second_keys (Some keys) = keys.1

abbrev pub lasting_by : List (Option Observer) → List (List ℕ)
lasting_by roster = map first_keys (keys_by roster)

abbrev pub passing_by : List (Option Observer) → List (List ℕ)
passing_by roster = map second_keys (keys_by roster)

-- the queue of each
abbrev pub queues_by : List (Option Observer) → List (Option (List Record))
queues_by roster = map (option_map (λ (o : Observer). o.queue.records)) roster

-- whether an observer is there
abbrev pub is_there : List (Option Observer) → ℕ → Bool
is_there roster = has_queue (queues_by roster)

-- the records that wait for it
abbrev pub records_of : List (Option Observer) → ℕ → List Record
records_of roster i = records_at (queues_by roster) i

-- the keys of its transient registrations
abbrev pub passing_at : List (Option Observer) → ℕ → List ℕ
passing_at roster i = slice_index_or (passing_by roster) i []
