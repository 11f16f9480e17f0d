-- What observers are told: options as they are settled, registrations, queues and the pending list as readings of the one list of mutations.
-- DOM Standard, "Mutation observers": observe, disconnect, takeRecords, queue a mutation record, notify mutation observers.
-- Ours: only a registration that is not transient counts as already there, notify is a command that ends every transient one, its two steps can be
-- made one by one,
-- and an observer can be released, where the standard leaves it to garbage collection.
use Rattle.std.specs.Prelude.{ℕ, ◌<◌, ◌==◌, Bool, true, false, not, ◌&&◌, ◌||◌, if◌then◌else◌, List, [], ◌∷◌, ◌++◌, map, filter, filter_map, flat_map, drop, length, Option, Some, None, is_some, is_none, unwrap_or, slice_index_or, slice_set, bytes_eq, All, Result, Ok, Err}
use Rattle.std.specs.List.{list_any}
use Rattle.dom_model.specs.declared.RecordType.{RecordType}
use Rattle.dom_model.specs.declared.RecordType.TheVariants.{ChildList, Attributes, CharacterData}
use Rattle.dom_model.specs.declared.DomError.{DomError}
use Rattle.dom_model.specs.declared.DomError.TheVariants.{TypeError}
use Rattle.dom_model.specs.PlainLists.Lists.{is_number, left_out, first_refusal}
use Rattle.dom_model.specs.Worlds.World.{Options, Registration, Mutation, Observing}
use Rattle.dom_model.specs.MutationObservers.GivenOptions.{GivenOptions}
use Rattle.dom_model.specs.MutationObservers.Record.{Record, Notification}

-- Options.

-- the member is given, and true
abbrev pub is_on : Option Bool → Bool
is_on given = unwrap_or given false

-- attributes: as given; where it is not, on where one of its own options is given
abbrev pub attributes_on : GivenOptions → Bool
attributes_on g = unwrap_or g.attributes (is_some g.attribute_old_value || is_some g.attribute_filter)

-- characterData: as given; where it is not, on where its own option is given
abbrev pub character_data_on : GivenOptions → Bool
character_data_on g = unwrap_or g.character_data (is_some g.character_data_old_value)

-- what is refused: no type at all, and options of a type that is off
abbrev pub options_refusal : GivenOptions → Option DomError
options_refusal g = first_refusal (
    (not (is_on g.child_list || (attributes_on g || character_data_on g)), TypeError)
    ∷ ((is_on g.attribute_old_value || is_some g.attribute_filter) && not (attributes_on g), TypeError)
    ∷ (is_on g.character_data_old_value && not (character_data_on g), TypeError)
    ∷ [])

abbrev pub options_of : GivenOptions → Options
options_of g = record {
  child_list = is_on g.child_list;
  attributes = attributes_on g;
  character_data = character_data_on g;
  subtree = is_on g.subtree;
  attribute_old_value = is_on g.attribute_old_value;
  character_data_old_value = is_on g.character_data_old_value;
  attribute_filter = g.attribute_filter;
}

abbrev pub settled_unless : Option DomError → Options → Result Options DomError
settled_unless None options = Ok options
settled_unless (Some e) options = Err e

-- the options as they are settled, or their refusal
abbrev pub settled : GivenOptions → Result Options DomError
settled g = settled_unless (options_refusal g) (options_of g)

-- Registrations.

-- the observer's registration on the node, not a transient one
abbrev pub is_registered : ℕ → ℕ → Registration → Bool
is_registered o n r = (r.observer == o) && ((r.node == n) && is_none r.source)

-- a transient one of the observer whose source stands on the node
abbrev pub is_transient_from : ℕ → ℕ → Registration → Bool
is_transient_from o n r = (r.observer == o) && is_number r.source n

abbrev pub new_registration : ℕ → ℕ → Options → Registration
new_registration o n options = record { node = n; observer = o; options = options; source = None }

abbrev pub with_options : ℕ → ℕ → Options → Registration → Registration
with_options o n options r = if is_registered o n r then record r { options = options } else r

-- the observer's registration on the node gets the options, and the transient ones that come from it go; where it has none, one is added last
abbrev pub registered : ℕ → ℕ → Options → List Registration → List Registration
registered o n options rs =
    if list_any (is_registered o n) rs
    then map (with_options o n options) (filter (λ (r : Registration). not (is_transient_from o n r)) rs)
    else rs ++ new_registration o n options ∷ []

-- observe
abbrev pub observed : ℕ → ℕ → Options → Observing → Observing
observed o n options x = record x { registrations = registered o n options x.registrations }

-- Mutations: whom they interest, and what those are told.

abbrev pub name_passes : Option (List (List ℕ)) → Option (List ℕ) → Bool
name_passes None name = true
name_passes (Some names) None = false
name_passes (Some names) (Some name) = list_any (bytes_eq name) names

-- the type is on, and an attribute's name passes the filter
abbrev pub type_passes : RecordType → Option (List ℕ) → Options → Bool
type_passes ChildList name options = options.child_list
type_passes Attributes name options = options.attributes && name_passes options.attribute_filter name
type_passes CharacterData name options = options.character_data

-- a registration that stands on an inclusive ancestor of the target makes its observer interested
abbrev pub interests : Mutation → Registration → Bool
interests m r = ((r.node == m.target) || r.options.subtree) && type_passes m.type m.name r.options

abbrev pub asks_old_value : RecordType → Options → Bool
asks_old_value ChildList options = false
asks_old_value Attributes options = options.attribute_old_value
asks_old_value CharacterData options = options.character_data_old_value

-- the registrations that a mutation interests, from the target upwards
abbrev pub interested : Mutation → List Registration
interested m = filter (interests m) m.standing

abbrev pub record_with : Mutation → Option (List ℕ) → Record
record_with m old_value = record {
  type = m.type;
  target = m.target;
  added = m.added;
  removed = m.removed;
  previous = m.previous;
  next = m.next;
  name = m.name;
  old_value = old_value;
}

-- one record, however many registrations; with the old value where one of them asks for it
abbrev pub record_by : Mutation → List Registration → Option Record
record_by m [] = None
record_by m (r ∷ rs) =
    Some (record_with m (if list_any (λ (s : Registration). asks_old_value m.type s.options) (r ∷ rs) then m.old_value else None))

-- what an observer is told of a mutation, where it interests it
abbrev pub record_for : ℕ → Mutation → Option Record
record_for o m = record_by m (filter (λ (r : Registration). r.observer == o) (interested m))

-- Queues and the pending list.

-- the place in the list of mutations up to which the observer's records were taken; none where its number was not given out, or was released
abbrev pub taken_up_to : ℕ → Observing → Option ℕ
taken_up_to o x = slice_index_or x.places o None

-- an observer of that number is there: it was made, and not released
abbrev pub has_observer : Observing → ℕ → Bool
has_observer x o = is_some (taken_up_to o x)

abbrev pub records_past : ℕ → List Mutation → Option ℕ → List Record
records_past o ms None = []
records_past o ms (Some place) = filter_map (record_for o) (drop place ms)

-- an observer's queue: the records of the mutations after its place
abbrev pub queue_of : ℕ → Observing → List Record
queue_of o x = records_past o x.mutations (taken_up_to o x)

abbrev pub observers_of : Mutation → List ℕ
observers_of m = map (λ (r : Registration). r.observer) (interested m)

-- each number where it first stands
abbrev pub each_once : List ℕ → List ℕ
each_once [] = []
each_once (n ∷ ns) = n ∷ left_out n (each_once ns)

-- the pending list: the observers that a mutation since the last notify interests, by the first such mutation, then by the first such registration;
-- those that were released are left out
abbrev pub pending_of : Observing → List ℕ
pending_of x = filter (has_observer x) (each_once (flat_map observers_of (drop x.notified x.mutations)))

-- each observer that a mutation since the last notify interests has a number that was given out
abbrev pub InterestedAreMade : Observing → Type 0
InterestedAreMade x = All (λ o. o < length x.places) (flat_map observers_of (drop x.notified x.mutations))

-- a new observer: nothing in the list is before it
abbrev pub with_observer : Observing → Observing
with_observer x = record x { places = x.places ++ Some (length x.mutations) ∷ [] }

-- takeRecords: the observer's place moves to the end
abbrev pub records_taken : ℕ → Observing → Observing
records_taken o x = record x { places = slice_set x.places o (Some (length x.mutations)) }

-- disconnect: all its registrations go, transient ones too, and its queue is emptied
abbrev pub disconnected : ℕ → Observing → Observing
disconnected o x = record (records_taken o x) { registrations = filter (λ (r : Registration). not (r.observer == o)) x.registrations }

-- an observer is released: it is disconnected, and then has no place any more; its number is not used again (ours)
abbrev pub released_observer : ℕ → Observing → Observing
released_observer o x = record (disconnected o x) { places = slice_set x.places o None }

abbrev pub told_in : Observing → ℕ → Notification
told_in x o = record { observer = o; records = queue_of o x }

abbrev pub has_records : Notification → Bool
has_records t = not (length t.records == 0)

-- what notify tells: the pending observers whose queues are not empty, in order
abbrev pub notifications : Observing → List Notification
notifications x = filter has_records (map (told_in x) (pending_of x))

-- the places of some observers moved to one place
abbrev pub moved_to : ℕ → List ℕ → List (Option ℕ) → List (Option ℕ)
moved_to place [] places = places
moved_to place (o ∷ os) places = moved_to place os (slice_set places o (Some place))

-- notify: the queues of the pending observers and the pending list are emptied, and every transient registration goes
abbrev pub after_notify : Observing → Observing
after_notify x = record x {
  registrations = filter (λ (r : Registration). is_none r.source) x.registrations;
  places = moved_to (length x.mutations) (pending_of x) x.places;
  notified = length x.mutations;
}

-- The steps of notify, one by one.

-- the pending observers are taken: nobody is pending any more, and the queues and all registrations stay
abbrev pub pending_taken : Observing → Observing
pending_taken x = record x { notified = length x.mutations }

-- a transient registration of the observer
abbrev pub is_transient_of : ℕ → Registration → Bool
is_transient_of o r = (r.observer == o) && is_some r.source

-- one observer is told: its queue is emptied, and its transient registrations go
abbrev pub observer_told : ℕ → Observing → Observing
observer_told o x = record (records_taken o x) { registrations = filter (λ (r : Registration). not (is_transient_of o r)) x.registrations }

-- several are told, one after another
abbrev pub told_in_turn : List ℕ → Observing → Observing
told_in_turn [] x = x
told_in_turn (o ∷ os) x = told_in_turn os (observer_told o x)

-- what each of them is told
abbrev pub answers_in_turn : List ℕ → Observing → List Notification
answers_in_turn [] x = []
answers_in_turn (o ∷ os) x = told_in x o ∷ answers_in_turn os (observer_told o x)

-- every transient registration that is left goes
abbrev pub transients_ended : Observing → Observing
transients_ended x = record x { registrations = filter (λ (r : Registration). is_none r.source) x.registrations }
