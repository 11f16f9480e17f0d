-- The answers to the commands of mutation observers. DOM Standard, "Interface MutationObserver".
-- Ours: observers are numbered in the order of making, and stand until they are released or the session ends.
use Rattle.std.specs.Prelude.{ℕ, Bool, not, [], ◌∷◌, length}
use Rattle.dom_model.specs.declared.OwnError.TheVariants.{NoSuchObject}
use Rattle.dom_model.specs.Worlds.World.{Observing, World}
use Rattle.dom_model.specs.MutationObservers.GivenOptions.{GivenOptions}
use Rattle.dom_model.specs.Commands.Reply.{Number, Numbers, Records, Notified, Reply, Own}
use Rattle.dom_model.specs.Commands.Guards.{Bounds, Step, guarded, checked, no_node, no_room, answers, does}
use Rattle.dom_model.specs.MutationObservers.Records.{options_refusal, options_of, observed, has_observer, queue_of, pending_of, with_observer, records_taken, disconnected, released_observer, notifications, after_notify, pending_taken, observer_told}

abbrev pub observers_made : World → ℕ
observers_made w = length w.observing.places

-- no observer of that number: never made, or released
abbrev pub no_observer : ℕ → World → Bool × Reply
no_observer o w = (not (has_observer w.observing o), Own NoSuchObject)

abbrev pub with_observing : Observing → World → World
with_observing x w = record w { observing = x }

abbrev pub answer_create_observer : Bounds → World → Step
answer_create_observer b w =
    guarded (no_room b (observers_made w) 1 ∷ []) w
    (answers (Number (observers_made w)) (with_observing (with_observer w.observing) w))

abbrev pub answer_observe : Bounds → ℕ → ℕ → GivenOptions → World → Step
answer_observe b o n options w =
    guarded (no_observer o w ∷ no_node n w ∷ []) w
    (checked (options_refusal options) w (does (with_observing (observed o n (options_of options) w.observing) w)))

abbrev pub answer_disconnect : Bounds → ℕ → World → Step
answer_disconnect b o w =
    guarded (no_observer o w ∷ []) w (does (with_observing (disconnected o w.observing) w))

-- release an observer (ours): it is disconnected, is pending no more, and no command finds it
abbrev pub answer_release_observer : Bounds → ℕ → World → Step
answer_release_observer b o w =
    guarded (no_observer o w ∷ []) w (does (with_observing (released_observer o w.observing) w))

abbrev pub answer_take_records : Bounds → ℕ → World → Step
answer_take_records b o w =
    guarded (no_observer o w ∷ []) w
    (answers (Records (queue_of o w.observing)) (with_observing (records_taken o w.observing) w))

abbrev pub answer_notify : Bounds → World → Step
answer_notify b w = answers (Notified (notifications w.observing)) (with_observing (after_notify w.observing) w)

-- the pending observers are taken (ours, the first step of notify): they are answered in order, and nobody is pending any more
abbrev pub answer_take_pending : Bounds → World → Step
answer_take_pending b w = answers (Numbers (pending_of w.observing)) (with_observing (pending_taken w.observing) w)

-- one observer is told (ours, the second step of notify): its records are answered and its queue emptied, and its transient registrations go
abbrev pub answer_tell_observer : Bounds → ℕ → World → Step
answer_tell_observer b o w =
    guarded (no_observer o w ∷ []) w
    (answers (Records (queue_of o w.observing)) (with_observing (observer_told o w.observing) w))

abbrev pub answer_pending : Bounds → World → Step
answer_pending b w = answers (Numbers (pending_of w.observing)) w
