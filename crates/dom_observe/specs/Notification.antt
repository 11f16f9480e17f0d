-- What pending observers are told, and what that leaves.
use Rattle.std.specs.Prelude.{◌≡◌, ℕ, if◌then◌else◌, List, [], map, filter, Option, is_none}
use Rattle.dom_model.specs.PlainLists.Lists.{among}
use Rattle.dom_model.specs.Worlds.World.{Registration}
use Rattle.dom_model.specs.MutationObservers.Record.{Record, Notification}
use Rattle.dom_model.specs.MutationObservers.Records.{has_records}
use Rattle.dom_observe.specs.Watchers.{Watchers, on, records_at}

-- an observer and what is in its queue
abbrev pub notification_for : List (Option (List Record)) → ℕ → Notification
notification_for queues o = record { observer = o; records = records_at queues o }

-- of several observers those for which records wait, in their order, each with all of these
abbrev pub waiting_in : List (Option (List Record)) → List ℕ → List Notification
waiting_in queues ps = filter has_records (map (notification_for queues) ps)

-- Each pending observer was told: nobody is pending, no record waits for those that were, what waits for another is as before, and of the registrations
-- on a node those that are not transient are left.
pub record IsNotified (old new : Watchers) : Type 0 where
  pub pending : new.pending ≡ []
  pub queues : (i : ℕ) → records_at new.queues i ≡ (if among i old.pending then [] else records_at old.queues i)
  pub nodes : (n : ℕ) → on n new.nodes ≡ filter (λ (r : Registration). is_none r.source) (on n old.nodes)
