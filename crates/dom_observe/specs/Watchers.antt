-- What observers keep: registrations by node, a queue for each observer, the observers that are pending; and the observing part that it stands for.
use Rattle.std.specs.Prelude.{◌≡◌, ℕ, ◌==◌, ◌≤◌, if◌then◌else◌, List, [], ◌∷◌, length, filter, sum_by, Option, None, is_some, IfSome, unwrap_or, slice_index_or}
use Rattle.dom_model.specs.Worlds.World.{Registration, Observing}
use Rattle.dom_model.specs.MutationObservers.Observing.{registered_on}
use Rattle.dom_model.specs.MutationObservers.Record.{Record}
use Rattle.dom_model.specs.MutationObservers.Records.{is_registered, taken_up_to, has_observer, queue_of, pending_of, InterestedAreMade}
use Rattle.dom_observe.specs.WithoutRepeats.{once}

-- nodes with the registrations on them, in their order, without later equal ones; for each number ever given out the queue of its observer, none
-- where it was released; the pending list
pub record Watchers : Type 0 where
  pub nodes : List (ℕ × List Registration)
  pub queues : List (Option (List Record))
  pub pending : List ℕ

-- what a list of numbers and lists has for a number
abbrev pub on : {A : Type 0} → ℕ → List (ℕ × List A) → List A
on n [] = []
on n (e ∷ es) = if n == e.0 then e.1 else on n es

-- how many registrations all nodes have together
abbrev pub registrations_in : Watchers → ℕ
registrations_in o = sum_by (λ (e : ℕ × List Registration). length e.1) o.nodes

-- the queue under a number; none where the number was not given out, or its observer was released
abbrev pub queue_at : List (Option (List Record)) → ℕ → Option (List Record)
queue_at queues i = slice_index_or queues i None

abbrev pub queue_in : Watchers → ℕ → Option (List Record)
queue_in o i = queue_at o.queues i

-- the records that wait under a number
abbrev pub records_at : List (Option (List Record)) → ℕ → List Record
records_at queues i = unwrap_or (queue_at queues i) []

-- the observing part that the observers stand for, as commands leave it: no place is past the end of its mutations, an observer is registered on
-- a node at most once, and whom a mutation interests was made
pub record Watches (o : Watchers) (x : Observing) : Type 0 where
  pub registrations : (n : ℕ) → on n o.nodes ≡ once (registered_on n x.registrations)
  pub made : length x.places ≡ length o.queues
  pub there : (i : ℕ) → is_some (queue_in o i) ≡ has_observer x i
  pub queues : (i : ℕ) → records_at o.queues i ≡ queue_of i x
  pub pending : o.pending ≡ pending_of x
  pub places : (i : ℕ) → IfSome (taken_up_to i x) (λ place. place ≤ length x.mutations)
  pub notified : x.notified ≤ length x.mutations
  pub interested : InterestedAreMade x
  pub once : (i n : ℕ) → length (filter (is_registered i n) x.registrations) ≤ 1

-- whatever observing part the old observers stand for, the new ones stand for what a step makes of it
abbrev pub StepsObserving : (Observing → Observing) → Watchers → Watchers → Type 0
StepsObserving step old new = (x : Observing) → Watches old x → Watches new (step x)

-- whatever observing part the observers stand for, this is what a question to it answers
abbrev pub AnswersQuestion : {A : Type 0} → (Observing → A) → Watchers → A → Type 0
AnswersQuestion question o answer = (x : Observing) → Watches o x → answer ≡ question x
