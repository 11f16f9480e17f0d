-- The first listeners still have their records, and the others none.
use Rattle.std.proofs.Common.{◌≡◌, ℕ, ◌++◌, List, nat_eq, take}
use Rattle.std.specs.Map.{lookup}
use Rattle.dom_model.specs.Definitions.{Mutation, Record}
use Rattle.dom_observe.specs.{Roster.keys_by, Roster.queues_by, Interested.delivered, Watchers.records_at}
use Rattle.dom_observe.proofs.queue_record.take_back.Given as goal

abbrev pub invariant-loop-left : goal.invariant-loop-left
invariant-loop-left l = record {
  keys : keys_by l.roster ≡ keys_by l.initial.roster;
  left : (m : Mutation) (before : ℕ → List Record) → ((p : ℕ) → records_at (queues_by l.initial.roster) p ≡ before p ++ delivered m (lookup (nat_eq p) (take l.initial.left l.heard.entries)))
      → (p : ℕ) → records_at (queues_by l.roster) p ≡ before p ++ delivered m (lookup (nat_eq p) (take l.left l.heard.entries));
}

abbrev pub decreases-loop-left : goal.decreases-loop-left
decreases-loop-left l = l.left
