-- The first listeners have their records.
use Rattle.std.proofs.Common.{◌≡◌, ℕ, ◌++◌, nat_eq, take}
use Rattle.std.specs.Map.{lookup}
use Rattle.dom_observe.specs.{Roster.keys_by, Roster.queues_by, Interested.delivered, Watchers.records_at}
use Rattle.dom_observe.proofs.queue_record.queue_for_each.Given as goal

abbrev pub invariant-loop-index : goal.invariant-loop-index
invariant-loop-index l = record {
  keys : keys_by l.roster ≡ keys_by l.initial.roster;
  told : (p : ℕ) → records_at (queues_by l.roster) p ≡ records_at (queues_by l.initial.roster) p ++ delivered l.mutation (lookup (nat_eq p) (take l.index l.heard.entries));
}
