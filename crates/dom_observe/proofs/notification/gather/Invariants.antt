-- The first pending observers are told, and their queues are empty; there is room for the others.
use Rattle.std.proofs.Common.{◌≡◌, ℕ, ◌≤◌, [], if◌then◌else◌, length, filter, map, take, vec_len, vec_capacity}
use Rattle.dom_model.specs.Definitions.{among, has_records}
use Rattle.dom_observe.specs.{Notification.notification_for, Roster.keys_by, Roster.queues_by, Watchers.records_at}
use Rattle.dom_observe.proofs.notification.gather.Given as goal

abbrev pub invariant-loop-index : goal.invariant-loop-index
invariant-loop-index l = record {
  keys : keys_by l.roster ≡ keys_by l.initial.roster;
  told : l.told.items ≡ filter has_records (map (notification_for (queues_by l.initial.roster)) (take l.index l.pending.keys));
  left : (p : ℕ) → records_at (queues_by l.roster) p ≡ (if among p (take l.index l.pending.keys) then [] else records_at (queues_by l.initial.roster) p);
  many : vec_len l.told ≤ l.index;
  room : length l.pending.keys ≤ vec_capacity l.told;
}
