-- The queues and the keys stay.
use Rattle.std.proofs.Common.{◌≡◌}
use Rattle.dom_observe.specs.Roster.{keys_by, queues_by}
use Rattle.dom_observe.proofs.queues.flush_each.Given as goal

abbrev pub invariant-loop-observer : goal.invariant-loop-observer
invariant-loop-observer l = record {
  queues : queues_by l.roster ≡ queues_by l.initial.roster;
  keys : keys_by l.roster ≡ keys_by l.initial.roster;
}
