-- Of the observers that were passed those that are interested have a record less.
use Rattle.std.proofs.Common.{◌≡◌, ℕ, ◌&&◌, if◌then◌else◌, take}
use Rattle.dom_model.specs.Definitions.{among, ancestors}
use Rattle.dom_observe.specs.{Names.given_name, Registrations.at, Roster.keys_by, Roster.queues_by, Undoing.hears_at, Watchers.records_at}
use Rattle.dom_observe.proofs.UndoingLemmas.{shorter}
use Rattle.dom_observe.proofs.undoing.take_back_each.Given as goal

abbrev pub invariant-loop-observer : goal.invariant-loop-observer
invariant-loop-observer g l = record {
  keys : keys_by l.roster ≡ keys_by l.initial.roster;
  left : (p : ℕ) → records_at (queues_by l.roster) p
      ≡ (if among p (take l.observer-index l.pending.keys)
      && hears_at (at l.registrations) l.registrations.lists l.question.what l.question.target (given_name l.question.name) (ancestors l.question.target l.tree.forest) p
      then shorter (records_at (queues_by l.initial.roster) p) else records_at (queues_by l.initial.roster) p);
}
