-- The first observers have no keys of transient registrations any more.
use Rattle.std.proofs.Common.{◌≡◌, ℕ, [], true, take, slice_index_or}
use Rattle.dom_model.specs.Definitions.{among}
use Rattle.dom_observe.specs.Roster.{lasting_by, passing_by, queues_by}
use Rattle.dom_observe.proofs.registration_removal.forget_all_passing.Given as goal

abbrev pub invariant-loop-index : goal.invariant-loop-index
invariant-loop-index l = record {
  ended : (o : ℕ) → among o (take l.index l.fleeting.keys) ≡ true → slice_index_or (passing_by l.roster) o [] ≡ [];
  none : (o : ℕ) → slice_index_or (passing_by l.initial.roster) o [] ≡ [] → slice_index_or (passing_by l.roster) o [] ≡ [];
  lasting : lasting_by l.roster ≡ lasting_by l.initial.roster;
  queues : queues_by l.roster ≡ queues_by l.initial.roster;
}
