-- What the first observers have keys of is gone through, and of the other transient registrations some.
use Rattle.std.proofs.Common.{◌≡◌, ℕ, [], true, take, slice_index_or}
use Rattle.dom_model.specs.Definitions.{among}
use Rattle.dom_observe.specs.{Registrations.at, Registrations.unless_ending, Registrations.Between, Registrations.Swept, Roster.passing_by}
use Rattle.dom_observe.proofs.registrations.Registrations.end_passing.Given as goal

abbrev pub invariant-loop-index : goal.invariant-loop-index
invariant-loop-index l = record {
  between : (k : ℕ) → Between l.ending (at l.initial.self k) (at l.self k);
  done : (o : ℕ) → among o (take l.index l.fleeting.keys) ≡ true → (k : ℕ) → among k (slice_index_or (passing_by l.roster) o []) ≡ true → at l.self k ≡ unless_ending l.ending (at l.initial.self k);
  swept : Swept l.initial.self l.self;
}
