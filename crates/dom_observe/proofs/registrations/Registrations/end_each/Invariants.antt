-- What stands under the first keys is gone through.
use Rattle.std.proofs.Common.{◌≡◌, ℕ, true, take}
use Rattle.dom_model.specs.Definitions.{among}
use Rattle.dom_observe.specs.{Registrations.at, Registrations.unless_ending, Registrations.Between, Registrations.Swept}
use Rattle.dom_observe.proofs.registrations.Registrations.end_each.Given as goal

abbrev pub invariant-loop-key : goal.invariant-loop-key
invariant-loop-key l = record {
  between : (k : ℕ) → Between l.ending (at l.initial.self k) (at l.self k);
  done : (k : ℕ) → among k (take l.key-index l.keys) ≡ true → at l.self k ≡ unless_ending l.ending (at l.initial.self k);
  swept : Swept l.initial.self l.self;
}
