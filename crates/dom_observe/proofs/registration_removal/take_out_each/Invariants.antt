-- What stands under the first keys is gone through.
use Rattle.std.proofs.Common.{◌≡◌, ℕ, if◌then◌else◌, take}
use Rattle.dom_model.specs.Definitions.{among}
use Rattle.dom_observe.specs.{Registrations.in_table, Registrations.unless_ending, Turns.Fewer}
use Rattle.dom_observe.proofs.registration_removal.take_out_each.Given as goal

abbrev pub invariant-loop-key : goal.invariant-loop-key
invariant-loop-key l = record {
  left : (k : ℕ) → in_table l.table k ≡ (if among k (take l.key-index l.keys) then unless_ending l.ending (in_table l.initial.table k) else in_table l.initial.table k);
  fewer : Fewer l.initial.table l.table;
}
