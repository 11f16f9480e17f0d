-- The observers from here on come last yet.
use Rattle.std.proofs.Common.{◌≡◌, ◌+◌, ◌≤◌, drop}
use Rattle.indexmap.specs.IndexSet.{spare}
use Rattle.dom_model.specs.Definitions.{with_all_last}
use Rattle.dom_observe.proofs.undoing.mark_untold.Given as goal

abbrev pub invariant-loop-observer : goal.invariant-loop-observer
invariant-loop-observer l = record {
  keys : with_all_last l.untold.keys (drop l.observer-index l.observers) ≡ with_all_last l.initial.untold.keys l.observers;
  room : spare l.initial.untold ≤ spare l.untold + l.observer-index;
}
