-- The first observers are pending, and there is room for the others.
use Rattle.std.proofs.Common.{◌≡◌, ◌+◌, ◌≤◌, length, take}
use Rattle.std.specs.Map.{keys_of}
use Rattle.indexmap.specs.IndexSet.{spare}
use Rattle.dom_model.specs.Definitions.{with_all_last}
use Rattle.dom_observe.proofs.queue_record.mark_each.Given as goal

abbrev pub invariant-loop-index : goal.invariant-loop-index
invariant-loop-index l = record {
  keys : l.pending.keys ≡ with_all_last l.initial.pending.keys (keys_of (take l.index l.heard.entries));
  room : length l.heard.entries ≤ spare l.pending + l.index;
}
