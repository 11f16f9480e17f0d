-- The nodes of the records that were passed are named, and there is room for those of the others.
use Rattle.std.proofs.Common.{◌≡◌, ℕ, ◌≤◌, ◌||◌, drop, length, nat_eq, flat_map}
use Rattle.indexmap.specs.IndexSet.{contains, spare}
use Rattle.dom_model.specs.Definitions.{among, nodes_of_record}
use Rattle.dom_observe.proofs.queue.name_each.Given as goal

abbrev pub invariant-loop-told : goal.invariant-loop-told
invariant-loop-told l = record {
  named : (n : ℕ) → (contains nat_eq l.named n || among n (flat_map nodes_of_record (drop l.told-index l.records))) ≡ (contains nat_eq l.initial.named n || among n (flat_map nodes_of_record l.records));
  room : length (flat_map nodes_of_record (drop l.told-index l.records)) ≤ spare l.named;
}
