-- The nodes that were passed are named.
use Rattle.std.proofs.Common.{◌≡◌, ℕ, ◌+◌, ◌≤◌, ◌||◌, drop, nat_eq}
use Rattle.indexmap.specs.IndexSet.{contains, spare}
use Rattle.dom_model.specs.Definitions.{among}
use Rattle.dom_observe.proofs.queue.name_all.Given as goal

abbrev pub invariant-loop-node : goal.invariant-loop-node
invariant-loop-node l = record {
  named : (n : ℕ) → (contains nat_eq l.named n || among n (drop l.node-index l.nodes)) ≡ (contains nat_eq l.initial.named n || among n l.nodes);
  room : spare l.initial.named ≤ spare l.named + l.node-index;
}
