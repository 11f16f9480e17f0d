-- The keys so far and those of the nodes from here on are those of all the ancestors.
use Rattle.std.proofs.Common.{◌≡◌, ◌++◌, length, flat_map}
use Rattle.dom_model.specs.Definitions.{HasNode, ancestors}
use Rattle.dom_observe.specs.Watchers.{on}
use Rattle.dom_observe.proofs.transient_registrations.find_standing.Given as goal

abbrev pub invariant-loop-here : goal.invariant-loop-here
invariant-loop-here g l = record {
  tree : l.here.tree ≡ l.tree;
  there : HasNode l.tree.forest l.here.node;
  so_far : l.keys.items ++ flat_map (λ n. on n l.registrations.lists) (ancestors l.here.node l.tree.forest)
      ≡ flat_map (λ n. on n l.registrations.lists) (ancestors l.fn.node l.tree.forest);
}

abbrev pub decreases-loop-here : goal.decreases-loop-here
decreases-loop-here g l = length (ancestors l.here.node l.tree.forest)
