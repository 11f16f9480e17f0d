-- Those that gave way wait, and the others stay.
use Rattle.std.proofs.Common.{◌≡◌}
use Rattle.std.specs.Option.{ForSome}
use Rattle.dom_model.specs.Definitions.{pre_removed}
use Rattle.dom_traverse.specs.{NewReferences.IsExit, PreRemoval.stepped_at}
use Rattle.dom_traverse.proofs.GaveWayLemmas.{standing, AreLeaving}
use Rattle.dom_traverse.proofs.pre_removal.give_way.Given as goal

abbrev pub invariant-loop-slot : goal.invariant-loop-slot
invariant-loop-slot g l = record {
  leaving : AreLeaving (stepped_at l.here (pre_removed l.tree.forest l.node)) l.fn.iterators.items l.iterators.items l.references;
  slots : l.iterators.slots ≡ l.fn.iterators.slots;
  found : ForSome l.last (IsExit l.tree.forest l.node);
}

abbrev pub decreases-loop-slot : goal.decreases-loop-slot
decreases-loop-slot g l = standing l.references
