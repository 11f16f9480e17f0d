-- The iterators of the nodes that were passed have given way.
use Rattle.std.proofs.Common.{◌≡◌, length}
use Rattle.std.specs.Option.{ForSome}
use Rattle.dom_model.specs.Definitions.{from_first, IsForest, inclusive_descendants}
use Rattle.dom_traverse.specs.{NewReferences.IsExit, PreRemoval.StandAtReferences}
use Rattle.dom_traverse.proofs.GaveWayInsideLemmas.{IsLeaving}
use Rattle.dom_traverse.proofs.pre_removal.removing_inside.Given as goal

abbrev pub invariant-loop-next : goal.invariant-loop-next
invariant-loop-next g l = record {
  leaving : (s : IsForest l.tree) → IsLeaving l.tree s l.node l.fn.iterators.items l.iterators.items l.here;
  slots : l.iterators.slots ≡ l.fn.iterators.slots;
  stand : StandAtReferences l.iterators.items l.references;
  found : ForSome l.last (IsExit l.tree.forest l.node);
}

abbrev pub decreases-loop-next : goal.decreases-loop-next
decreases-loop-next g l = length (from_first l.here (inclusive_descendants l.tree.forest l.node))
