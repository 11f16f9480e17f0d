-- The iterators that were passed have stepped off; the rest are as they were.
use Rattle.std.proofs.Common.{◌≡◌, ◌++◌, map, take, drop}
use Rattle.std.specs.Option.{ForSome}
use Rattle.dom_model.specs.Definitions.{pre_removed}
use Rattle.dom_traverse.specs.{NewReferences.IsExit, PreRemoval.StandAtReferences}
use Rattle.dom_traverse.proofs.pre_removal.removing_each.Given as goal

abbrev pub invariant-loop-slot : goal.invariant-loop-slot
invariant-loop-slot g l = record {
  stepped : l.iterators.items ≡ map (pre_removed l.tree.forest l.node) (take l.slot l.fn.iterators.items) ++ drop l.slot l.fn.iterators.items;
  slots : l.iterators.slots ≡ l.fn.iterators.slots;
  stand : StandAtReferences l.iterators.items l.references;
  found : ForSome l.last (IsExit l.tree.forest l.node);
}
