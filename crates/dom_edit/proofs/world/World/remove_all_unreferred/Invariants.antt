-- The children that were passed are removed; the others are left.
use Rattle.std.proofs.Common.{[], ◌∷◌, take, drop}
use Rattle.dom_model.specs.Definitions.{remove_all}
use Rattle.dom_edit.specs.{Whole.Follows, KeptNodes.KeepsNodes, OlderNodes.LeavesOlder}
use Rattle.dom_edit.proofs.IsUnreferredLemmas.{AreLeft}
use Rattle.dom_edit.proofs.world.World.remove_all_unreferred.Given as goal

abbrev pub invariant-loop-node : goal.invariant-loop-node
invariant-loop-node l = record {
  removed : Follows l.fn.self l.self (remove_all (take l.node-index l.nodes));
  left : AreLeft l.self l.parent (drop l.node-index l.nodes);
  kept : KeepsNodes l.fn.self l.self;
  older : LeavesOlder (l.parent ∷ []) l.fn.self l.self;
}
