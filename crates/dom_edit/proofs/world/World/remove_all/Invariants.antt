-- The nodes that were passed are removed; all are there still.
use Rattle.std.proofs.Common.{◌≡◌, take}
use Rattle.dom_model.specs.Definitions.{remove_all}
use Rattle.dom_edit.specs.{Whole.IsWhole, Whole.IsUnobserved, Whole.Follows, KeptNodes.KeepsNodes, Insertion.AreThere}
use Rattle.dom_edit.proofs.world.World.remove_all.Given as goal

abbrev pub invariant-loop-node : goal.invariant-loop-node
invariant-loop-node l = record {
  removed : Follows l.fn.self l.self (remove_all (take l.node-index l.nodes));
  whole : IsWhole l.self;
  held : AreThere l.self.tree.forest l.nodes;
  kept : KeepsNodes l.fn.self l.self;
  unobserved : IsUnobserved l.fn.self → l.self.observers ≡ l.fn.self.observers;
}
