-- The roots that are left may come in still; the documents, and the number of nodes, are in order.
use Rattle.dom_model.specs.Definitions.{IsOwnedWell}
use Rattle.std.proofs.Common.{◌≡◌, drop}
use Rattle.dom_edit.specs.Insertion.{all_placed, IsOpen}
use Rattle.dom_edit.proofs.root_insertion.put_all.Given as goal

abbrev pub invariant-loop-node : goal.invariant-loop-node
invariant-loop-node l = record {
  same : all_placed l.parent l.child (drop l.node-index l.nodes) l.tree.forest ≡ all_placed l.parent l.child l.nodes l.fn.tree.forest;
  made : l.tree.made ≡ l.fn.tree.made;
  ready : IsOpen l.tree.forest l.parent l.child (drop l.node-index l.nodes);
  owned : IsOwnedWell l.tree.forest;
}
