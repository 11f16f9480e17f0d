-- The nodes that were passed are out.
use Rattle.dom_edit.specs.KeptNodes.{KeepsLabels}
use Rattle.dom_content.proofs.RemoveEachLemmas.{IsLeaving}
use Rattle.dom_content.proofs.deletion.remove_each.Given as goal

abbrev pub invariant-loop-node : goal.invariant-loop-node
invariant-loop-node l = record {
  leaving : IsLeaving l.initial.world l.world l.nodes l.node-index;
  kept : KeepsLabels l.initial.world l.world;
}
