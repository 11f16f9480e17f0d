-- The nodes that were passed are in the fragment.
use Rattle.std.proofs.Common.{◌≡◌, false, [], ◌∷◌}
use Rattle.dom_edit.specs.{KeptNodes.KeepsLabels, OlderNodes.LeavesOlder}
use Rattle.dom_content.proofs.PieceSteps.{IsFilling}
use Rattle.dom_content.proofs.content_pieces.children_into.Given as goal

abbrev pub invariant-loop-node : goal.invariant-loop-node
invariant-loop-node l = record {
  filling : IsFilling l.initial.world l.world l.moves l.into l.nodes l.node-index;
  kept : KeepsLabels l.initial.world l.world;
  left : l.moves ≡ false → LeavesOlder (l.into ∷ []) l.initial.world l.world;
}
