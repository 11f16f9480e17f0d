-- The nodes that were passed are opened.
use Rattle.std.proofs.Common.{◌≡◌, false, [], ◌∷◌, drop}
use Rattle.dom_model.specs.Definitions.{head_into}
use Rattle.dom_edit.specs.{declared.world.World.World, KeptNodes.KeepsLabels, OlderNodes.LeavesAll, OlderNodes.AreNewer, Whole.IsWhole}
use Rattle.dom_content.specs.Paths.{numbers_of_copies}
use Rattle.dom_content.proofs.PathSteps.{IsGoingDown}
use Rattle.dom_content.proofs.end_paths.head_along.Given as goal

abbrev pub invariant-loop-next : goal.invariant-loop-next
invariant-loop-next l = record {
  down : IsGoingDown l.initial.world l.world l.moves 0 (head_into l.moves l.fn.into l.offset (l.fn.first ∷ l.below)) (λ i ns. head_into l.moves i l.offset ns) l.partials.items l.here (l.node ∷ drop l.next-index l.below);
  kept : KeepsLabels l.initial.world l.world;
  left : l.moves ≡ false → (a : World) → IsWhole a → AreNewer a (l.fn.into ∷ []) → LeavesAll a l.initial.world → AreNewer a (l.here ∷ numbers_of_copies l.partials.items) × LeavesAll a l.world;
}
