-- Those that were taken off are finished.
use Rattle.std.proofs.Common.{◌≡◌, false, length}
use Rattle.dom_edit.specs.{declared.world.World.World, KeptNodes.KeepsLabels, OlderNodes.LeavesAll, OlderNodes.AreNewer, Whole.IsWhole}
use Rattle.dom_content.specs.Paths.{numbers_of_copies}
use Rattle.dom_content.proofs.PathSteps.{IsClosing}
use Rattle.dom_content.proofs.partially_contained.close_all.Given as goal

abbrev pub invariant-loop-partial : goal.invariant-loop-partial
invariant-loop-partial l = record {
  closing : IsClosing l.initial.world l.world l.moves l.initial.partials.items l.partials.items;
  kept : KeepsLabels l.initial.world l.world;
  left : l.moves ≡ false → (a : World) → IsWhole a → AreNewer a (numbers_of_copies l.initial.partials.items) → LeavesAll a l.initial.world → AreNewer a (numbers_of_copies l.partials.items) × LeavesAll a l.world;
}

abbrev pub decreases-loop-partial : goal.decreases-loop-partial
decreases-loop-partial l = length l.partials.items
