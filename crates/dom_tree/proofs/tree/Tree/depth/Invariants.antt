-- As many steps up as were made, and the ancestors that are left.
use Rattle.std.proofs.Common.{◌≡◌, ◌+◌, length}
use Rattle.dom_links.specs.Placed.{IsPlaced}
use Rattle.dom_model.specs.Definitions.{ancestors}
use Rattle.dom_tree.specs.Places.{called}
use Rattle.dom_tree.proofs.tree.Tree.depth.Given as goal

abbrev pub invariant-loop-depth : goal.invariant-loop-depth
invariant-loop-depth g l = record {
  held : IsPlaced l.self-inside.links l.here;
  counted : l.depth + length (ancestors (called l.self-inside.links l.here) l.self.forest) ≡ length (ancestors l.fn.id l.self.forest);
}
