-- The root of where the walk stands is the root of where it began.
use Rattle.std.proofs.Common.{◌≡◌, length}
use Rattle.dom_links.specs.Placed.{IsPlaced}
use Rattle.dom_model.specs.Definitions.{root_of, ancestors}
use Rattle.dom_tree.specs.Places.{called}
use Rattle.dom_tree.proofs.tree.Tree.root.Given as goal

abbrev pub invariant-loop-above : goal.invariant-loop-above
invariant-loop-above g l = record {
  held : IsPlaced l.self-inside.links l.top;
  same : root_of l.self.forest (called l.self-inside.links l.top) ≡ root_of l.self.forest l.fn.id;
}

abbrev pub decreases-loop-above : goal.decreases-loop-above
decreases-loop-above g l = length (ancestors (called l.self-inside.links l.top) l.self.forest)
