-- It is an ancestor of where the walk stands, where it is one of where it began.
use Rattle.std.proofs.Common.{◌≡◌, length}
use Rattle.dom_model.specs.Definitions.{among, ancestors}
use Rattle.dom_links.specs.Placed.{IsPlaced}
use Rattle.dom_tree.specs.Places.{called}
use Rattle.dom_tree.proofs.tree.Tree.is_ancestor.Given as goal

abbrev pub invariant-loop-self : goal.invariant-loop-self
invariant-loop-self g l = record {
  held : IsPlaced l.self-inside.links l.here;
  same : among l.fn.above (ancestors (called l.self-inside.links l.here) l.self.forest) ≡ among l.fn.above (ancestors l.fn.id l.self.forest);
}

abbrev pub decreases-loop-self : goal.decreases-loop-self
decreases-loop-self g l = length (ancestors (called l.self-inside.links l.here) l.self.forest)
