-- Two ways up, as deep as one another, that have not met.
use Rattle.std.proofs.Common.{◌≡◌, length, true}
use Rattle.dom_model.specs.Definitions.{among, ancestors, root_of}
use Rattle.dom_links.specs.Placed.{IsPlaced}
use Rattle.dom_tree.specs.Places.{called}
use Rattle.dom_tree.proofs.tree.Tree.fork.Given as goal

abbrev pub invariant-loop-right_parent : goal.invariant-loop-right_parent
invariant-loop-right_parent g l = record {
  left_held : IsPlaced l.self-inside.links l.left;
  right_held : IsPlaced l.self-inside.links l.right;
  left_above : among (called l.self-inside.links l.left) (ancestors l.fn.a l.self.forest) ≡ true;
  right_above : among (called l.self-inside.links l.right) (ancestors l.fn.b l.self.forest) ≡ true;
  apart : (called l.self-inside.links l.left ≡ called l.self-inside.links l.right → ⊥);
  root : root_of l.self.forest (called l.self-inside.links l.left) ≡ root_of l.self.forest (called l.self-inside.links l.right);
  level : length (ancestors (called l.self-inside.links l.left) l.self.forest) ≡ length (ancestors (called l.self-inside.links l.right) l.self.forest);
}

abbrev pub decreases-loop-right_parent : goal.decreases-loop-right_parent
decreases-loop-right_parent g l = length (ancestors (called l.self-inside.links l.left) l.self.forest)
