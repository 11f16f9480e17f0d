-- The child that the walk has come to.
use Rattle.std.proofs.Common.{◌≡◌, ◌+◌, Some, slice_get}
use Rattle.dom_links.specs.Placed.{IsPlaced}
use Rattle.dom_model.specs.Definitions.{children_of}
use Rattle.dom_tree.specs.Places.{called}
use Rattle.dom_tree.proofs.tree.Tree.child_after.Given as goal

abbrev pub invariant-loop-passed : goal.invariant-loop-passed
invariant-loop-passed g l = record {
  held : IsPlaced l.self-inside.links l.here;
  at : slice_get (children_of l.self.forest l.fn.id) (l.fn.index + l._passed) ≡ Some (called l.self-inside.links l.here);
}
