-- What follows in tree order is what comes past the tree of where the walk stands.
use Rattle.std.proofs.Common.{◌≡◌, ◌<◌, length, None}
use Rattle.dom_model.specs.Definitions.{after, ancestors, occurs, tree_at, inclusive_descendants}
use Rattle.dom_links.specs.Placed.{IsPlaced}
use Rattle.dom_model.proofs.Forests.TreeOrder.Ordering.{past}
use Rattle.dom_tree.specs.Places.{called}
use Rattle.dom_tree.proofs.tree.Tree.next_inside.Given as goal

abbrev pub invariant-loop-self : goal.invariant-loop-self
invariant-loop-self g l = record {
  held : IsPlaced l.self-inside.links l.here;
  within : 0 < occurs (called l.self-inside.links l.here) (tree_at l.fn.top l.self.forest);
  same : after l.fn.id (inclusive_descendants l.self.forest l.fn.top) ≡ past None (called l.self-inside.links l.here) (tree_at l.fn.top l.self.forest);
}

abbrev pub decreases-loop-self : goal.decreases-loop-self
decreases-loop-self g l = length (ancestors (called l.self-inside.links l.here) l.self.forest)
