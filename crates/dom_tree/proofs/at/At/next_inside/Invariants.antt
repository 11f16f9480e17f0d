-- What follows in tree order is what comes past the tree of where the walk stands.
use Rattle.std.proofs.Common.{◌≡◌, ◌<◌, length, None}
use Rattle.dom_model.specs.Definitions.{after, ancestors, occurs, tree_at, inclusive_descendants}
use Rattle.dom_links.specs.Placed.{IsPlaced}
use Rattle.dom_model.proofs.Forests.TreeOrder.Ordering.{past}
use Rattle.dom_tree.specs.Places.{called}
use Rattle.dom_tree.proofs.at.At.next_inside.Given as goal

abbrev pub invariant-loop-links : goal.invariant-loop-links
invariant-loop-links g l = record {
  held : IsPlaced l.links l.here;
  within : 0 < occurs (called l.links l.here) (tree_at l.fn.top l.self.tree.forest);
  same : after l.self.node (inclusive_descendants l.self.tree.forest l.fn.top) ≡ past None (called l.links l.here) (tree_at l.fn.top l.self.tree.forest);
}

abbrev pub decreases-loop-links : goal.decreases-loop-links
decreases-loop-links g l = length (ancestors (called l.links l.here) l.self.tree.forest)
