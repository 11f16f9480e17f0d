-- The tree of where the walk stands ends where the first one ends.
use Rattle.std.proofs.Common.{◌≡◌}
use Rattle.dom_model.specs.Definitions.{last_of, size, tree_at, inclusive_descendants}
use Rattle.dom_links.specs.Placed.{IsPlaced}
use Rattle.dom_tree.specs.Places.{called}
use Rattle.dom_tree.proofs.tree.Tree.last_inside.Given as goal

abbrev pub invariant-loop-last : goal.invariant-loop-last
invariant-loop-last g l = record {
  held : IsPlaced l.self-inside.links l.here;
  same : last_of (inclusive_descendants l.self.forest (called l.self-inside.links l.here)) ≡ last_of (inclusive_descendants l.self.forest l.fn.id);
}

abbrev pub decreases-loop-last : goal.decreases-loop-last
decreases-loop-last g l = size (tree_at (called l.self-inside.links l.here) l.self.forest)
