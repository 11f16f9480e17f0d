-- What comes past the node's tree is what comes past the tree of where the walk stands.
use Rattle.std.proofs.Common.{◌≡◌, ◌<◌, length, None}
use Rattle.dom_model.specs.Definitions.{HasNode, ancestors, occurs, tree_at}
use Rattle.dom_model.proofs.Forests.TreeOrder.Ordering.{past}
use Rattle.dom_traverse.proofs.preceding_and_following.past_inside.Given as goal

abbrev pub invariant-loop-top : goal.invariant-loop-top
invariant-loop-top g l = record { there : HasNode l.tree.forest l.here; within : 0 < occurs l.here (tree_at l.top l.tree.forest); same : past None l.fn.node (tree_at l.top l.tree.forest) ≡ past None l.here (tree_at l.top l.tree.forest) }

abbrev pub decreases-loop-top : goal.decreases-loop-top
decreases-loop-top g l = length (ancestors l.here l.tree.forest)
