-- What follows in tree order is what comes past the tree of where the walk stands.
use Rattle.std.proofs.Common.{length}
use Rattle.dom_links.specs.Placed.{IsPlaced}
use Rattle.dom_model.specs.Definitions.{ancestors}
use Rattle.dom_model.proofs.Forests.TreeOrder.Stepping.{Past}
use Rattle.dom_tree.specs.Places.{called}
use Rattle.dom_tree.proofs.tree.Tree.next_in_order.Given as goal

abbrev pub invariant-loop-next : goal.invariant-loop-next
invariant-loop-next g l = record { held : IsPlaced l.self-inside.links l.here; same : Past l.self.forest l.fn.id (called l.self-inside.links l.here) }

abbrev pub decreases-loop-next : goal.decreases-loop-next
decreases-loop-next g l = length (ancestors (called l.self-inside.links l.here) l.self.forest)
