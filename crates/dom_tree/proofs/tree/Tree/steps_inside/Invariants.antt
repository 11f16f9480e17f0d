-- The walk has come to a node inside.
use Rattle.dom_model.proofs.Forests.TreeOrder.InsideWalks.{IsAt}
use Rattle.dom_tree.proofs.tree.Tree.steps_inside.Given as goal

abbrev pub invariant-loop-passed : goal.invariant-loop-passed
invariant-loop-passed g l = IsAt l.self.forest l.top l.here
