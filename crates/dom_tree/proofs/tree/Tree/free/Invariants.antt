-- What is left of the tree, and where the walk stands in it.
use Rattle.dom_model.specs.Definitions.{size}
use Rattle.dom_tree.proofs.FreeLemmas.{IsFreeing}
use Rattle.dom_tree.proofs.tree.Tree.free.Given as goal

abbrev pub invariant-loop-parent : goal.invariant-loop-parent
invariant-loop-parent g l = IsFreeing l.initial.self l.self l.fn.top l.here

abbrev pub decreases-loop-parent : goal.decreases-loop-parent
decreases-loop-parent g l = size l.self.forest
