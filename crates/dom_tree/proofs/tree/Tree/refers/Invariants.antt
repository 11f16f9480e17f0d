-- No number so far refers to the tree.
use Rattle.std.proofs.Common.{◌≡◌, ℕ, ◌<◌, false}
use Rattle.dom_tree.specs.OutsideNodes.{refers_from}
use Rattle.dom_tree.proofs.tree.Tree.refers.Given as goal

abbrev pub invariant-loop-number : goal.invariant-loop-number
invariant-loop-number g l = (m : ℕ) → m < l.number → refers_from l.self.forest l.top m ≡ false
