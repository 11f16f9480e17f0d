use Rattle.std.proofs.Common.{tests, rules}
use Rattle.dom_tree.proofs.tree.Tree.comes_before.Goals as goal

pub returns-then-eq : goal.returns-then-eq
returns-then-eq g c = search (tests, rules)

pub returns : goal.returns
returns g c = search (tests, rules)
