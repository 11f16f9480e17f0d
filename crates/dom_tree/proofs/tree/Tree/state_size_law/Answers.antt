-- The table has a place for each number.
use Rattle.std.proofs.Common.{arith}
use Rattle.dom_tree.proofs.SlotStepLemmas.{made-is}
use Rattle.dom_tree.proofs.tree.Tree.state_size_law.Goals as goal

pub returns : goal.returns
returns g c = (let s = c.self.invariant.tree.stored.kept.small in omega (arith, s, made-is c.self.invariant.tree c.self.view_is))
