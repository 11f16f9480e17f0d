-- The tree keeps what it keeps, and the node at the place is there.
use Rattle.dom_tree.proofs.{SlotStepLemmas.forest-read, SpotLemmas.tree-is, SpotLemmas.spot-there}
use Rattle.dom_tree.proofs.at.At.state_law.Goals as goal

pub returns-clause-forest : goal.returns-clause-forest
returns-clause-forest g c = forest-read c.self.invariant.seated.tree (tree-is c.self.invariant c.self.view_is)

pub returns-clause-there : goal.returns-clause-there
returns-clause-there g c = spot-there c.self.invariant c.self.view_is
