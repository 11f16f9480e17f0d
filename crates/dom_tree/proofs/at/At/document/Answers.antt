-- The value at the place is the node's.
use Rattle.dom_model.specs.Definitions.{Node}
use Rattle.dom_tree.proofs.SpotLemmas.{value-spot}
use Rattle.dom_tree.proofs.at.At.document.Goals as goal

pub returns : goal.returns
returns g c = value-spot c.self.invariant c.self.view_is (λ (x : Node g.row.X.Denot). x.document) c.value-kept.result.now _ c.kept.view_is c.value-kept.ensures
