-- The value at the place is the node's.
use Rattle.dom_model.specs.Definitions.{Node}
use Rattle.dom_tree.proofs.SpotLemmas.{value-spot}
use Rattle.dom_tree.proofs.at.At.label.Goals as goal

pub returns : goal.returns
returns g c = value-spot c.self.invariant c.self.view_is (λ (x : Node g.row.X.Denot). x.label) c.value-item.result.now _ c.item.view_is c.value-item.ensures
