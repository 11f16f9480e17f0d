-- From the first child on.
use Rattle.dom_model.specs.Definitions.{children_of}
use Rattle.dom_model.proofs.Forests.Indices.{child-once}
use Rattle.dom_edit.proofs.IsAmongLemmas.{IsAmong-head}
use Rattle.dom_content.proofs.child_slices.children_ahead.Goals as goal

pub children_between-requires-clause-child : goal.children_between-requires-clause-child
children_between-requires-clause-child c =
    let f = c.args.tree.now.forest in
    rw c.first-from.ensures (IsAmong-head (children_of f c.args.parent) (λ m. child-once f c.state_law.ensures.once m c.args.parent))
