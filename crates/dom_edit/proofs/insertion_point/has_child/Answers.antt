use Rattle.std.proofs.Common.{sym}
use Rattle.dom_model.specs.Definitions.{children_of}
use Rattle.dom_edit.proofs.IsAmongLemmas.{has_kind-count}
use Rattle.dom_edit.proofs.insertion_point.has_child.Goals as goal

pub returns : goal.returns
returns c =
    let f = c.args.tree.now.forest in
    rw c.count_children.ensures (sym (has_kind-count c.args.kind f (children_of f c.args.parent)))
