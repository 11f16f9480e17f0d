-- What is counted, and those to come of the kind, are all of it.
use Rattle.std.proofs.Common.{◌≡◌, ◌+◌}
use Rattle.dom_model.specs.Definitions.{children_of, count_kind}
use Rattle.dom_edit.proofs.IsAmongLemmas.{AreAmong}
use Rattle.dom_edit.proofs.insertion_point.count_children.Given as goal

abbrev pub invariant-loop-child : goal.invariant-loop-child
invariant-loop-child l =
    let all = children_of l.tree.forest l.fn.parent in
    record {
      counted : l.count + count_kind l.kind l.tree.forest l.child-iterator ≡ count_kind l.kind l.tree.forest all;
      within : AreAmong l.child-iterator all;
    }
