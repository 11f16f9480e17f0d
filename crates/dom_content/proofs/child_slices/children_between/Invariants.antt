-- The children that were passed are in the list, and the others are to come.
use Rattle.std.proofs.Common.{◌≡◌, ◌++◌}
use Rattle.dom_model.specs.Definitions.{children_of}
use Rattle.dom_edit.specs.InsertionPoints.{from_optional, children_ahead}
use Rattle.dom_content.proofs.child_slices.children_between.Given as goal

abbrev pub invariant-loop-child : goal.invariant-loop-child
invariant-loop-child l =
    l.list.items ++ children_ahead l.until l.child-iterator ≡ children_ahead l.until (from_optional l.fn.from (children_of l.tree.forest l.fn.parent))
