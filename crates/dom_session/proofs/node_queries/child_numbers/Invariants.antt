-- The numbers of the children that were passed are in the list, and the others are to come.
use Rattle.std.proofs.Common.{◌≡◌, ◌++◌}
use Rattle.dom_model.specs.Definitions.{children_of}
use Rattle.dom_session.proofs.node_queries.child_numbers.Given as goal

abbrev pub invariant-loop-child : goal.invariant-loop-child
invariant-loop-child l = l.numbers.items ++ l.child-iterator ≡ children_of l.tree.forest l.fn.parent
