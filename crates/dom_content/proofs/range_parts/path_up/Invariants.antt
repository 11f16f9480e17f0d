-- The nodes that were passed are in the list.
use Rattle.std.proofs.Common.{◌≡◌, ◌++◌, length}
use Rattle.dom_model.specs.Definitions.{ancestors, up_to}
use Rattle.dom_content.proofs.PathLists.{way_up, IsHeldAt}
use Rattle.dom_content.proofs.range_parts.path_up.Given as goal

abbrev pub invariant-loop-here : goal.invariant-loop-here
invariant-loop-here l =
    record {
      same : l.path.items ++ up_to l.ancestor (way_up l.tree.forest l.here) ≡ up_to l.ancestor (ancestors l.fn.node l.tree.forest);
      held : IsHeldAt l.tree.forest l.here;
    }

abbrev pub decreases-loop-here : goal.decreases-loop-here
decreases-loop-here l = length (way_up l.tree.forest l.here)
