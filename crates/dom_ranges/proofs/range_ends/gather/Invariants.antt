-- The ends that were asked have moved where they stood inside.
use Rattle.std.proofs.Common.{◌≡◌, ◌++◌, map, take, drop}
use Rattle.dom_model.specs.Definitions.{inclusive_descendants}
use Rattle.dom_ranges.specs.{Ends.moved_end, Tables.moved_in}
use Rattle.dom_ranges.proofs.range_ends.gather.Given as goal

abbrev pub invariant-loop-id : goal.invariant-loop-id
invariant-loop-id g l =
    l.ends ≡ record l.fn.ends { items = map (moved_end (moved_in (inclusive_descendants l.tree.forest l.top) l.to)) (take l.id l.fn.ends.items) ++ drop l.id l.fn.ends.items }
