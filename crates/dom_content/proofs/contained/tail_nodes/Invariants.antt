-- What stands behind the part of the path that was passed is in the list.
use Rattle.dom_model.specs.Definitions.{tail_nodes}
use Rattle.std.proofs.Common.{◌≡◌, ◌-◌, ◌<◌, ◌≤◌, drop, length}
use Rattle.dom_edit.specs.Whole.{unwatched}
use Rattle.dom_content.proofs.contained.tail_nodes.Given as goal

abbrev pub invariant-loop-left : goal.invariant-loop-left
invariant-loop-left l = record {
  some : 0 < l.left;
  within : l.left ≤ length l.path;
  listed : l.list.items ≡ tail_nodes (unwatched l.world) l.offset (drop (l.left - 1) l.path);
}

abbrev pub decreases-loop-left : goal.decreases-loop-left
decreases-loop-left l = l.left
