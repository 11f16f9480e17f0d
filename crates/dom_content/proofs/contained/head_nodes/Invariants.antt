-- What stands ahead of the part of the path that was passed is in the list.
use Rattle.dom_model.specs.Definitions.{head_nodes}
use Rattle.std.proofs.Common.{◌≡◌, ◌-◌, ◌++◌, drop}
use Rattle.dom_edit.specs.Whole.{unwatched}
use Rattle.dom_content.proofs.contained.head_nodes.Given as goal

abbrev pub invariant-loop-k : goal.invariant-loop-k
invariant-loop-k l = l.list.items ++ head_nodes (unwatched l.world) l.offset (drop (l.k - 1) l.path) ≡ head_nodes (unwatched l.world) l.offset l.path
