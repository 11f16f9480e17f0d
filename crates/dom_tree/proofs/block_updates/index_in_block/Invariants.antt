-- As many places ahead as steps were made, in the same block.
use Rattle.std.proofs.Common.{◌≡◌}
use Rattle.dom_model.specs.Definitions.{entry_at}
use Rattle.dom_links.specs.Placed.{slot_of, IsPlaced}
use Rattle.dom_tree.specs.Slots.{index_in}
use Rattle.dom_tree.proofs.WrittenIndicesLemmas.{IsAhead}
use Rattle.dom_tree.proofs.block_updates.index_in_block.Given as goal

abbrev pub invariant-loop-passed : goal.invariant-loop-passed
invariant-loop-passed g l = record {
  ahead : IsAhead l.fn.links.arena (slot_of l.fn.links l.fn.parent) (slot_of l.fn.links l.fn.child) (slot_of l.fn.links l.here) l.passed 512;
  placed : IsPlaced l.fn.links l.here;
  block : index_in (entry_at l.fn.links.arena (slot_of l.fn.links l.here)) ≡ index_in (entry_at l.fn.links.arena (slot_of l.fn.links l.fn.child));
}
