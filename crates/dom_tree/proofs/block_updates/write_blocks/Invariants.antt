-- How far the children have been written.
use Rattle.std.proofs.Common.{◌≡◌}
use Rattle.std.specs.Option.{ForSome}
use Rattle.dom_links.specs.Placed.{slot_of, slots_of, IsPlaced}
use Rattle.dom_tree.specs.Blocks.{block_at}
use Rattle.dom_tree.proofs.WrittenIndicesLemmas.{IsWriting}
use Rattle.dom_tree.proofs.block_updates.write_blocks.Given as goal

abbrev pub invariant-loop-place : goal.invariant-loop-place
invariant-loop-place g l = record {
  writing : IsWriting l.fn.links.arena l.links.arena (slot_of l.fn.links l.fn.parent) 0 l.place l.fn.count block_at (slots_of l.fn.links l.next);
  places : l.links.places ≡ l.fn.links.places;
  placed : ForSome l.next (IsPlaced l.links);
  blocks : l.blocks ≡ l.fn.blocks;
}
