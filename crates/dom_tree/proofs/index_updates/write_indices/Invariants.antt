-- How far the children have been written.
use Rattle.std.proofs.Common.{◌≡◌}
use Rattle.std.specs.Option.{ForSome}
use Rattle.dom_links.specs.Placed.{slot_of, slots_of, IsPlaced}
use Rattle.dom_tree.specs.CachedIndices.{cached_index}
use Rattle.dom_tree.proofs.WrittenIndicesLemmas.{IsWriting}
use Rattle.dom_tree.proofs.index_updates.write_indices.Given as goal

abbrev pub invariant-loop-place : goal.invariant-loop-place
invariant-loop-place g l = record {
  writing : IsWriting l.fn.links.arena l.links.arena (slot_of l.fn.links l.fn.parent) l.fn.from l.place l.fn.until (cached_index l.fn.known) (slots_of l.fn.links l.next);
  places : l.links.places ≡ l.fn.links.places;
  placed : ForSome l.next (IsPlaced l.links);
}
