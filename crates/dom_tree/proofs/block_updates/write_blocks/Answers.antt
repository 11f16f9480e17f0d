-- Each child gets its block, and the next one comes.
use Rattle.std.proofs.Common.{IsSome, refl, sym, ◌∙◌, subst, arith, ◌/◌}
use Rattle.dom_links.specs.Placed.{slot_of, slots_of}
use Rattle.dom_tree.specs.Blocks.{block_at}
use Rattle.dom_tree.proofs.{WrittenIndicesLemmas.held-same, WrittenIndicesLemmas.writing-start, WrittenIndicesLemmas.writing-there, WrittenIndicesLemmas.writing-end, WriteIndicesLemmas.written-places, WriteIndicesLemmas.written-placed, WriteIndicesLemmas.written-next, PlaceTableLemmas.some-mapped, PlaceTableLemmas.placed-still}
use Rattle.dom_tree.proofs.block_updates.write_blocks.Goals as goal

pub loop-place-init : goal.loop-place-init
loop-place-init g c = record {
  writing = writing-start c.requires.sound (slot_of c.args.links.now c.args.parent) 0 c.args.count block_at (slots_of c.args.links.now c.args.first) c.requires.first.slot (omega arith);
  places = refl;
  placed = c.requires.first.placed;
  blocks = refl;
}

pub unwrap-child-requires : goal.unwrap-child-requires
unwrap-child-requires g c =
    subst IsSome (sym c.get.ensures) (some-mapped (slot_of c.args.links.now) c.loop-place.next (writing-there c.requires.sound (slot_of c.args.links.now c.args.parent) c.loop-place.invariant.writing c.loop-place-test.true (omega (arith, c.requires.all))))

pub note_first-requires-clause-parent_placed : goal.note_first-requires-clause-parent_placed
note_first-requires-clause-parent_placed g c =
    placed-still c.loop-place.links c.loop-place.invariant.places c.args.parent c.requires.placed
    (held-same c.loop-place.links.arena c.args.links.now.arena c.loop-place.invariant.writing.so_far.nodes (slot_of c.args.links.now c.args.parent) c.requires.placed.held)

pub note_first-requires-clause-child_placed : goal.note_first-requires-clause-child_placed
note_first-requires-clause-child_placed g c = c.loop-place.invariant.placed c.unwrap-child.result (sym c.get.ensures ∙ c.unwrap-child.ensures)

pub set_index-requires : goal.set_index-requires
set_index-requires g c = c.loop-place.invariant.placed c.unwrap-child.result (sym c.get.ensures ∙ c.unwrap-child.ensures)

pub next-next-requires : goal.next-next-requires
next-next-requires g c = written-placed c.requires.sound c.args.parent c.loop-place.invariant.writing c.loop-place.invariant.places c.loop-place.invariant.placed c.unwrap-child.result (sym c.get.ensures ∙ c.unwrap-child.ensures) c.set_index.new.links (c.loop-place.place / 16) c.set_index.ensures

pub loop-place-preserved : goal.loop-place-preserved
loop-place-preserved g c = record {
  writing = written-next c.requires.sound c.args.parent c.loop-place.invariant.writing c.loop-place.invariant.places c.loop-place.invariant.placed c.unwrap-child.result (sym c.get.ensures ∙ c.unwrap-child.ensures) c.set_index.new.links (c.loop-place.place / 16) c.set_index.ensures c.loop-place-test.true refl c.next-next.result c.next-next.ensures.slot;
  places = written-places c.requires.sound c.args.parent c.loop-place.invariant.writing c.loop-place.invariant.places c.loop-place.invariant.placed c.unwrap-child.result (sym c.get.ensures ∙ c.unwrap-child.ensures) c.set_index.new.links (c.loop-place.place / 16) c.set_index.ensures;
  placed = c.next-next.ensures.placed;
  blocks = c.note_first.ensures ∙ c.loop-place.invariant.blocks;
}

pub returns-clause-written : goal.returns-clause-written
returns-clause-written g c = record {
  written = writing-end c.requires.sound (slot_of c.args.links.now c.args.parent) c.loop-place.invariant.writing c.loop-place-test.false;
  places = c.loop-place.invariant.places;
}
