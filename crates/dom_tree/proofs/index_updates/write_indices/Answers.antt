-- Each child gets its index, and the next one comes.
use Rattle.std.proofs.Common.{IsSome, refl, sym, ◌∙◌, subst}
use Rattle.dom_links.specs.Placed.{slot_of, slots_of}
use Rattle.dom_tree.specs.CachedIndices.{cached_index}
use Rattle.dom_tree.proofs.{WrittenIndicesLemmas.writing-start, WrittenIndicesLemmas.writing-there, WrittenIndicesLemmas.writing-end, WriteIndicesLemmas.written-places, WriteIndicesLemmas.written-placed, WriteIndicesLemmas.written-next, PlaceTableLemmas.some-mapped}
use Rattle.dom_tree.proofs.index_updates.write_indices.Goals as goal

pub loop-place-init : goal.loop-place-init
loop-place-init g c = record {
  writing = writing-start c.requires.sound (slot_of c.args.links.now c.args.parent) c.args.from c.args.until (cached_index c.args.known) (slots_of c.args.links.now c.args.first) c.requires.first.slot c.requires.ordered;
  places = refl;
  placed = c.requires.first.placed;
}

pub unwrap-child-requires : goal.unwrap-child-requires
unwrap-child-requires g c =
    subst IsSome (sym c.get.ensures) (some-mapped (slot_of c.args.links.now) c.loop-place.next (writing-there c.requires.sound (slot_of c.args.links.now c.args.parent) c.loop-place.invariant.writing c.loop-place-test.true c.requires.within))

pub set_index-requires : goal.set_index-requires
set_index-requires g c = c.loop-place.invariant.placed c.unwrap-child.result (sym c.get.ensures ∙ c.unwrap-child.ensures)

pub next-next-requires : goal.next-next-requires
next-next-requires g c = written-placed c.requires.sound c.args.parent c.loop-place.invariant.writing c.loop-place.invariant.places c.loop-place.invariant.placed c.unwrap-child.result (sym c.get.ensures ∙ c.unwrap-child.ensures) c.set_index.new.links c.told-index.result c.set_index.ensures

pub loop-place-preserved : goal.loop-place-preserved
loop-place-preserved g c = record {
  writing = written-next c.requires.sound c.args.parent c.loop-place.invariant.writing c.loop-place.invariant.places c.loop-place.invariant.placed c.unwrap-child.result (sym c.get.ensures ∙ c.unwrap-child.ensures) c.set_index.new.links c.told-index.result c.set_index.ensures c.loop-place-test.true c.told-index.ensures c.next-next.result c.next-next.ensures.slot;
  places = written-places c.requires.sound c.args.parent c.loop-place.invariant.writing c.loop-place.invariant.places c.loop-place.invariant.placed c.unwrap-child.result (sym c.get.ensures ∙ c.unwrap-child.ensures) c.set_index.new.links c.told-index.result c.set_index.ensures;
  placed = c.next-next.ensures.placed;
}

pub returns : goal.returns
returns g c = record {
  written = writing-end c.requires.sound (slot_of c.args.links.now c.args.parent) c.loop-place.invariant.writing c.loop-place-test.false;
  places = c.loop-place.invariant.places;
}
