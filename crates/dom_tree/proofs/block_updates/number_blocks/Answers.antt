-- All children are written, and the parent's reach.
use Rattle.std.proofs.Common.{ap, ◌∙◌}
use Rattle.dom_links.specs.Placed.{Placed, index_of, slot_of}
use Rattle.dom_tree.specs.Slots.{Kept, unknown, assured}
use Rattle.dom_tree.proofs.{BlocksKept.blocks-written, WrittenIndicesLemmas.held-same, PlaceTableLemmas.placed-still}
use Rattle.dom_tree.proofs.block_updates.number_blocks.Goals as goal

pub set_sure-requires : goal.set_sure-requires
set_sure-requires g c =
    let mid = c.write_blocks.new.links in
    placed-still mid c.write_blocks.ensures.written.places c.args.parent c.requires.placed
    (held-same mid.arena c.args.links.now.arena c.write_blocks.ensures.written.written.nodes (slot_of c.args.links.now c.args.parent) c.requires.placed.held)

pub returns-clause-written : goal.returns-clause-written
returns-clause-written g c =
    let mid = c.write_blocks.new.links in
    let places = c.write_blocks.ensures.written.places in
    let p = slot_of c.args.links.now c.args.parent in
    let arena = ap (λ (q : Placed (Kept g.row.X.Denot)). q.arena) c.set_sure.ensures ∙ ap (λ ps. assured mid.arena (index_of ps c.args.parent) 0 unknown) places in
    record {
      blocks = blocks-written c.requires.placed.held c.count-count.ensures c.write_blocks.ensures.written.written arena;
      places = ap (λ (q : Placed (Kept g.row.X.Denot)). q.places) c.set_sure.ensures ∙ places;
    }
