-- What was written to the child leaves the places.
use Rattle.std.proofs.Common.{ap, ◌∙◌}
use Rattle.dom_model.specs.Definitions.{entry_at}
use Rattle.dom_links.specs.Placed.{Placed, slot_of, slots_of}
use Rattle.dom_tree.specs.{Places.with_arena, Slots.Kept, Slots.nodes_alone, Slots.indexed, Slots.assured, CachedIndices.sure_put}
use Rattle.dom_tree.proofs.{Nodes.indexed-nodes, WrittenIndicesLemmas.held-same, PlaceTableLemmas.placed-still}
use Rattle.dom_tree.proofs.index_updates.number_put.Goals as goal

pub set_sure-requires : goal.set_sure-requires
set_sure-requires g c =
    let links = c.args.links.now in
    let arena = ap (λ (q : Placed (Kept g.row.X.Denot)). q.arena) c.set_index.ensures in
    placed-still c.set_index.new.links (ap (λ (q : Placed (Kept g.row.X.Denot)). q.places) c.set_index.ensures) c.args.parent c.requires.parent_placed
    (held-same c.set_index.new.links.arena links.arena (ap nodes_alone arena ∙ indexed-nodes links.arena (slot_of links c.args.child) c.new_index-index.result) (slot_of links c.args.parent) c.requires.parent_placed.held)

pub returns-clause-numbered : goal.returns-clause-numbered
returns-clause-numbered g c =
    let links = c.args.links.now in
    let p = slot_of links c.args.parent in
    let child = slot_of links c.args.child in
    let b = slots_of links c.args.before in
    let sure = c.new_sure-sure.ensures ∙ ap (sure_put (entry_at links.arena) p b) c.new_index-index.ensures in
    c.set_sure.ensures
    ∙ ap (λ (t : Placed (Kept g.row.X.Denot)). with_arena (assured t.arena (slot_of t c.args.parent) c.new_sure-sure.result c.new_reach-reach.result) t) c.set_index.ensures
    ∙ (λ i. with_arena (assured (indexed links.arena child (c.new_index-index.ensures i)) p (sure i) (c.new_reach-reach.ensures.reach i)) links)
