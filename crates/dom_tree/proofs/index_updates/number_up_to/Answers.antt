-- What is written is right, and what stands behind is unknown.
use Rattle.std.proofs.Common.{◌≡◌, ◌+◌, ◌-◌, min, length, slice_get, Some, false, option_map, sym, ap, ◌∙◌, subst, arith}
use Rattle.dom_model.specs.Definitions.{place_in, entry_at, children_in, next_in}
use Rattle.dom_model.proofs.PlainLists.Places.{place-there}
use Rattle.dom_links.specs.Placed.{Placed, index_of, slot_of, slots_of}
use Rattle.dom_tree.specs.{Places.Leads, Slots.Kept, Slots.assured, CachedIndices.cached_index, CachedIndices.IsWritten}
use Rattle.dom_tree.proofs.{WrittenIndicesLemmas.children-same, WrittenIndicesLemmas.held-same, WrittenIndicesLemmas.listed_under, WrittenIndicesLemmas.next-ahead, WrittenIndicesLemmas.numbered, PlaceWalkLemmas.led, PlaceTableLemmas.placed-still}
use Rattle.dom_tree.proofs.index_updates.number_up_to.Goals as goal

pub overflow_cast-index : goal.overflow_cast-index
overflow_cast-index g c =
    let links = c.args.links.now in
    let p = slot_of links c.args.parent in
    let child = slot_of links c.args.child in
    let list = children_in (entry_at links.arena p) in
    omega (arith, c.requires.index, place-there child list (listed_under c.requires.sound p child c.requires.child), c.count-count.ensures, c.count-count.type_inv)

pub overflow_add-end : goal.overflow_add-end
overflow_add-end g c =
    let links = c.args.links.now in
    let p = slot_of links c.args.parent in
    let child = slot_of links c.args.child in
    let list = children_in (entry_at links.arena p) in
    omega (arith, c.requires.index, place-there child list (listed_under c.requires.sound p child c.requires.child), c.count-count.ensures, c.count-count.type_inv)

pub child_ahead-first-requires-clause-within : goal.child_ahead-first-requires-clause-within
child_ahead-first-requires-clause-within g c = omega (arith, c.requires.index)

pub write_indices-requires-clause-first : goal.write_indices-requires-clause-first
write_indices-requires-clause-first g c =
    let links = c.args.links.now in
    let p = slot_of links c.args.parent in
    let child = slot_of links c.args.child in
    let list = children_in (entry_at links.arena p) in
    let at : place_in child list - (c.args.index - c.min-from.result) ≡ c.min-from.result = omega (arith, c.requires.index, c.min-from.ensures) in
    led (sym c.to.ensures) (subst (Leads links (Some c.child_ahead-first.result)) (ap (slice_get list) at) c.child_ahead-first.ensures)

pub write_indices-requires-clause-ordered : goal.write_indices-requires-clause-ordered
write_indices-requires-clause-ordered g c = omega (arith, c.min-from.ensures)

pub write_indices-requires-clause-within : goal.write_indices-requires-clause-within
write_indices-requires-clause-within g c =
    let links = c.args.links.now in
    let p = slot_of links c.args.parent in
    let child = slot_of links c.args.child in
    let list = children_in (entry_at links.arena p) in
    omega (arith, c.requires.index, place-there child list (listed_under c.requires.sound p child c.requires.child))

pub next-next-requires : goal.next-next-requires
next-next-requires g c =
    let mid = c.write_indices.new.links in
    placed-still mid c.write_indices.ensures.places c.args.child c.requires.child_placed
    (held-same mid.arena c.args.links.now.arena c.write_indices.ensures.written.nodes (slot_of c.args.links.now c.args.child) c.requires.child_placed.held)

pub write_indices-requires-2-clause-placed : goal.write_indices-requires-2-clause-placed
write_indices-requires-2-clause-placed g c =
    let mid = c.write_indices.new.links in
    placed-still mid c.write_indices.ensures.places c.args.parent c.requires.parent_placed
    (held-same mid.arena c.args.links.now.arena c.write_indices.ensures.written.nodes (slot_of c.args.links.now c.args.parent) c.requires.parent_placed.held)

pub write_indices-requires-2-clause-first : goal.write_indices-requires-2-clause-first
write_indices-requires-2-clause-first g c =
    let links = c.args.links.now in
    let p = slot_of links c.args.parent in
    let child = slot_of links c.args.child in
    let mid = c.write_indices.new.links in
    let places = c.write_indices.ensures.places in
    let next = subst (λ ps. option_map (index_of ps) c.next-next.result ≡ next_in (entry_at mid.arena) (index_of ps c.args.child)) places c.next-next.ensures.slot in
    let there = next-ahead c.requires.sound p c.requires.counted c.requires.parent_placed.held child c.min-from.result c.args.index c.count-count.result c.max-until.result c.requires.child c.requires.index
    (c.min-from.ensures ∙ ap (min c.args.index) c.sure_of.ensures) c.count-count.ensures (omega (arith, c.count-count.type_inv)) c.write_indices.ensures.written (slots_of links c.next-next.result) next in
    record {
      slot = subst (λ ps. option_map (index_of ps) c.next-next.result ≡ slice_get (children_in (entry_at mid.arena (index_of ps c.args.parent))) (c.args.index + 1)) (sym places) there;
      placed = c.next-next.ensures.placed;
    }

pub write_indices-requires-2-clause-ordered : goal.write_indices-requires-2-clause-ordered
write_indices-requires-2-clause-ordered g c = omega (arith, c.max-until.ensures)

pub write_indices-requires-2-clause-within : goal.write_indices-requires-2-clause-within
write_indices-requires-2-clause-within g c =
    let links = c.args.links.now in
    let p = slot_of links c.args.parent in
    let child = slot_of links c.args.child in
    let mid = c.write_indices.new.links in
    let list = children_in (entry_at links.arena p) in
    let same = ap length (children-same mid.arena links.arena c.write_indices.ensures.written.nodes p) in
    let at = ap (λ ps. length (children_in (entry_at mid.arena (index_of ps c.args.parent)))) c.write_indices.ensures.places in
    omega (arith, c.requires.index, place-there child list (listed_under c.requires.sound p child c.requires.child), c.count-count.ensures, c.min.ensures, c.max-until.ensures, same, at)

pub set_sure-requires : goal.set_sure-requires
set_sure-requires g c =
    let last = c.write_indices-2.new.links in
    let mid = c.write_indices.new.links in
    let links = c.args.links.now in
    let p = slot_of links c.args.parent in
    placed-still last (c.write_indices-2.ensures.places ∙ c.write_indices.ensures.places) c.args.parent c.requires.parent_placed
    (held-same last.arena links.arena (c.write_indices-2.ensures.written.nodes ∙ c.write_indices.ensures.written.nodes) p c.requires.parent_placed.held)

pub returns : goal.returns
returns g c =
    let links = c.args.links.now in
    let p = slot_of links c.args.parent in
    let child = slot_of links c.args.child in
    let mid = c.write_indices.new.links in
    let last = c.write_indices-2.new.links in
    let places = c.write_indices-2.ensures.places ∙ c.write_indices.ensures.places in
    let behind = subst (λ ps. IsWritten mid.arena last.arena (index_of ps c.args.parent) (c.args.index + 1) c.max-until.result (cached_index false)) c.write_indices.ensures.places c.write_indices-2.ensures.written in
    let arena = ap (λ (q : Placed (Kept g.row.X.Denot)). q.arena) c.set_sure.ensures ∙ ap (λ ps. assured last.arena (index_of ps c.args.parent) (c.args.index + 1) (c.args.index + 1)) places in
    record {
      numbered = numbered c.requires.sound p c.requires.counted c.requires.parent_placed.held child c.min-from.result c.args.index c.count-count.result c.max-until.result c.requires.child c.requires.index
          (c.min-from.ensures ∙ ap (min c.args.index) c.sure_of.ensures) c.count-count.ensures (omega (arith, c.count-count.type_inv)) c.write_indices.ensures.written
          (omega (arith, c.max-until.ensures, c.min.ensures, c.reach_of-reach.ensures)) behind c.set_sure.new.links.arena arena;
      places = ap (λ (q : Placed (Kept g.row.X.Denot)). q.places) c.set_sure.ensures ∙ places;
    }
