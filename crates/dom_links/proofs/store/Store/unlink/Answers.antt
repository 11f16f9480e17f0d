use Rattle.std.proofs.Common.{refl, sym, ◌∙◌, subst}
use Rattle.dom_links.specs.{Placed.slot_of, LinkSteps.with_next, LinkSteps.with_links}
use Rattle.dom_links.proofs.{NodeReadLemmas.previous_found, NodeReadLemmas.next_found, ArenaAgainLemmas.free_read, LinkUnlinkLemmas.child_from, LinkUnlinkLemmas.has_parent, LinkUnlinkLemmas.counted, LinkUnlinkLemmas.link_found, LinkUnlinkLemmas.kept, LinkUnlinkLemmas.Writes, LinkUnlinkLemmas.unlink_closes, PlacedLemmas.arena_is, PlacedLemmas.places_is, PlacedLemmas.placed_node, PlacedLemmas.placed_lies, PlacedLemmas.stays}
use Rattle.dom_links.proofs.store.Store.unlink.Goals as goal

pub get-node-requires : goal.get-node-requires
get-node-requires g c = placed_node c.self.invariant.stands c.self.view_is c.requires.placed c.node-ptr.ensures

pub unwrap-top-requires : goal.unwrap-top-requires
unwrap-top-requires g c =
    let v = c.args.self.now in
    rw c.ptr.ensures (has_parent _ _ v.arena (slot_of v c.args.child) c.node-ptr.result.ptr c.get-node.result.now (child_from _ _ v.arena (slot_of v c.args.child) c.node-ptr.result.ptr c.get-node.result.now c.self.invariant.stands (arena_is c.self.invariant.stands c.self.view_is) refl c.requires.has_parent (placed_lies c.self.invariant.stands c.self.view_is c.requires.placed c.node-ptr.ensures) c.get-node.ensures))

pub overflow_sub-count : goal.overflow_sub-count
overflow_sub-count g c =
    let v = c.args.self.now in
    counted _ _ v.arena (slot_of v c.args.child) c.node-ptr.result.ptr c.unwrap-top.result c.get-node.result.now c.get.result.now (child_from _ _ v.arena (slot_of v c.args.child) c.node-ptr.result.ptr c.get-node.result.now c.self.invariant.stands (arena_is c.self.invariant.stands c.self.view_is) refl c.requires.has_parent (placed_lies c.self.invariant.stands c.self.view_is c.requires.placed c.node-ptr.ensures) c.get-node.ensures) (sym c.ptr.ensures ∙ c.unwrap-top.ensures) c.get.ensures

pub lead_on-requires : goal.lead_on-requires
lead_on-requires g c =
    let v = c.args.self.now in
    let k = child_from _ _ v.arena (slot_of v c.args.child) c.node-ptr.result.ptr c.get-node.result.now c.self.invariant.stands (arena_is c.self.invariant.stands c.self.view_is) refl c.requires.has_parent (placed_lies c.self.invariant.stands c.self.view_is c.requires.placed c.node-ptr.ensures) c.get-node.ensures in
    link_found c.self.inside.pool.cells c.get-node.result.now.prev c.unwrap-top.result (previous_found k.child.reads) (rw c.get.ensures)

pub lead_back-requires : goal.lead_back-requires
lead_back-requires g c =
    let v = c.args.self.now in
    let k = child_from _ _ v.arena (slot_of v c.args.child) c.node-ptr.result.ptr c.get-node.result.now c.self.invariant.stands (arena_is c.self.invariant.stands c.self.view_is) refl c.requires.has_parent (placed_lies c.self.invariant.stands c.self.view_is c.requires.placed c.node-ptr.ensures) c.get-node.ensures in
    kept (with_next c.unwrap-top.result c.get-node.result.now.prev c.get-node.result.now.next) c.self.inside.pool.cells c.lead_on.new.pool.cells c.lead_on.ensures.nodes _
    (link_found c.self.inside.pool.cells c.get-node.result.now.next c.unwrap-top.result (next_found k.child.reads) (rw c.get.ensures))

pub invariant_of-self : goal.invariant_of-self
invariant_of-self g c =
    let v = c.args.self.now in
    let k = child_from _ _ v.arena (slot_of v c.args.child) c.node-ptr.result.ptr c.get-node.result.now c.self.invariant.stands (arena_is c.self.invariant.stands c.self.view_is) refl c.requires.has_parent (placed_lies c.self.invariant.stands c.self.view_is c.requires.placed c.node-ptr.ensures) c.get-node.ensures in
    let closed = unlink_closes _ _ v.arena c.lead_on.new.pool.cells c.lead_back.new.pool.cells c.recount.new.pool.cells c.write_links.new.pool.cells c.self.inside.free.items (free_read _ _ c.self.inside.free.items (arena_is c.self.invariant.stands c.self.view_is))
    (slot_of v c.args.child) c.node-ptr.result.ptr c.unwrap-top.result c.get-node.result.now c.get.result.now _ k (sym c.ptr.ensures ∙ c.unwrap-top.ensures) c.get.ensures refl
    (record { looks = c.lead_on.ensures.nodes; many = c.lead_on.ensures.many }) (record { looks = c.lead_back.ensures.nodes; many = c.lead_back.ensures.many })
    (record { looks = c.recount.ensures.nodes; many = c.recount.ensures.many }) (subst (λ o. Writes (with_links c.node-ptr.result.ptr o o o) c.recount.new.pool.cells c.write_links.new.pool.cells) c.none-none.ensures (record { looks = c.write_links.ensures.nodes; many = c.write_links.ensures.many })) in
    record { stands = closed.stands; room = c.self.invariant.room; few = c.self.invariant.few }

pub returns-clause-unlinked : goal.returns-clause-unlinked
returns-clause-unlinked g c =
    let v = c.args.self.now in
    let k = child_from _ _ v.arena (slot_of v c.args.child) c.node-ptr.result.ptr c.get-node.result.now c.self.invariant.stands (arena_is c.self.invariant.stands c.self.view_is) refl c.requires.has_parent (placed_lies c.self.invariant.stands c.self.view_is c.requires.placed c.node-ptr.ensures) c.get-node.ensures in
    let closed = unlink_closes _ _ v.arena c.lead_on.new.pool.cells c.lead_back.new.pool.cells c.recount.new.pool.cells c.write_links.new.pool.cells c.self.inside.free.items (free_read _ _ c.self.inside.free.items (arena_is c.self.invariant.stands c.self.view_is))
    (slot_of v c.args.child) c.node-ptr.result.ptr c.unwrap-top.result c.get-node.result.now c.get.result.now _ k (sym c.ptr.ensures ∙ c.unwrap-top.ensures) c.get.ensures refl
    (record { looks = c.lead_on.ensures.nodes; many = c.lead_on.ensures.many }) (record { looks = c.lead_back.ensures.nodes; many = c.lead_back.ensures.many })
    (record { looks = c.recount.ensures.nodes; many = c.recount.ensures.many }) (subst (λ o. Writes (with_links c.node-ptr.result.ptr o o o) c.recount.new.pool.cells c.write_links.new.pool.cells) c.none-none.ensures (record { looks = c.write_links.ensures.nodes; many = c.write_links.ensures.many })) in
    closed.view

pub returns-clause-places : goal.returns-clause-places
returns-clause-places g c = places_is c.self.invariant.stands c.self.view_is

pub returns-clause-kept : goal.returns-clause-kept
returns-clause-kept g c = λ q placed.
    let v = c.args.self.now in
    let k = child_from _ _ v.arena (slot_of v c.args.child) c.node-ptr.result.ptr c.get-node.result.now c.self.invariant.stands (arena_is c.self.invariant.stands c.self.view_is) refl c.requires.has_parent (placed_lies c.self.invariant.stands c.self.view_is c.requires.placed c.node-ptr.ensures) c.get-node.ensures in
    let closed = unlink_closes _ _ v.arena c.lead_on.new.pool.cells c.lead_back.new.pool.cells c.recount.new.pool.cells c.write_links.new.pool.cells c.self.inside.free.items (free_read _ _ c.self.inside.free.items (arena_is c.self.invariant.stands c.self.view_is))
    (slot_of v c.args.child) c.node-ptr.result.ptr c.unwrap-top.result c.get-node.result.now c.get.result.now _ k (sym c.ptr.ensures ∙ c.unwrap-top.ensures) c.get.ensures refl
    (record { looks = c.lead_on.ensures.nodes; many = c.lead_on.ensures.many }) (record { looks = c.lead_back.ensures.nodes; many = c.lead_back.ensures.many })
    (record { looks = c.recount.ensures.nodes; many = c.recount.ensures.many }) (subst (λ o. Writes (with_links c.node-ptr.result.ptr o o o) c.recount.new.pool.cells c.write_links.new.pool.cells) c.none-none.ensures (record { looks = c.write_links.ensures.nodes; many = c.write_links.ensures.many })) in
    stays closed.stands refl (placed_lies c.self.invariant.stands c.self.view_is placed refl)
