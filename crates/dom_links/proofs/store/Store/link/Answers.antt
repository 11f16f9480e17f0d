use Rattle.std.proofs.Common.{◌≡◌, Some, refl, sym, ◌∙◌, arith}
use Rattle.dom_model.specs.Definitions.{entry_at, parent_in}
use Rattle.dom_links.specs.{Placed.slot_of, Placed.slots_of, LinkSteps.with_next}
use Rattle.dom_links.proofs.{ArenaAgainLemmas.free_read, LinkUnlinkLemmas.children_fewer, LinkUnlinkLemmas.new_link, LinkUnlinkLemmas.new_found, LinkUnlinkLemmas.link_found, LinkUnlinkLemmas.kept, LinkUnlinkLemmas.link_closes, PlacedLemmas.arena_is, PlacedLemmas.sits, PlacedLemmas.placed_node, PlacedLemmas.placed_lies, PlacedLemmas.stays, PlacedLemmas.links_lie, PlacedLemmas.places_is, PlacedLemmas.slots_under}
use Rattle.dom_links.proofs.store.Store.link.Goals as goal

pub link_before-prev-requires : goal.link_before-prev-requires
link_before-prev-requires g c =
    link_found c.self.inside.pool.cells c.args.before c.node-top.result.ptr (λ q e. placed_node c.self.invariant.stands c.self.view_is (c.requires.before_placed q e) refl) (placed_node c.self.invariant.stands c.self.view_is c.requires.parent_placed c.node-top.ensures)

pub overflow_add-count : goal.overflow_add-count
overflow_add-count g c =
    let v = c.args.self.now in
    let top = sits c.self.invariant.stands c.self.view_is c.requires.parent_placed c.node-top.ensures c.get.ensures in
    omega (arith, children_fewer _ _ v.arena (slot_of v c.args.parent) (slot_of v c.args.child) c.node-top.result.ptr c.get.result.now top c.requires.child_placed.held c.requires.no_parent, c.self.invariant.few)

pub lead_on-requires : goal.lead_on-requires
lead_on-requires g c =
    let v = c.args.self.now in
    let top = sits c.self.invariant.stands c.self.view_is c.requires.parent_placed c.node-top.ensures c.get.ensures in
    let next_is = links_lie c.self.invariant.stands c.self.view_is c.args.before c.requires.before_placed in
    let under = slots_under v (λ m. parent_in (entry_at v.arena m) ≡ Some (slot_of v c.args.parent)) c.args.before c.requires.before_under in
    new_found _ _ v.arena (slot_of v c.args.parent) c.node-top.result.ptr c.get.result.now (slots_of v c.args.before) c.link_before-prev.result top
    (new_link _ _ v.arena (slot_of v c.args.parent) c.node-top.result.ptr c.get.result.now (slots_of v c.args.before) c.args.before c.link_before-prev.result top under next_is c.link_before-prev.ensures)

pub lead_back-requires : goal.lead_back-requires
lead_back-requires g c =
    kept (with_next c.node-top.result.ptr c.link_before-prev.result c.to-link.result) c.self.inside.pool.cells c.lead_on.new.pool.cells c.lead_on.ensures.nodes _
    (link_found c.self.inside.pool.cells c.args.before c.node-top.result.ptr (λ q e. placed_node c.self.invariant.stands c.self.view_is (c.requires.before_placed q e) refl) (placed_node c.self.invariant.stands c.self.view_is c.requires.parent_placed c.node-top.ensures))

pub invariant_of-self : goal.invariant_of-self
invariant_of-self g c =
    let v = c.args.self.now in
    let top = sits c.self.invariant.stands c.self.view_is c.requires.parent_placed c.node-top.ensures c.get.ensures in
    let next_is = links_lie c.self.invariant.stands c.self.view_is c.args.before c.requires.before_placed in
    let under = slots_under v (λ m. parent_in (entry_at v.arena m) ≡ Some (slot_of v c.args.parent)) c.args.before c.requires.before_under in
    let prev_is = new_link _ _ v.arena (slot_of v c.args.parent) c.node-top.result.ptr c.get.result.now (slots_of v c.args.before) c.args.before c.link_before-prev.result top under next_is c.link_before-prev.ensures in
    let at_c = placed_lies c.self.invariant.stands c.self.view_is c.requires.child_placed c.node.ensures in
    let above_is = c.to.ensures ∙ sym (placed_lies c.self.invariant.stands c.self.view_is c.requires.parent_placed refl) in
    let below_is = c.to-link.ensures ∙ sym (placed_lies c.self.invariant.stands c.self.view_is c.requires.child_placed refl) in
    let closed = link_closes _ _ v.arena c.lead_on.new.pool.cells c.lead_back.new.pool.cells c.recount.new.pool.cells c.write_links.new.pool.cells c.self.inside.free.items (free_read _ _ c.self.inside.free.items (arena_is c.self.invariant.stands c.self.view_is))
    (slot_of v c.args.parent) (slot_of v c.args.child) (slots_of v c.args.before) c.node-top.result.ptr c.node.result.ptr c.get.result.now c.to.result c.to-link.result c.link_before-prev.result c.args.before _ top c.requires.child_placed.held at_c c.requires.no_parent under above_is below_is prev_is next_is refl
    (record { looks = c.lead_on.ensures.nodes; many = c.lead_on.ensures.many }) (record { looks = c.lead_back.ensures.nodes; many = c.lead_back.ensures.many })
    (record { looks = c.recount.ensures.nodes; many = c.recount.ensures.many }) (record { looks = c.write_links.ensures.nodes; many = c.write_links.ensures.many }) in
    record { stands = closed.stands; room = c.self.invariant.room; few = c.self.invariant.few }

pub returns-clause-linked : goal.returns-clause-linked
returns-clause-linked g c =
    let v = c.args.self.now in
    let top = sits c.self.invariant.stands c.self.view_is c.requires.parent_placed c.node-top.ensures c.get.ensures in
    let next_is = links_lie c.self.invariant.stands c.self.view_is c.args.before c.requires.before_placed in
    let under = slots_under v (λ m. parent_in (entry_at v.arena m) ≡ Some (slot_of v c.args.parent)) c.args.before c.requires.before_under in
    let prev_is = new_link _ _ v.arena (slot_of v c.args.parent) c.node-top.result.ptr c.get.result.now (slots_of v c.args.before) c.args.before c.link_before-prev.result top under next_is c.link_before-prev.ensures in
    let at_c = placed_lies c.self.invariant.stands c.self.view_is c.requires.child_placed c.node.ensures in
    let above_is = c.to.ensures ∙ sym (placed_lies c.self.invariant.stands c.self.view_is c.requires.parent_placed refl) in
    let below_is = c.to-link.ensures ∙ sym (placed_lies c.self.invariant.stands c.self.view_is c.requires.child_placed refl) in
    let closed = link_closes _ _ v.arena c.lead_on.new.pool.cells c.lead_back.new.pool.cells c.recount.new.pool.cells c.write_links.new.pool.cells c.self.inside.free.items (free_read _ _ c.self.inside.free.items (arena_is c.self.invariant.stands c.self.view_is))
    (slot_of v c.args.parent) (slot_of v c.args.child) (slots_of v c.args.before) c.node-top.result.ptr c.node.result.ptr c.get.result.now c.to.result c.to-link.result c.link_before-prev.result c.args.before _ top c.requires.child_placed.held at_c c.requires.no_parent under above_is below_is prev_is next_is refl
    (record { looks = c.lead_on.ensures.nodes; many = c.lead_on.ensures.many }) (record { looks = c.lead_back.ensures.nodes; many = c.lead_back.ensures.many })
    (record { looks = c.recount.ensures.nodes; many = c.recount.ensures.many }) (record { looks = c.write_links.ensures.nodes; many = c.write_links.ensures.many }) in
    closed.view

pub returns-clause-places : goal.returns-clause-places
returns-clause-places g c = places_is c.self.invariant.stands c.self.view_is

pub returns-clause-kept : goal.returns-clause-kept
returns-clause-kept g c = λ q placed.
    let v = c.args.self.now in
    let top = sits c.self.invariant.stands c.self.view_is c.requires.parent_placed c.node-top.ensures c.get.ensures in
    let next_is = links_lie c.self.invariant.stands c.self.view_is c.args.before c.requires.before_placed in
    let under = slots_under v (λ m. parent_in (entry_at v.arena m) ≡ Some (slot_of v c.args.parent)) c.args.before c.requires.before_under in
    let prev_is = new_link _ _ v.arena (slot_of v c.args.parent) c.node-top.result.ptr c.get.result.now (slots_of v c.args.before) c.args.before c.link_before-prev.result top under next_is c.link_before-prev.ensures in
    let at_c = placed_lies c.self.invariant.stands c.self.view_is c.requires.child_placed c.node.ensures in
    let above_is = c.to.ensures ∙ sym (placed_lies c.self.invariant.stands c.self.view_is c.requires.parent_placed refl) in
    let below_is = c.to-link.ensures ∙ sym (placed_lies c.self.invariant.stands c.self.view_is c.requires.child_placed refl) in
    let closed = link_closes _ _ v.arena c.lead_on.new.pool.cells c.lead_back.new.pool.cells c.recount.new.pool.cells c.write_links.new.pool.cells c.self.inside.free.items (free_read _ _ c.self.inside.free.items (arena_is c.self.invariant.stands c.self.view_is))
    (slot_of v c.args.parent) (slot_of v c.args.child) (slots_of v c.args.before) c.node-top.result.ptr c.node.result.ptr c.get.result.now c.to.result c.to-link.result c.link_before-prev.result c.args.before _ top c.requires.child_placed.held at_c c.requires.no_parent under above_is below_is prev_is next_is refl
    (record { looks = c.lead_on.ensures.nodes; many = c.lead_on.ensures.many }) (record { looks = c.lead_back.ensures.nodes; many = c.lead_back.ensures.many })
    (record { looks = c.recount.ensures.nodes; many = c.recount.ensures.many }) (record { looks = c.write_links.ensures.nodes; many = c.write_links.ensures.many }) in
    stays closed.stands refl (placed_lies c.self.invariant.stands c.self.view_is placed refl)
