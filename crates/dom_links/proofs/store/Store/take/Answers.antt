use Rattle.std.proofs.Common.{◌∙◌, None, refl, sym, arith}
use Rattle.dom_links.specs.Placed.{slot_of}
use Rattle.std.proofs.lemmas.List.{length-set, get_or-set_other}
use Rattle.dom_links.proofs.{ArenaAgainLemmas.free_read, LinkUnlinkLemmas.lies_from, NodeReadLemmas.value_read, FillSlotLemmas.take_room, FillSlotLemmas.take_ends, PlacedLemmas.arena_is, PlacedLemmas.within_table, PlacedLemmas.some_at, PlacedLemmas.placed_lies, PlacedLemmas.stays}
use Rattle.dom_links.proofs.store.Store.take.Goals as goal

pub link_at-requires : goal.link_at-requires
link_at-requires g c = within_table c.self.invariant.stands c.self.view_is c.number-index.ensures c.requires.held

pub unwrap-ptr-requires : goal.unwrap-ptr-requires
unwrap-ptr-requires g c = rw (c.ptr.ensures, c.link_at.ensures) (some_at c.self.invariant.stands c.self.view_is c.number-index.ensures ∙ c.requires.held)

pub push_reserved-requires : goal.push_reserved-requires
push_reserved-requires g c =
    let v = c.args.self.now in
    let lies = lies_from _ _ v.arena c.args.slot c.unwrap-ptr.result c.take-node.result.0 c.self.invariant.stands (arena_is c.self.invariant.stands c.self.view_is) c.number-index.ensures c.requires.held (sym c.link_at.ensures ∙ (sym c.ptr.ensures ∙ c.unwrap-ptr.ensures)) c.take-node.ensures.node in
    omega (arith, take_room _ _ v.arena c.args.slot c.unwrap-ptr.result c.take-node.result.0 c.self.inside.free.items lies (free_read _ _ c.self.inside.free.items (arena_is c.self.invariant.stands c.self.view_is)) c.requires.no_parent c.requires.no_child, c.self.invariant.room, c.self.inside.free.ok.0)

pub invariant_of-self : goal.invariant_of-self
invariant_of-self g c =
    let v = c.args.self.now in
    let lies = lies_from _ _ v.arena c.args.slot c.unwrap-ptr.result c.take-node.result.0 c.self.invariant.stands (arena_is c.self.invariant.stands c.self.view_is) c.number-index.ensures c.requires.held (sym c.link_at.ensures ∙ (sym c.ptr.ensures ∙ c.unwrap-ptr.ensures)) c.take-node.ensures.node in
    rw c.none.ensures (record {
      stands = (take_ends _ _ v.arena c.unwrap-ptr.result c.take-node.result.0 c.self.inside.free.items c.take-node.new.self.cells c.push_reserved.new.self.items c.number-index.ensures lies (free_read _ _ c.self.inside.free.items (arena_is c.self.invariant.stands c.self.view_is)) c.requires.no_parent c.requires.no_child c.take-node.ensures.cells c.push_reserved.ensures.items).stands;
      room = rw (length-set, c.push_reserved.ensures.capacity) c.self.invariant.room;
      few = rw length-set c.self.invariant.few;
    })

pub returns-clause-taken : goal.returns-clause-taken
returns-clause-taken g c =
    let v = c.args.self.now in
    let lies = lies_from _ _ v.arena c.args.slot c.unwrap-ptr.result c.take-node.result.0 c.self.invariant.stands (arena_is c.self.invariant.stands c.self.view_is) c.number-index.ensures c.requires.held (sym c.link_at.ensures ∙ (sym c.ptr.ensures ∙ c.unwrap-ptr.ensures)) c.take-node.ensures.node in
    rw c.none.ensures (take_ends _ _ v.arena c.unwrap-ptr.result c.take-node.result.0 c.self.inside.free.items c.take-node.new.self.cells c.push_reserved.new.self.items c.number-index.ensures lies (free_read _ _ c.self.inside.free.items (arena_is c.self.invariant.stands c.self.view_is)) c.requires.no_parent c.requires.no_child c.take-node.ensures.cells c.push_reserved.ensures.items).view

pub returns-clause-value : goal.returns-clause-value
returns-clause-value g c =
    let v = c.args.self.now in
    let lies = lies_from _ _ v.arena c.args.slot c.unwrap-ptr.result c.take-node.result.0 c.self.invariant.stands (arena_is c.self.invariant.stands c.self.view_is) c.number-index.ensures c.requires.held (sym c.link_at.ensures ∙ (sym c.ptr.ensures ∙ c.unwrap-ptr.ensures)) c.take-node.ensures.node in
    rw c.value_of.ensures (value_read lies.reads)

pub returns-clause-kept : goal.returns-clause-kept
returns-clause-kept g c = λ q placed other.
    let v = c.args.self.now in
    let lies = lies_from _ _ v.arena c.args.slot c.unwrap-ptr.result c.take-node.result.0 c.self.invariant.stands (arena_is c.self.invariant.stands c.self.view_is) c.number-index.ensures c.requires.held (sym c.link_at.ensures ∙ (sym c.ptr.ensures ∙ c.unwrap-ptr.ensures)) c.take-node.ensures.node in
    rw c.none.ensures
    (stays (take_ends _ _ v.arena c.unwrap-ptr.result c.take-node.result.0 c.self.inside.free.items c.take-node.new.self.cells c.push_reserved.new.self.items c.number-index.ensures lies (free_read _ _ c.self.inside.free.items (arena_is c.self.invariant.stands c.self.view_is)) c.requires.no_parent c.requires.no_child c.take-node.ensures.cells c.push_reserved.ensures.items).stands refl
    (get_or-set_other c.self.inside.table.items c.number-index.result (slot_of v q) None None (λ e. other (e ∙ c.number-index.ensures)) ∙ placed_lies c.self.invariant.stands c.self.view_is placed refl))
