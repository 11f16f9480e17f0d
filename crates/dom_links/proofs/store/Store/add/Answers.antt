use Rattle.std.proofs.Common.{◌∙◌, Some, refl, ap, arith, tests, rules}
use Rattle.dom_links.specs.Placed.{slot_of}
use Rattle.std.proofs.lemmas.List.{length-set}
use Rattle.dom_links.proofs.{ArenaAgainLemmas.free_read, FillSlotLemmas.given_slot, FillSlotLemmas.add_closes, PlacedLemmas.arena_is, PlacedLemmas.placed_lies, PlacedLemmas.stays}
use Rattle.dom_links.proofs.store.Store.add.Goals as goal

pub index_mut-requires : goal.index_mut-requires
index_mut-requires g c =
    let given = given_slot _ _ c.self.inside.free.items _ _ c.in-Some.index c.self.invariant.stands (arena_is c.self.invariant.stands c.self.view_is) (free_read _ _ c.self.inside.free.items (arena_is c.self.invariant.stands c.self.view_is)) c.in-Some.ensures.given in
    omega (arith, given.within, c.free_slot.new.table.ok.0)

pub invariant_of-self-2 : goal.invariant_of-self-2
invariant_of-self-2 g c =
    let given = given_slot _ _ c.self.inside.free.items _ _ c.in-Some.index c.self.invariant.stands (arena_is c.self.invariant.stands c.self.view_is) (free_read _ _ c.self.inside.free.items (arena_is c.self.invariant.stands c.self.view_is)) c.in-Some.ensures.given in
    rw (c.to.ensures ∙ ap Some c.at.ensures) (record { stands = (add_closes _ _ c.args.self.now.arena _ _ c.in-Some.index given c.put-node.result.ptr c.args.value c.alone.result c.put-node.new.self.cells c.put-node.ensures.fresh c.alone.ensures c.put-node.ensures.cells).stands; room = rw length-set c.in-Some.ensures.room; few = rw length-set c.in-Some.ensures.few })

pub returns-clause-slot : goal.returns-clause-slot
returns-clause-slot g c =
    let given = given_slot _ _ c.self.inside.free.items _ _ c.in-Some.index c.self.invariant.stands (arena_is c.self.invariant.stands c.self.view_is) (free_read _ _ c.self.inside.free.items (arena_is c.self.invariant.stands c.self.view_is)) c.in-Some.ensures.given in
    c.at-2.ensures ∙ given.next

pub returns-clause-fresh : goal.returns-clause-fresh
returns-clause-fresh g c =
    let given = given_slot _ _ c.self.inside.free.items _ _ c.in-Some.index c.self.invariant.stands (arena_is c.self.invariant.stands c.self.view_is) (free_read _ _ c.self.inside.free.items (arena_is c.self.invariant.stands c.self.view_is)) c.in-Some.ensures.given in
    rw c.at-2.ensures given.none

pub returns-clause-added : goal.returns-clause-added
returns-clause-added g c =
    let given = given_slot _ _ c.self.inside.free.items _ _ c.in-Some.index c.self.invariant.stands (arena_is c.self.invariant.stands c.self.view_is) (free_read _ _ c.self.inside.free.items (arena_is c.self.invariant.stands c.self.view_is)) c.in-Some.ensures.given in
    rw (c.to.ensures ∙ ap Some c.at.ensures) (add_closes _ _ c.args.self.now.arena _ _ c.in-Some.index given c.put-node.result.ptr c.args.value c.alone.result c.put-node.new.self.cells c.put-node.ensures.fresh c.alone.ensures c.put-node.ensures.cells).view

pub returns-in-Err-clause-slot : goal.returns-in-Err-clause-slot
returns-in-Err-clause-slot g c = search (tests, rules)

pub returns-in-Err-clause-fresh : goal.returns-in-Err-clause-fresh
returns-in-Err-clause-fresh g c = search (tests, rules)

pub returns-in-Err-clause-added : goal.returns-in-Err-clause-added
returns-in-Err-clause-added g c = search (tests, rules)

pub returns-in-Err-clause-value_returned : goal.returns-in-Err-clause-value_returned
returns-in-Err-clause-value_returned g c = search (tests, rules)

pub returns-in-Err-clause-unchanged : goal.returns-in-Err-clause-unchanged
returns-in-Err-clause-unchanged g c = search (tests, rules)

pub returns-in_default-clause-slot : goal.returns-in_default-clause-slot
returns-in_default-clause-slot g c = search (tests, rules)

pub returns-in_default-clause-fresh : goal.returns-in_default-clause-fresh
returns-in_default-clause-fresh g c = search (tests, rules)

pub returns-in_default-clause-added : goal.returns-in_default-clause-added
returns-in_default-clause-added g c = search (tests, rules)

pub returns-in_default-clause-value_returned : goal.returns-in_default-clause-value_returned
returns-in_default-clause-value_returned g c = search (tests, rules)

pub returns-in_default-clause-unchanged : goal.returns-in_default-clause-unchanged
returns-in_default-clause-unchanged g c = search (tests, rules)

pub returns-clause-value_returned : goal.returns-clause-value_returned
returns-clause-value_returned g c = search (tests, rules)

pub returns-clause-unchanged : goal.returns-clause-unchanged
returns-clause-unchanged g c = search (tests, rules)

pub returns-clause-kept : goal.returns-clause-kept
returns-clause-kept g c = λ q placed.
    let v = c.args.self.now in
    let given = given_slot _ _ c.self.inside.free.items _ _ c.in-Some.index c.self.invariant.stands (arena_is c.self.invariant.stands c.self.view_is) (free_read _ _ c.self.inside.free.items (arena_is c.self.invariant.stands c.self.view_is)) c.in-Some.ensures.given in
    rw (c.to.ensures ∙ ap Some c.at.ensures)
    (stays (add_closes _ _ v.arena _ _ c.in-Some.index given c.put-node.result.ptr c.args.value c.alone.result c.put-node.new.self.cells c.put-node.ensures.fresh c.alone.ensures c.put-node.ensures.cells).stands refl
    (given.stays c.put-node.result.ptr (slot_of v q) q (placed_lies c.self.invariant.stands c.self.view_is placed refl)))
