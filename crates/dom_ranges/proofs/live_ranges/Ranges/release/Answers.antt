use Rattle.std.proofs.Common.{is_some, ap, ◌∙◌, arith}
use Rattle.dom_slots.specs.Slotted.{slot_at}
use Rattle.dom_slots.proofs.SlotEntryLemmas.{has_slot}
use Rattle.dom_ranges.specs.{Ends.paired, Tables.RangeTable, Tables.range_in, Tables.without_range}
use Rattle.dom_ranges.proofs.RangeTableLemmas.{end-within, start-within, long-left, table-left}
use Rattle.dom_ranges.proofs.live_ranges.Ranges.release.Goals as goal

pub release-slot-requires : goal.release-slot-requires
release-slot-requires c =
    ap (λ n. is_some (slot_at c.self.inside.slots.slots n)) c.number.ensures
    ∙ has_slot c.self.inside.slots.slots (paired c.self.inside.chains.items) c.args.r (ap (λ (v : RangeTable). is_some (range_in v c.args.r)) c.self.view_is ∙ c.requires)

pub overflow_mul-first : goal.overflow_mul-first
overflow_mul-first c =
    omega (arith, end-within c.state_law.ensures.fit c.self.inside.chains c.self.invariant _ c.self.view_is c.number.result c.release-slot.result c.release-slot.ensures.slot, c.state_law-2.ensures.few)

pub overflow_add-first : goal.overflow_add-first
overflow_add-first c =
    omega (arith, end-within c.state_law.ensures.fit c.self.inside.chains c.self.invariant _ c.self.view_is c.number.result c.release-slot.result c.release-slot.ensures.slot, c.state_law-2.ensures.few)

pub swap_remove-requires : goal.swap_remove-requires
swap_remove-requires c = end-within c.state_law.ensures.fit c.self.inside.chains c.self.invariant _ c.self.view_is c.number.result c.release-slot.result c.release-slot.ensures.slot

pub swap_remove-requires-2 : goal.swap_remove-requires-2
swap_remove-requires-2 c =
    start-within c.state_law.ensures.fit c.self.inside.chains c.self.invariant _ c.self.view_is c.number.result c.release-slot.result c.release-slot.ensures.slot c.swap_remove.new.self c.swap_remove.ensures.items

pub invariant_of-self : goal.invariant_of-self
invariant_of-self c =
    long-left c.state_law.ensures.fit c.self.inside.chains c.self.invariant _ c.self.view_is c.number.result c.release-slot.result c.release-slot.ensures.slot c.swap_remove.new.self c.swap_remove.ensures.items c.swap_remove-2.new.self c.swap_remove-2.ensures.items
    _ c.release-slot.ensures.numbers

pub returns : goal.returns
returns c =
    table-left c.state_law.ensures.fit c.self.inside.chains c.self.invariant _ c.self.view_is c.number.result c.release-slot.result c.release-slot.ensures.slot c.swap_remove.new.self c.swap_remove.ensures.items c.swap_remove-2.new.self c.swap_remove-2.ensures.items
    _ c.release-slot.ensures.slots (c.swap_remove-2.ensures.covered ∙ c.swap_remove.ensures.covered)
    ∙ ap (λ n. without_range n c.args.self.now) c.number.ensures
