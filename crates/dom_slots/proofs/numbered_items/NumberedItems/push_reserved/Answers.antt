-- The item has the next number, and the next slot.
use Rattle.std.proofs.Common.{length, ap, arith}
use Rattle.std.proofs.lemmas.List.{length_push}
use Rattle.dom_slots.specs.Slotted.{IsSlotted}
use Rattle.dom_slots.proofs.SlotEntryLemmas.{by_slot-pushed}
use Rattle.dom_slots.proofs.numbered_items.NumberedItems.push_reserved.Goals as goal

pub invariant_of-self : goal.invariant_of-self
invariant_of-self g c =
    omega (arith, ap length c.push_reserved.ensures.items, length_push c.self.inside.items.items c.args.item, ap length c.push_reserved-number.ensures.numbers, length_push c.self.inside.slots.numbers (length c.self.inside.slots.slots), c.self.invariant)

pub returns-clause-pushed : goal.returns-clause-pushed
returns-clause-pushed g c =
    let s : IsSlotted c.self.inside.slots.slots c.self.inside.items.items = record { numbers = c.self.inside.slots.numbers; fit = c.state_law.ensures.fit; long = c.self.invariant } in
    rw (c.push_reserved.ensures.items, c.push_reserved-number.ensures.slots, ← c.self.invariant, ← c.self.view_is) (by_slot-pushed s c.args.item)
