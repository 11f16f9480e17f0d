-- The item of the number goes, and the last comes into its slot.
use Rattle.std.proofs.Common.{◌-◌, length, refl, ap, ◌∙◌, sym, arith}
use Rattle.std.proofs.lemmas.Option.{slice_get_read}
use Rattle.dom_slots.specs.Slotted.{IsSlotted}
use Rattle.dom_slots.proofs.{SlotEntryLemmas.item_within, SlotEntryLemmas.by_slot-released, ListPlaceLemmas.length-swap_remove}
use Rattle.dom_slots.proofs.numbered_items.NumberedItems.release.Goals as goal

pub swap_remove-item-requires : goal.swap_remove-item-requires
swap_remove-item-requires g c =
    let s : IsSlotted c.self.inside.slots.slots c.self.inside.items.items = record { numbers = c.self.inside.slots.numbers; fit = c.state_law.ensures.fit; long = c.self.invariant } in
    omega (arith, item_within s c.args.number c.release-slot.result c.release-slot.ensures.slot, c.self.inside.items.ok)

pub invariant_of-self : goal.invariant_of-self
invariant_of-self g c =
    let s : IsSlotted c.self.inside.slots.slots c.self.inside.items.items = record { numbers = c.self.inside.slots.numbers; fit = c.state_law.ensures.fit; long = c.self.invariant } in
    let within = item_within s c.args.number c.release-slot.result c.release-slot.ensures.slot in
    let last = length c.self.inside.items.items - 1 in
    ap length c.swap_remove-item.ensures.items ∙ length-swap_remove c.self.inside.items.items last (omega (arith, within)) c.release-slot.result c.swap_remove-item.result
    ∙ sym (ap length c.release-slot.ensures.numbers ∙ length-swap_remove c.self.inside.slots.numbers last (omega (arith, within, c.self.invariant)) c.release-slot.result c.args.number)

pub returns-clause-item : goal.returns-clause-item
returns-clause-item g c =
    let s : IsSlotted c.self.inside.slots.slots c.self.inside.items.items = record { numbers = c.self.inside.slots.numbers; fit = c.state_law.ensures.fit; long = c.self.invariant } in
    rw (← c.self.view_is) (slice_get_read c.self.inside.items.items _ c.release-slot.result c.swap_remove-item.result refl (item_within s c.args.number c.release-slot.result c.release-slot.ensures.slot) c.swap_remove-item.ensures.value)

pub returns-clause-released : goal.returns-clause-released
returns-clause-released g c =
    let s : IsSlotted c.self.inside.slots.slots c.self.inside.items.items = record { numbers = c.self.inside.slots.numbers; fit = c.state_law.ensures.fit; long = c.self.invariant } in
    rw (c.swap_remove-item.ensures.items, c.release-slot.ensures.slots, ← c.self.view_is) (by_slot-released s c.args.number c.release-slot.result c.release-slot.ensures.slot c.swap_remove-item.result)
