-- It has an entry where it has a slot.
use Rattle.std.proofs.Common.{is_some, ap, sym, ◌∙◌}
use Rattle.dom_slots.proofs.SlotEntryLemmas.{is_some-by_slot}
use Rattle.dom_slots.proofs.numbered_items.NumberedItems.holds.Goals as goal

pub returns : goal.returns
returns g c = c.is_some.ensures ∙ ap is_some c.slot.ensures.slot ∙ sym (is_some-by_slot c.state_law.ensures.slotted c.args.number)
