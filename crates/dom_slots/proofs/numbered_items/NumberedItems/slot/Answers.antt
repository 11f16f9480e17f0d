use Rattle.std.proofs.Common.{◌<◌, IfSome, length, ap, sym, subst, ◌∙◌}
use Rattle.dom_slots.specs.Slotted.{slot_at}
use Rattle.dom_slots.proofs.SlotEntryLemmas.{slot_within_items}
use Rattle.dom_slots.proofs.numbered_items.NumberedItems.slot.Goals as goal

pub returns-clause-within : goal.returns-clause-within
returns-clause-within g c =
    let found = c.slot.ensures ∙ ap (λ v. slot_at v.slots c.args.number) c.self.view_is in
    subst (λ o. IfSome o (λ k. k < length c.args.self.now.items)) (sym found) (slot_within_items c.state_law.ensures.slotted c.args.number)
