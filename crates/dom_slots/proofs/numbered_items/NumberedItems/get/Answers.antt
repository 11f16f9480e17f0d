-- What lies in the number's slot.
use Rattle.std.proofs.Common.{◌<◌, length, refl, ap, sym, ◌∙◌, arith}
use Rattle.std.proofs.lemmas.Option.{slice_get_read}
use Rattle.dom_slots.proofs.SlotEntryLemmas.{item_in_slot}
use Rattle.dom_slots.proofs.numbered_items.NumberedItems.get.Goals as goal

pub index-requires : goal.index-requires
index-requires g c = omega (arith, c.in_ok-slot.ensures.within, c.self.inside.items.ok, ap (λ v. length v.items) c.self.view_is)

pub returns : goal.returns
returns g c =
    let v = c.args.self.now in
    let k = c.in_ok-slot.slot in
    let within : k < length c.self.inside.items.items = omega (arith, c.in_ok-slot.ensures.within, ap (λ v. length v.items) c.self.view_is) in
    sym (item_in_slot v.slots v.items c.args.number k (sym c.in_ok-slot.ensures.slot)
    ∙ rw (← c.self.view_is) (slice_get_read c.self.inside.items.items _ k c.index.result.now refl within c.index.ensures))
