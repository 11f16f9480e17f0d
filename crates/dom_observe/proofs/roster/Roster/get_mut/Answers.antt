-- What lies in the observer's slot, and what is written there.
use Rattle.std.proofs.Common.{◌≡◌, Some, refl, ap, sym, ◌∙◌, slice_set}
use Rattle.dom_slots.specs.Slotted.{slot_at}
use Rattle.dom_slots.proofs.SlotEntryLemmas.{has_slot, item_in_slot, by_slot-set}
use Rattle.dom_observe.specs.Roster.{observer_at}
use Rattle.dom_observe.proofs.roster.Roster.get_mut.Goals as goal

pub unwrap-slot-requires : goal.unwrap-slot-requires
unwrap-slot-requires c = rw (c.slot.ensures.slot, c.number.ensures) (has_slot c.self.inside.kept.slots c.self.inside.kept.items c.args.observer (rw (← c.self.view_is) at c.requires))

pub returns : goal.returns
returns c =
    let kept = c.self.inside.kept in
    let at : slot_at kept.slots c.args.observer ≡ Some c.unwrap-slot.result = ap (slot_at kept.slots) (sym c.number.ensures) ∙ sym c.slot.ensures.slot ∙ c.unwrap-slot.ensures in (
      (refl, λ w. by_slot-set c.state_law.ensures.slotted c.args.observer c.unwrap-slot.result at w ∙ ap (λ v. slice_set v c.args.observer (Some w)) c.self.view_is),
      record {
        writes_back = tt;
        value = sym (ap (λ v. observer_at v c.args.observer) c.self.view_is) ∙ item_in_slot kept.slots kept.items c.args.observer c.unwrap-slot.result at ∙ c.in_slot_mut.ensures.value;
      },
    )
