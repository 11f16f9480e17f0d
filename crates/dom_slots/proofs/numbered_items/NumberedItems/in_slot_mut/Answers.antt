-- What lies in the slot, and what is written there.
use Rattle.std.proofs.Common.{◌<◌, length, refl, ap, ◌∙◌, arith, length-set}
use Rattle.std.proofs.lemmas.Option.{slice_get_read}
use Rattle.dom_slots.proofs.numbered_items.NumberedItems.in_slot_mut.Goals as goal

pub invariant_of-self-lent : goal.invariant_of-self-lent
invariant_of-self-lent g c = λ w. length-set c.self.inside.items.items c.args.slot w ∙ c.self.invariant

pub returns : goal.returns
returns g c =
    let within : c.args.slot < length c.self.inside.items.items = omega (arith, c.requires, ap (λ v. length v.items) c.self.view_is) in (
      (refl, λ w. rw (← c.self.view_is, length-set)),
      record {
        writes_back = tt;
        value = rw (← c.self.view_is) (slice_get_read c.self.inside.items.items _ c.args.slot c.index_mut.result.now refl within c.index_mut.ensures.value);
      },
    )
