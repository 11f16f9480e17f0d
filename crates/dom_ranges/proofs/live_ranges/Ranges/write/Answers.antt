use Rattle.std.proofs.Common.{◌*◌, length, is_some, ap, sym, ◌∙◌, arith, length-set}
use Rattle.dom_chains.specs.Keyed.{Keyed}
use Rattle.dom_slots.specs.Slotted.{slot_at}
use Rattle.dom_slots.proofs.SlotEntryLemmas.{has_slot}
use Rattle.dom_ranges.specs.{Ends.keyed_end, Ends.paired, Tables.RangeTable, Tables.range_in}
use Rattle.dom_ranges.proofs.RangeTableLemmas.{end-within, long-set, table-set}
use Rattle.dom_ranges.proofs.live_ranges.Ranges.write.Goals as goal

pub unwrap-slot-requires : goal.unwrap-slot-requires
unwrap-slot-requires c =
    ap is_some (c.slot.ensures ∙ ap (slot_at c.self.inside.slots.slots) c.number.ensures)
    ∙ has_slot c.self.inside.slots.slots (paired c.self.inside.chains.items) c.args.r (ap (λ (v : RangeTable). is_some (range_in v c.args.r)) c.self.view_is ∙ c.requires.held)

pub overflow_mul-first : goal.overflow_mul-first
overflow_mul-first c =
    omega (arith, end-within c.state_law.ensures.fit c.self.inside.chains c.self.invariant _ c.self.view_is c.number.result c.unwrap-slot.result (sym c.slot.ensures ∙ c.unwrap-slot.ensures), c.state_law-2.ensures.few)

pub overflow_add-first : goal.overflow_add-first
overflow_add-first c =
    omega (arith, end-within c.state_law.ensures.fit c.self.inside.chains c.self.invariant _ c.self.view_is c.number.result c.unwrap-slot.result (sym c.slot.ensures ∙ c.unwrap-slot.ensures), c.state_law-2.ensures.few)

pub place-requires-clause-within : goal.place-requires-clause-within
place-requires-clause-within c = omega (arith, end-within c.state_law.ensures.fit c.self.inside.chains c.self.invariant _ c.self.view_is c.number.result c.unwrap-slot.result (sym c.slot.ensures ∙ c.unwrap-slot.ensures))

pub place-requires-2-clause-within : goal.place-requires-2-clause-within
place-requires-2-clause-within c =
    omega (
      arith,
      end-within c.state_law.ensures.fit c.self.inside.chains c.self.invariant _ c.self.view_is c.number.result c.unwrap-slot.result (sym c.slot.ensures ∙ c.unwrap-slot.ensures),
      ap (λ (k : Keyed _). length k.items) c.place.ensures,
      length-set c.self.inside.chains.items (2 * c.unwrap-slot.result) (keyed_end c.args.start),
    )

pub invariant_of-self : goal.invariant_of-self
invariant_of-self c =
    long-set c.state_law.ensures.fit c.self.inside.chains c.self.invariant _ c.self.view_is c.number.result c.unwrap-slot.result (sym c.slot.ensures ∙ c.unwrap-slot.ensures) c.args.start c.args.end
    c.place.new.ends c.place-2.new.ends c.place.ensures c.place-2.ensures

pub returns : goal.returns
returns c =
    table-set c.state_law.ensures.fit c.self.inside.chains c.self.invariant _ c.self.view_is c.args.r c.unwrap-slot.result
    (ap (slot_at c.self.inside.slots.slots) (sym c.number.ensures) ∙ sym c.slot.ensures ∙ c.unwrap-slot.ensures) c.args.start c.args.end
    c.place.new.ends c.place-2.new.ends c.place.ensures c.place-2.ensures
