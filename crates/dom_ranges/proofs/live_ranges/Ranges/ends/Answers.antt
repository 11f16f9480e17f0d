use Rattle.std.proofs.Common.{ℕ, is_some, option_map, ap, sym, ◌∙◌, arith}
use Rattle.dom_chains.proofs.AllItemsLemmas.{keys-one}
use Rattle.dom_slots.specs.Slotted.{slot_at}
use Rattle.dom_slots.proofs.SlotEntryLemmas.{has_slot}
use Rattle.dom_ranges.specs.{Ends.paired, Tables.RangeTable, Tables.covers, Tables.range_in}
use Rattle.dom_ranges.proofs.RangeTableLemmas.{end-within, range-read}
use Rattle.dom_ranges.proofs.live_ranges.Ranges.ends.Goals as goal

pub unwrap-slot-requires : goal.unwrap-slot-requires
unwrap-slot-requires c =
    ap is_some (c.slot.ensures ∙ ap (slot_at c.self.inside.slots.slots) c.number.ensures)
    ∙ has_slot c.self.inside.slots.slots (paired c.self.inside.chains.items) c.args.r (ap (λ (v : RangeTable). is_some (range_in v c.args.r)) c.self.view_is ∙ c.requires)

pub overflow_mul-first : goal.overflow_mul-first
overflow_mul-first c =
    omega (arith, end-within c.state_law.ensures.fit c.self.inside.chains c.self.invariant _ c.self.view_is c.number.result c.unwrap-slot.result (sym c.slot.ensures ∙ c.unwrap-slot.ensures), c.state_law-2.ensures.few)

pub overflow_add-first : goal.overflow_add-first
overflow_add-first c =
    omega (arith, end-within c.state_law.ensures.fit c.self.inside.chains c.self.invariant _ c.self.view_is c.number.result c.unwrap-slot.result (sym c.slot.ensures ∙ c.unwrap-slot.ensures), c.state_law-2.ensures.few)

pub point-start-requires : goal.point-start-requires
point-start-requires c = omega (arith, end-within c.state_law.ensures.fit c.self.inside.chains c.self.invariant _ c.self.view_is c.number.result c.unwrap-slot.result (sym c.slot.ensures ∙ c.unwrap-slot.ensures))

pub point-end-requires : goal.point-end-requires
point-end-requires c = end-within c.state_law.ensures.fit c.self.inside.chains c.self.invariant _ c.self.view_is c.number.result c.unwrap-slot.result (sym c.slot.ensures ∙ c.unwrap-slot.ensures)

pub returns-clause-ends : goal.returns-clause-ends
returns-clause-ends c =
    range-read c.state_law.ensures.fit c.self.inside.chains c.self.invariant _ c.self.view_is c.args.r c.unwrap-slot.result
    (ap (slot_at c.self.inside.slots.slots) (sym c.number.ensures) ∙ sym c.slot.ensures ∙ c.unwrap-slot.ensures)
    c.point-start.result c.point-end.result c.point-start.ensures c.point-end.ensures

pub returns-clause-start_covered : goal.returns-clause-start_covered
returns-clause-start_covered c =
    ap (λ (v : RangeTable). covers v.covered c.point-start.result.node) (sym c.self.view_is)
    ∙ c.state_law-2.ensures.covered c.point-start.result.node (keys-one c.point-start.result.node c.self.inside.chains.items _ (ap (option_map (λ (e : ℕ × ℕ). e.0)) c.point-start.ensures))

pub returns-clause-end_covered : goal.returns-clause-end_covered
returns-clause-end_covered c =
    ap (λ (v : RangeTable). covers v.covered c.point-end.result.node) (sym c.self.view_is)
    ∙ c.state_law-2.ensures.covered c.point-end.result.node (keys-one c.point-end.result.node c.self.inside.chains.items _ (ap (option_map (λ (e : ℕ × ℕ). e.0)) c.point-end.ensures))
