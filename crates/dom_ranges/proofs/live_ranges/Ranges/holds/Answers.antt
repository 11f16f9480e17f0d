use Rattle.std.proofs.Common.{is_some, ap, sym, ◌∙◌}
use Rattle.dom_slots.specs.Slotted.{slot_at}
use Rattle.dom_slots.proofs.SlotEntryLemmas.{is_some-by_slot}
use Rattle.dom_ranges.specs.Tables.{RangeTable, range_in}
use Rattle.dom_ranges.proofs.RangeTableLemmas.{are-slotted}
use Rattle.dom_ranges.proofs.live_ranges.Ranges.holds.Goals as goal

pub returns : goal.returns
returns c =
    c.is_some.ensures ∙ ap is_some c.slot.ensures
    ∙ ap (λ n. is_some (slot_at c.self.inside.slots.slots n)) c.number.ensures
    ∙ sym (is_some-by_slot (are-slotted c.state_law.ensures.fit c.self.inside.chains c.self.invariant) c.args.r)
    ∙ ap (λ (v : RangeTable). is_some (range_in v c.args.r)) c.self.view_is
