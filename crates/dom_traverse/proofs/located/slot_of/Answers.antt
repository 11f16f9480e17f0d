-- What lies in the slot of the number, and what is written there.
use Rattle.std.proofs.Common.{sym, ◌∙◌}
use Rattle.dom_slots.proofs.SlotEntryLemmas.{by_slot-set}
use Rattle.dom_traverse.proofs.located.slot_of.Goals as goal

pub returns-clause-written : goal.returns-clause-written
returns-clause-written g c = λ x. by_slot-set c.state_law.ensures.slotted c.args.number c.unwrap.result (sym c.slot.ensures.slot ∙ c.unwrap.ensures) x
