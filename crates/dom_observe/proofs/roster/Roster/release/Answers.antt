-- The last observer comes into the slot.
use Rattle.dom_slots.proofs.SlotEntryLemmas.{has_slot}
use Rattle.dom_observe.proofs.roster.Roster.release.Goals as goal

pub release-requires : goal.release-requires
release-requires c = rw c.number.ensures (has_slot c.self.inside.kept.slots c.self.inside.kept.items c.args.observer (rw (← c.self.view_is) at c.requires))

pub returns : goal.returns
returns c = rw (c.release.ensures.released, c.number.ensures, c.self.view_is)
