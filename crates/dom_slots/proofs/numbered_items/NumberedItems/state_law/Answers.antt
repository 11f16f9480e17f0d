use Rattle.std.proofs.Common.{subst}
use Rattle.dom_slots.specs.Slotted.{IsSlotted}
use Rattle.dom_slots.proofs.numbered_items.NumberedItems.state_law.Goals as goal

pub returns-clause-slotted : goal.returns-clause-slotted
returns-clause-slotted g c = subst (λ v. IsSlotted v.slots v.items) c.self.view_is (record { numbers = c.self.inside.slots.numbers; fit = c.state_law.ensures.fit; long = c.self.invariant })
