use Rattle.std.proofs.Common.{◌<◌, length, ap, arith}
use Rattle.dom_slots.proofs.SlotStepLemmas.{live_few, IsSlotTable-pushed}
use Rattle.dom_slots.proofs.numbers.Numbers.push_reserved.Goals as goal

pub overflow_cast-len : goal.overflow_cast-len
overflow_cast-len c = omega (arith, c.len.ensures, c.self.inside.numbers.ok, live_few c.self.invariant, ap (λ v. v.room) c.self.view_is, c.requires)

pub invariant_of-self : goal.invariant_of-self
invariant_of-self c =
    let few : length c.self.inside.slots.items < 4294967296 = omega (arith, ap (λ v. v.room) c.self.view_is, c.requires) in
    IsSlotTable-pushed c.self.invariant c.len.result c.len-number.result _ _ (omega (arith, c.len.ensures, c.self.inside.numbers.ok)) c.len-number.ensures few c.push_reserved.ensures.items c.push_reserved-2.ensures.items
