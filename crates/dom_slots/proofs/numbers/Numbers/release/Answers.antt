use Rattle.std.proofs.Common.{◌≡◌, ◌-◌, Some, None, is_some, length, slice_index_or, slice_set, ap, sym, ◌∙◌, arith}
use Rattle.dom_slots.specs.Slotted.{slot_at}
use Rattle.dom_slots.proofs.{FitLemmas.slot_within, FitLemmas.mover_at, SlotStepLemmas.last_is, SlotStepLemmas.IsSlotTable-released}
use Rattle.dom_slots.proofs.numbers.Numbers.release.Goals as goal

pub overflow_sub-len : goal.overflow_sub-len
overflow_sub-len c =
    let at : slot_at c.self.inside.slots.items c.args.number ≡ Some c.unwrap-slot.result = sym c.get.ensures ∙ c.unwrap-slot.ensures in
    omega (arith, slot_within c.self.invariant.fit c.args.number c.unwrap-slot.result at, c.len.ensures, c.self.inside.numbers.ok)

pub index-last-requires : goal.index-last-requires
index-last-requires c =
    let at : slot_at c.self.inside.slots.items c.args.number ≡ Some c.unwrap-slot.result = sym c.get.ensures ∙ c.unwrap-slot.ensures in
    omega (arith, slot_within c.self.invariant.fit c.args.number c.unwrap-slot.result at, c.len.ensures, c.self.inside.numbers.ok)

pub set-requires : goal.set-requires
set-requires c =
    let at : slot_at c.self.inside.slots.items c.args.number ≡ Some c.unwrap-slot.result = sym c.get.ensures ∙ c.unwrap-slot.ensures in
    let read : c.index-last.result.now ≡ slice_index_or c.self.inside.numbers.items (length c.self.inside.numbers.items - 1) c.index-last.result.now =
    c.index-last.ensures ∙ ap (λ n. slice_index_or c.self.inside.numbers.items (n - 1) c.index-last.result.now) (omega (arith, c.len.ensures, c.self.inside.numbers.ok)) in
    let last = last_is c.self.invariant c.args.number c.unwrap-slot.result c.index-last.result.now at read in
    ap is_some (ap (slot_at c.self.inside.slots.items) last ∙ mover_at c.self.invariant.fit c.args.number c.unwrap-slot.result at)

pub swap_remove-requires : goal.swap_remove-requires
swap_remove-requires c =
    let at : slot_at c.self.inside.slots.items c.args.number ≡ Some c.unwrap-slot.result = sym c.get.ensures ∙ c.unwrap-slot.ensures in
    omega (arith, slot_within c.self.invariant.fit c.args.number c.unwrap-slot.result at, c.self.inside.numbers.ok)

pub invariant_of-self : goal.invariant_of-self
invariant_of-self c =
    let at : slot_at c.self.inside.slots.items c.args.number ≡ Some c.unwrap-slot.result = sym c.get.ensures ∙ c.unwrap-slot.ensures in
    let read : c.index-last.result.now ≡ slice_index_or c.self.inside.numbers.items (length c.self.inside.numbers.items - 1) c.index-last.result.now =
    c.index-last.ensures ∙ ap (λ n. slice_index_or c.self.inside.numbers.items (n - 1) c.index-last.result.now) (omega (arith, c.len.ensures, c.self.inside.numbers.ok)) in
    IsSlotTable-released c.self.invariant c.args.number c.unwrap-slot.result c.index-last.result.now at read c.swap_remove.result _ _
    (c.clear.ensures.items ∙ ap (λ os. slice_set os c.args.number None) c.set.ensures.items) c.swap_remove.ensures.items
