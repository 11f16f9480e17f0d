-- The iterator in the slot of the number; it waits from then on.
use Rattle.std.proofs.Common.{false, ap, ◌∙◌}
use Rattle.dom_model.specs.Definitions.{Iterator, next_found}
use Rattle.dom_model.proofs.Soundness.SoundTraversalSteps.{root-moved}
use Rattle.dom_traverse.proofs.LocatedLemmas.{found-left}
use Rattle.dom_traverse.proofs.iterators.NodeIterators.next.Goals as goal

pub invariant_of-located : goal.invariant_of-located
invariant_of-located g c =
    found-left (λ (i : Iterator). i.root) (λ (i : Iterator). i.reference) c.located.inside.items.items c.located.inside.roots c.located.inside.whereabouts c.located.invariant c.slot_of-slot.result c.in_slot_mut-iterator.result.now c.next-found.new.self
    c.in_slot_mut-iterator.ensures.value
    (ap (λ (i : Iterator). i.root) c.next-found.ensures.moved ∙ root-moved false (next_found c.args.tree.now.forest c.in_slot_mut-iterator.result.now) c.in_slot_mut-iterator.result.now) c.leave.new.self c.leave.ensures
