-- The walker in the slot of the number; it waits from then on.
use Rattle.std.proofs.Common.{ap}
use Rattle.dom_model.specs.Definitions.{Walker}
use Rattle.dom_traverse.proofs.LocatedLemmas.{found-left}
use Rattle.dom_traverse.proofs.walkers.Walkers.set_current.Goals as goal

pub invariant_of-located : goal.invariant_of-located
invariant_of-located c =
    found-left (λ (k : Walker). k.root) (λ (k : Walker). k.current) c.located.inside.items.items c.located.inside.roots c.located.inside.whereabouts c.located.invariant c.slot_of-slot.result c.in_slot_mut-walker.result.now _
    c.in_slot_mut-walker.ensures.value (ap (λ (k : Walker). k.root) c.walker.view_is) c.leave.new.self c.leave.ensures
