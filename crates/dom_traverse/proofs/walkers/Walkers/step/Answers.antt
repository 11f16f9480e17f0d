-- The walker in the slot of the number; it waits from then on.
use Rattle.std.proofs.Common.{ap, ◌∙◌}
use Rattle.dom_model.specs.Definitions.{Walker, walk_found}
use Rattle.dom_traverse.proofs.{LocatedLemmas.found-left, LocatedLemmas.moved-walker_root}
use Rattle.dom_traverse.proofs.walkers.Walkers.step.Goals as goal

pub invariant_of-located : goal.invariant_of-located
invariant_of-located g c =
    found-left (λ (k : Walker). k.root) (λ (k : Walker). k.current) c.located.inside.items.items c.located.inside.roots c.located.inside.whereabouts c.located.invariant c.slot_of-slot.result c.in_slot_mut-walker.result.now c.step-found.new.self
    c.in_slot_mut-walker.ensures.value
    (ap (λ (k : Walker). k.root) c.step-found.ensures.moved ∙ moved-walker_root (walk_found c.args.way c.args.tree.now.forest c.in_slot_mut-walker.result.now) c.in_slot_mut-walker.result.now) c.leave.new.self c.leave.ensures
