-- One iterator more gives way, or is passed over.
use Rattle.dom_model.specs.Definitions.{pre_removed}
use Rattle.dom_traverse.specs.PreRemoval.{stepped_at}
use Rattle.dom_traverse.proofs.GaveWayLemmas.{fewer-stand, leaving-step}
use Rattle.dom_traverse.proofs.pre_removal.give_way.Goals as goal

pub loop-slot-smaller : goal.loop-slot-smaller
loop-slot-smaller g c = rw c.leave.ensures (fewer-stand c.loop-slot.references c.in-Some.slot c.in-Some.ensures.some)

pub loop-slot-preserved : goal.loop-slot-preserved
loop-slot-preserved g c = record {
  leaving =
      rw c.removing_at-last.ensures.moved
      (leaving-step (stepped_at c.args.here (pre_removed c.args.tree.now.forest c.args.node)) c.args.iterators.now.items c.loop-slot.iterators.items c.loop-slot.references c.loop-slot.invariant.leaving c.in-Some.slot c.in_slot_mut-iterator.result.now c.leave.new.self c.in-Some.ensures.some
      c.in_slot_mut-iterator.ensures.value c.leave.ensures);
  slots = c.loop-slot.invariant.slots;
  found = c.removing_at-last.ensures.found;
}
