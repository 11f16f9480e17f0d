-- One iterator more has stepped off.
use Rattle.std.proofs.Common.{◌∙◌, arith}
use Rattle.dom_model.specs.Definitions.{pre_removed}
use Rattle.dom_traverse.proofs.ItemInLemmas.{over-more}
use Rattle.dom_traverse.proofs.pre_removal.removing_each.Goals as goal

pub loop-slot-preserved : goal.loop-slot-preserved
loop-slot-preserved g c = record {
  stepped =
      over-more (pre_removed c.args.tree.now.forest c.args.node) c.args.iterators.now.items c.loop-slot.iterators.items c.step_off-last.new.iterators.items c.loop-slot.slot (omega (arith, c.loop-slot-test.true, c.count-slot-end.ensures.slots)) c.loop-slot.invariant.stepped c.step_off-last.ensures.stepped;
  slots = c.step_off-last.ensures.slots ∙ c.loop-slot.invariant.slots;
  stand = c.step_off-last.ensures.stand;
  found = c.step_off-last.ensures.found;
}
