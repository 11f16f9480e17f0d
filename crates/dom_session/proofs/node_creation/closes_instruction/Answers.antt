use Rattle.dom_session.proofs.Instructions.{closes_instruction-after}
use Rattle.dom_session.proofs.node_creation.closes_instruction.Goals as goal

pub loop-unit-init : goal.loop-unit-init
loop-unit-init c = closes_instruction-after c.args.units.now
