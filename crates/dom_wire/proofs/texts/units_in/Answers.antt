use Rattle.std.proofs.Common.{arith}
use Rattle.std.proofs.lemmas.Grind.{common_steps}
use Rattle.dom_wire.proofs.texts.units_in.Goals as goal

pub returns-in_default-as_u64 : goal.returns-in_default-as_u64
returns-in_default-as_u64 c = grind (arith, common_steps)

pub loop-item-preserved : goal.loop-item-preserved
loop-item-preserved c = grind (arith, common_steps)

pub returns-in-Ok-from_units : goal.returns-in-Ok-from_units
returns-in-Ok-from_units c = grind (arith, common_steps)
