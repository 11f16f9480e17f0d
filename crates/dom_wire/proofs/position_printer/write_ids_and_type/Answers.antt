use Rattle.std.proofs.Common.{arith}
use Rattle.std.proofs.lemmas.Grind.{common_steps}
use Rattle.dom_wire.proofs.position_printer.write_ids_and_type.Goals as goal

pub returns : goal.returns
returns c = grind (arith, common_steps)
