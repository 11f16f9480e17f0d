use Rattle.std.proofs.Common.{arith}
use Rattle.std.proofs.lemmas.Grind.{common_steps}
use Rattle.dom_wire.proofs.reply_printer.write_brief.Goals as goal

pub returns : goal.returns
returns c = grind (arith, common_steps)
