use Rattle.std.proofs.Common.{arith}
use Rattle.std.proofs.lemmas.Grind.{common_steps}
use Rattle.dom_content.proofs.StaysLemmas.{stays-none}
use Rattle.dom_content.proofs.end_paths.tail_into.Goals as goal

pub returns-in-None-clause-drawn : goal.returns-in-None-clause-drawn
returns-in-None-clause-drawn c = grind (arith, common_steps)

pub returns-in-None-clause-stays : goal.returns-in-None-clause-stays
returns-in-None-clause-stays c = stays-none c.args.world.now

pub returns-in-None-clause-left : goal.returns-in-None-clause-left
returns-in-None-clause-left c still a h newer l = l
