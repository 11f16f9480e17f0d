use Rattle.std.proofs.Common.{arith}
use Rattle.std.proofs.lemmas.Grind.{common_steps}
use Rattle.dom_session.proofs.node_queries.child_numbers.Goals as goal

pub loop-child-preserved : goal.loop-child-preserved
loop-child-preserved c = grind (arith, common_steps)

pub returns : goal.returns
returns c = grind (arith, common_steps)
