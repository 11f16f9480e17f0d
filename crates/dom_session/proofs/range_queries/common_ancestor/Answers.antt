use Rattle.std.proofs.Common.{arith}
use Rattle.std.proofs.lemmas.Grind.{common_steps}
use Rattle.dom_session.proofs.range_queries.common_ancestor.Goals as goal

pub common-node-requires-clause-a_held : goal.common-node-requires-clause-a_held
common-node-requires-clause-a_held c = grind (arith, common_steps)

pub common-node-requires-clause-b_held : goal.common-node-requires-clause-b_held
common-node-requires-clause-b_held c = grind (arith, common_steps)

pub common-node-requires-clause-one_root : goal.common-node-requires-clause-one_root
common-node-requires-clause-one_root c = grind (arith, common_steps)
