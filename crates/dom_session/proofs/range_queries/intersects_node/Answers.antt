use Rattle.std.proofs.Common.{arith}
use Rattle.std.proofs.lemmas.Grind.{common_steps}
use Rattle.dom_session.proofs.range_queries.intersects_node.Goals as goal

pub meets-requires-clause-stands : goal.meets-requires-clause-stands
meets-requires-clause-stands c = grind (arith, common_steps)
