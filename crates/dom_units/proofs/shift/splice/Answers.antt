use Rattle.std.proofs.Common.{tests, rules, arith}
use Rattle.std.proofs.lemmas.Grind.{common_steps}
use Rattle.dom_units.proofs.shift.splice.Goals as goal

pub returns-clause-ok : goal.returns-clause-ok
returns-clause-ok c = grind (arith, common_steps)

pub returns-clause-err : goal.returns-clause-err
returns-clause-err c = search (tests, rules)
