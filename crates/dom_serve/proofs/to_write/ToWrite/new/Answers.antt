use Rattle.std.proofs.Common.{tests, rules}
use Rattle.dom_serve.proofs.to_write.ToWrite.new.Goals as goal

pub returns-clause-taken : goal.returns-clause-taken
returns-clause-taken g c = search (tests, rules)

pub returns-clause-passed : goal.returns-clause-passed
returns-clause-passed g c = search (tests, rules)
