use Rattle.std.proofs.Common.{tests, rules}
use Rattle.dom_data.proofs.character_data.substring.Goals as goal

pub returns-then-offset-length-clause-allowed : goal.returns-then-offset-length-clause-allowed
returns-then-offset-length-clause-allowed c = search (tests, rules)

pub returns-then-offset-length-clause-units : goal.returns-then-offset-length-clause-units
returns-then-offset-length-clause-units c = search (tests, rules)

pub returns-then-offset-length-clause-refused : goal.returns-then-offset-length-clause-refused
returns-then-offset-length-clause-refused c = search (tests, rules)

pub returns-clause-allowed : goal.returns-clause-allowed
returns-clause-allowed c = search (tests, rules)

pub returns-clause-units : goal.returns-clause-units
returns-clause-units c = search (tests, rules)

pub returns-clause-refused : goal.returns-clause-refused
returns-clause-refused c = search (tests, rules)
