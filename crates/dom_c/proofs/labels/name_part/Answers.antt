use Rattle.std.proofs.Common.{tests, rules}
use Rattle.dom_c.proofs.labels.name_part.Goals as goal

pub returns-in-0 : goal.returns-in-0
returns-in-0 c = search (tests, rules)

pub returns-in-1 : goal.returns-in-1
returns-in-1 c = search (tests, rules)

pub returns-in-2 : goal.returns-in-2
returns-in-2 c = search (tests, rules)

pub returns-in_default : goal.returns-in_default
returns-in_default c = search (tests, rules)
