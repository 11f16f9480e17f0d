use Rattle.std.proofs.Common.{tests, rules}
use Rattle.dom_c.proofs.status.status_of_brief.Goals as goal

pub returns-in-Nothing : goal.returns-in-Nothing
returns-in-Nothing c = search (tests, rules)

pub returns-in-Dom : goal.returns-in-Dom
returns-in-Dom c = search (tests, rules)

pub returns-in-Own : goal.returns-in-Own
returns-in-Own c = search (tests, rules)
