use Rattle.std.proofs.Common.{tests, rules}
use Rattle.dom_edit.proofs.insertion_point.Around.refuses_element.Goals as goal

pub returns-then-self-4 : goal.returns-then-self-4
returns-then-self-4 c = search (tests, rules)

pub returns-else-self-4 : goal.returns-else-self-4
returns-else-self-4 c = search (tests, rules)
