use Rattle.std.proofs.Common.{tests, rules}
use Rattle.dom_kinds.proofs.names.is_element_name.Goals as goal

pub returns-in-None : goal.returns-in-None
returns-in-None c = search (tests, rules)

pub returns-in-Some : goal.returns-in-Some
returns-in-Some c = search (tests, rules)
