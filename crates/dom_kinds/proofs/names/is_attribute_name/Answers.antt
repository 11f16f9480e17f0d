use Rattle.std.proofs.Common.{tests, rules}
use Rattle.dom_kinds.proofs.names.is_attribute_name.Goals as goal

pub returns-then-not-is_empty : goal.returns-then-not-is_empty
returns-then-not-is_empty c = search (tests, rules)

pub returns-else-not-is_empty : goal.returns-else-not-is_empty
returns-else-not-is_empty c = search (tests, rules)
