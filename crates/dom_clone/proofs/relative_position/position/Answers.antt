use Rattle.std.proofs.Common.{tests, rules}
use Rattle.dom_clone.proofs.relative_position.position.Goals as goal

pub returns-then-eq : goal.returns-then-eq
returns-then-eq c = search (tests, rules)

pub returns-then-ne : goal.returns-then-ne
returns-then-ne c = search (tests, rules)

pub returns-then-is_ancestor : goal.returns-then-is_ancestor
returns-then-is_ancestor c = search (tests, rules)

pub returns-then-is_ancestor-2 : goal.returns-then-is_ancestor-2
returns-then-is_ancestor-2 c = search (tests, rules)
