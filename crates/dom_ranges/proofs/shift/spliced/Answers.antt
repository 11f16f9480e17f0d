use Rattle.std.proofs.Common.{tests, rules}
use Rattle.dom_ranges.proofs.shift.spliced.Goals as goal

pub returns-then-offset-at : goal.returns-then-offset-at
returns-then-offset-at c = search (tests, rules)

pub returns-then-offset-at-2 : goal.returns-then-offset-at-2
returns-then-offset-at-2 c = search (tests, rules)

pub returns-else-offset-at-2 : goal.returns-else-offset-at-2
returns-else-offset-at-2 c = search (tests, rules)
