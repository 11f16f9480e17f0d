use Rattle.std.proofs.Common.{tests, rules}
use Rattle.dom_ranges.proofs.shift.split.Goals as goal

pub returns-then-at-offset : goal.returns-then-at-offset
returns-then-at-offset c = search (tests, rules)

pub returns-then-eq-3 : goal.returns-then-eq-3
returns-then-eq-3 c = search (tests, rules)

pub returns : goal.returns
returns c = search (tests, rules)
