use Rattle.std.proofs.Common.{tests, rules}
use Rattle.dom_ranges.proofs.shift.merged.Goals as goal

pub returns-then-eq : goal.returns-then-eq
returns-then-eq c = search (tests, rules)

pub returns-then-offset-index : goal.returns-then-offset-index
returns-then-offset-index c = search (tests, rules)

pub returns : goal.returns
returns c = search (tests, rules)
