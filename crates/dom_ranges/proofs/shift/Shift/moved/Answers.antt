use Rattle.std.proofs.Common.{tests, rules}
use Rattle.dom_ranges.proofs.shift.Shift.moved.Goals as goal

pub returns-in-Splice : goal.returns-in-Splice
returns-in-Splice c = search (tests, rules)

pub returns-in-Splice-2 : goal.returns-in-Splice-2
returns-in-Splice-2 c = search (tests, rules)
