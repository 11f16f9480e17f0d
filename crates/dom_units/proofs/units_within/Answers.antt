use Rattle.std.proofs.Common.{tests, rules}
use Rattle.dom_units.proofs.units_within.Goals as goal

pub returns : goal.returns
returns c = search (tests, rules)
