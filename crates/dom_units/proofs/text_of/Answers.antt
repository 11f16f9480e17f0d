use Rattle.std.proofs.Common.{tests, rules}
use Rattle.dom_units.proofs.text_of.Goals as goal

pub returns : goal.returns
returns c = search (tests, rules)
