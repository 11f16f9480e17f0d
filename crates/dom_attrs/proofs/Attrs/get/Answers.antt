use Rattle.std.proofs.Common.{tests, rules}
use Rattle.dom_attrs.proofs.Attrs.get.Goals as goal

pub returns-in-None : goal.returns-in-None
returns-in-None c = search (tests, rules)

pub returns-in-Some : goal.returns-in-Some
returns-in-Some c = search (tests, rules)
