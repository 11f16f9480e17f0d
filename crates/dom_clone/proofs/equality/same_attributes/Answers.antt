use Rattle.std.proofs.Common.{tests, rules}
use Rattle.dom_clone.proofs.equality.same_attributes.Goals as goal

pub returns : goal.returns
returns c = search (tests, rules)
