use Rattle.std.proofs.Common.{tests, rules}
use Rattle.dom_c.proofs.handle.Handle.take.Goals as goal

pub returns-then-not-self : goal.returns-then-not-self
returns-then-not-self c = search (tests, rules)

pub returns : goal.returns
returns c = search (tests, rules)
