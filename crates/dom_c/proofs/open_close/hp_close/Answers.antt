use Rattle.std.proofs.Common.{tests, rules}
use Rattle.dom_c.proofs.open_close.hp_close.Goals as goal

pub returns-then-not-handle : goal.returns-then-not-handle
returns-then-not-handle c = search (tests, rules)

pub returns : goal.returns
returns c = search (tests, rules)
