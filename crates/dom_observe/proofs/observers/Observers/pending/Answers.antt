use Rattle.std.proofs.Common.{tests, rules}
use Rattle.dom_observe.proofs.observers.Observers.pending.Goals as goal

pub returns : goal.returns
returns c = search (tests, rules)
