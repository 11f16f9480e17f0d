use Rattle.std.proofs.Common.{tests, rules}
use Rattle.dom_traverse.proofs.iterator.NodeIterator.removing.Goals as goal

pub leave-requires-clause-inside : goal.leave-requires-clause-inside
leave-requires-clause-inside g c = search (tests, rules)
