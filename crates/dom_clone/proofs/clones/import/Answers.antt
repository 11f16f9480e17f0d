use Rattle.std.proofs.Common.{tests, rules}
use Rattle.dom_clone.proofs.LeavesAllLemmas.{left-same}
use Rattle.dom_clone.proofs.clones.import.Goals as goal

pub returns-then-is_of_kind-clause-allowed : goal.returns-then-is_of_kind-clause-allowed
returns-then-is_of_kind-clause-allowed c = search (tests, rules)

pub returns-then-is_of_kind-clause-number : goal.returns-then-is_of_kind-clause-number
returns-then-is_of_kind-clause-number c = search (tests, rules)

pub returns-then-is_of_kind-clause-imported : goal.returns-then-is_of_kind-clause-imported
returns-then-is_of_kind-clause-imported c = search (tests, rules)

pub returns-then-is_of_kind-clause-refused : goal.returns-then-is_of_kind-clause-refused
returns-then-is_of_kind-clause-refused c = search (tests, rules)

pub returns-then-is_of_kind-clause-left : goal.returns-then-is_of_kind-clause-left
returns-then-is_of_kind-clause-left c = left-same c.args.world.now

pub returns-then-is_of_kind-clause-whole : goal.returns-then-is_of_kind-clause-whole
returns-then-is_of_kind-clause-whole c = search (tests, rules)

pub returns-clause-allowed : goal.returns-clause-allowed
returns-clause-allowed c = search (tests, rules)

pub returns-clause-number : goal.returns-clause-number
returns-clause-number c = search (tests, rules)

pub returns-clause-imported : goal.returns-clause-imported
returns-clause-imported c = search (tests, rules)

pub returns-clause-refused : goal.returns-clause-refused
returns-clause-refused c = search (tests, rules)

pub returns-clause-whole : goal.returns-clause-whole
returns-clause-whole c = search (tests, rules)
