use Rattle.std.proofs.Common.{tests, rules}
use Rattle.dom_observe.proofs.registration.Registration.is_own.Goals as goal

pub returns-then-eq-2 : goal.returns-then-eq-2
returns-then-eq-2 c = search (tests, rules)

pub returns-else-eq-2 : goal.returns-else-eq-2
returns-else-eq-2 c = search (tests, rules)

pub returns-else-eq : goal.returns-else-eq
returns-else-eq c = search (tests, rules)
