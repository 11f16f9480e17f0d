use Rattle.std.proofs.Common.{tests, rules}
use Rattle.dom_observe.proofs.transient_registrations.transient_of.Goals as goal

pub returns-in_ok-transient-in-Some : goal.returns-in_ok-transient-in-Some
returns-in_ok-transient-in-Some c = search (tests, rules)

pub returns-in_default : goal.returns-in_default
returns-in_default c = search (tests, rules)
