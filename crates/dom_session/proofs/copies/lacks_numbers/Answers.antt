use Rattle.std.proofs.Common.{tests, rules}
use Rattle.dom_session.proofs.copies.lacks_numbers.Goals as goal

pub returns-then-live-numbers : goal.returns-then-live-numbers
returns-then-live-numbers c = search (tests, rules)

pub returns-else-live-numbers : goal.returns-else-live-numbers
returns-else-live-numbers c = search (tests, rules)
