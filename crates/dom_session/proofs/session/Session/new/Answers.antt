use Rattle.std.proofs.Common.{tests, rules}
use Rattle.dom_session.proofs.session.Session.new.Goals as goal

pub returns-clause-first : goal.returns-clause-first
returns-clause-first c = search (tests, rules)

pub returns-clause-bounds : goal.returns-clause-bounds
returns-clause-bounds c = search (tests, rules)

pub returns-clause-open : goal.returns-clause-open
returns-clause-open c = search (tests, rules)
