use Rattle.std.proofs.Common.{tests, rules}
use Rattle.dom_c.proofs.rows.hp_row_text.Goals as goal

pub returns-then-not-handle-clause-status : goal.returns-then-not-handle-clause-status
returns-then-not-handle-clause-status c = search (tests, rules)

pub returns-then-not-handle-clause-text : goal.returns-then-not-handle-clause-text
returns-then-not-handle-clause-text c = search (tests, rules)

pub returns-then-kept-clause-status : goal.returns-then-kept-clause-status
returns-then-kept-clause-status c = search (tests, rules)

pub returns-then-kept-clause-text : goal.returns-then-kept-clause-text
returns-then-kept-clause-text c = search (tests, rules)

pub returns-clause-status : goal.returns-clause-status
returns-clause-status c = search (tests, rules)

pub returns-clause-text : goal.returns-clause-text
returns-clause-text c = search (tests, rules)
