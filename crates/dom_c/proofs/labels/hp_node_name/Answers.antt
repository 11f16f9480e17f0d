use Rattle.std.proofs.Common.{tests, rules}
use Rattle.dom_c.proofs.labels.hp_node_name.Goals as goal

pub returns-then-not-handle-clause-status : goal.returns-then-not-handle-clause-status
returns-then-not-handle-clause-status c = search (tests, rules)

pub returns-then-not-handle-clause-name : goal.returns-then-not-handle-clause-name
returns-then-not-handle-clause-name c = search (tests, rules)

pub returns-then-kept-clause-status : goal.returns-then-kept-clause-status
returns-then-kept-clause-status c = search (tests, rules)

pub returns-then-kept-clause-name : goal.returns-then-kept-clause-name
returns-then-kept-clause-name c = search (tests, rules)

pub returns-clause-status : goal.returns-clause-status
returns-clause-status c = search (tests, rules)

pub returns-clause-name : goal.returns-clause-name
returns-clause-name c = search (tests, rules)
