use Rattle.std.proofs.Common.{tests, rules}
use Rattle.dom_observe.proofs.options.resolve_options.Goals as goal

pub returns-then-not-options : goal.returns-then-not-options
returns-then-not-options c = search (tests, rules)

pub returns-then-not-options-2 : goal.returns-then-not-options-2
returns-then-not-options-2 c = search (tests, rules)

pub returns-then-not-options-3 : goal.returns-then-not-options-3
returns-then-not-options-3 c = search (tests, rules)

pub returns : goal.returns
returns c = search (tests, rules)
