use Rattle.std.proofs.Common.{tests, rules}
use Rattle.dom_data.proofs.attributes.toggle_attribute.Goals as goal

pub returns-then-on-present-clause-answer : goal.returns-then-on-present-clause-answer
returns-then-on-present-clause-answer c = search (tests, rules)

pub returns-then-on-present-clause-toggled : goal.returns-then-on-present-clause-toggled
returns-then-on-present-clause-toggled c = search (tests, rules)

pub returns-then-on-present-clause-whole : goal.returns-then-on-present-clause-whole
returns-then-on-present-clause-whole c = search (tests, rules)

pub returns-in_ok-set_attribute-clause-answer : goal.returns-in_ok-set_attribute-clause-answer
returns-in_ok-set_attribute-clause-answer c = search (tests, rules)

pub returns-in_ok-set_attribute-clause-toggled : goal.returns-in_ok-set_attribute-clause-toggled
returns-in_ok-set_attribute-clause-toggled c = search (tests, rules)

pub returns-in_ok-set_attribute-clause-whole : goal.returns-in_ok-set_attribute-clause-whole
returns-in_ok-set_attribute-clause-whole c = search (tests, rules)

pub returns-in_ok-remove_attribute-clause-whole : goal.returns-in_ok-remove_attribute-clause-whole
returns-in_ok-remove_attribute-clause-whole c = search (tests, rules)
