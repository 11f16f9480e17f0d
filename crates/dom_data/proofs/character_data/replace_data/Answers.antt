use Rattle.std.proofs.Common.{tests, rules}
use Rattle.dom_data.proofs.character_data.replace_data.Goals as goal

pub returns-then-offset-data_in-clause-allowed : goal.returns-then-offset-data_in-clause-allowed
returns-then-offset-data_in-clause-allowed c = search (tests, rules)

pub returns-then-offset-data_in-clause-replaced : goal.returns-then-offset-data_in-clause-replaced
returns-then-offset-data_in-clause-replaced c = search (tests, rules)

pub returns-then-offset-data_in-clause-markers : goal.returns-then-offset-data_in-clause-markers
returns-then-offset-data_in-clause-markers c = search (tests, rules)

pub returns-then-offset-data_in-clause-refused : goal.returns-then-offset-data_in-clause-refused
returns-then-offset-data_in-clause-refused c = search (tests, rules)

pub returns-then-offset-data_in-clause-whole : goal.returns-then-offset-data_in-clause-whole
returns-then-offset-data_in-clause-whole c = search (tests, rules)

pub returns-clause-allowed : goal.returns-clause-allowed
returns-clause-allowed c = search (tests, rules)

pub returns-clause-replaced : goal.returns-clause-replaced
returns-clause-replaced c = search (tests, rules)

pub returns-clause-markers : goal.returns-clause-markers
returns-clause-markers c = search (tests, rules)

pub returns-clause-refused : goal.returns-clause-refused
returns-clause-refused c = search (tests, rules)

pub returns-clause-whole : goal.returns-clause-whole
returns-clause-whole c = search (tests, rules)
