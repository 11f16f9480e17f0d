use Rattle.std.proofs.Common.{tests, rules}
use Rattle.dom_edit.proofs.world.World.append.Goals as goal

pub returns-clause-allowed : goal.returns-clause-allowed
returns-clause-allowed c = search (tests, rules)

pub returns-clause-appended : goal.returns-clause-appended
returns-clause-appended c = search (tests, rules)

pub returns-clause-markers : goal.returns-clause-markers
returns-clause-markers c = search (tests, rules)

pub returns-clause-refused : goal.returns-clause-refused
returns-clause-refused c = search (tests, rules)

pub returns-clause-whole : goal.returns-clause-whole
returns-clause-whole c = search (tests, rules)
