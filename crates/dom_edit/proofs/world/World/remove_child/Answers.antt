use Rattle.std.proofs.Common.{tests, rules}
use Rattle.dom_edit.proofs.StandByEditsLemmas.{stand-by_remove}
use Rattle.dom_edit.proofs.world.World.remove_child.Goals as goal

pub returns-clause-markers : goal.returns-clause-markers
returns-clause-markers c = stand-by_remove c.args.self.now c.remove_node.new.self c.requires.whole c.remove_node.ensures.whole c.args.child c.in_ok-remove_node.ensures.removed

pub returns-then-ne-clause-allowed : goal.returns-then-ne-clause-allowed
returns-then-ne-clause-allowed c = search (tests, rules)

pub returns-then-ne-clause-removed : goal.returns-then-ne-clause-removed
returns-then-ne-clause-removed c = search (tests, rules)

pub returns-then-ne-clause-markers : goal.returns-then-ne-clause-markers
returns-then-ne-clause-markers c = search (tests, rules)

pub returns-then-ne-clause-refused : goal.returns-then-ne-clause-refused
returns-then-ne-clause-refused c = search (tests, rules)

pub returns-then-ne-clause-whole : goal.returns-then-ne-clause-whole
returns-then-ne-clause-whole c = search (tests, rules)

pub returns-clause-allowed : goal.returns-clause-allowed
returns-clause-allowed c = search (tests, rules)

pub returns-clause-removed : goal.returns-clause-removed
returns-clause-removed c = search (tests, rules)

pub returns-clause-refused : goal.returns-clause-refused
returns-clause-refused c = search (tests, rules)

pub returns-clause-whole : goal.returns-clause-whole
returns-clause-whole c = search (tests, rules)
