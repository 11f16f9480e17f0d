use Rattle.std.proofs.Common.{sym}
use Rattle.dom_edit.proofs.world.World.replace.Goals as goal

pub check_and_replace-requires-clause-whole : goal.check_and_replace-requires-clause-whole
check_and_replace-requires-clause-whole c = rw (sym c.cache_check.ensures) at c.requires.whole

pub check_and_replace-requires-clause-parent_held : goal.check_and_replace-requires-clause-parent_held
check_and_replace-requires-clause-parent_held c = rw (sym c.cache_check.ensures) at c.requires.parent_held

pub check_and_replace-requires-clause-node_held : goal.check_and_replace-requires-clause-node_held
check_and_replace-requires-clause-node_held c = rw (sym c.cache_check.ensures) at c.requires.node_held

pub check_and_replace-requires-clause-child_held : goal.check_and_replace-requires-clause-child_held
check_and_replace-requires-clause-child_held c = rw (sym c.cache_check.ensures) at c.requires.child_held

pub returns-clause-allowed : goal.returns-clause-allowed
returns-clause-allowed c = rw c.cache_check.ensures at c.check_and_replace.ensures.allowed

pub returns-clause-replaced : goal.returns-clause-replaced
returns-clause-replaced c = rw c.cache_check.ensures at c.check_and_replace.ensures.replaced

pub returns-clause-markers : goal.returns-clause-markers
returns-clause-markers c = rw c.cache_check.ensures at c.check_and_replace.ensures.markers

pub returns-clause-refused : goal.returns-clause-refused
returns-clause-refused c = rw c.cache_check.ensures at c.check_and_replace.ensures.refused

pub returns-clause-kept : goal.returns-clause-kept
returns-clause-kept c = rw c.cache_check.ensures at c.check_and_replace.ensures.kept

pub returns-clause-whole : goal.returns-clause-whole
returns-clause-whole c = c.check_and_replace.ensures.whole
