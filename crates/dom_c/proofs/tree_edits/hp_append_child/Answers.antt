use Rattle.std.proofs.Common.{tests, rules}
use Rattle.dom_c.proofs.tree_edits.hp_append_child.Goals as goal

pub returns : goal.returns
returns c = search (tests, rules)
