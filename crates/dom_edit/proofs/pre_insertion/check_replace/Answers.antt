use Rattle.std.proofs.Common.{tests, rules}
use Rattle.dom_edit.proofs.pre_insertion.check_replace.Goals as goal

pub returns : goal.returns
returns c = search (tests, rules)
