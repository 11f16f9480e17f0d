use Rattle.std.proofs.Common.{tests, rules}
use Rattle.dom_edit.proofs.pre_insertion.kind_at.Goals as goal

pub returns : goal.returns
returns c test = search (tests, rules)
