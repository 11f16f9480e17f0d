use Rattle.std.proofs.Common.{tests, rules}
use Rattle.dom_kinds.proofs.names.may_stand_in_doctype_name.Goals as goal

pub returns : goal.returns
returns c = search (tests, rules)
