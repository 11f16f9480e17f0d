use Rattle.std.proofs.Common.{tests, rules}
use Rattle.dom_c.proofs.records.record_told.Goals as goal

pub returns : goal.returns
returns c = search (tests, rules)
