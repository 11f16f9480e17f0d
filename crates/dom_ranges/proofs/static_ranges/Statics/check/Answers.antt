use Rattle.std.proofs.Common.{tests, rules}
use Rattle.dom_ranges.proofs.static_ranges.Statics.check.Goals as goal

pub returns-then-is_of_kind : goal.returns-then-is_of_kind
returns-then-is_of_kind g c = search (tests, rules)

pub returns : goal.returns
returns g c = search (tests, rules)
