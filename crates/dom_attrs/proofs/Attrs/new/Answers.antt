use Rattle.std.proofs.Common.{tests, rules}
use Rattle.dom_attrs.proofs.AttributeLemmas.{IsDistinct-nil}
use Rattle.dom_attrs.proofs.Attrs.new.Goals as goal

pub invariant_of-result : goal.invariant_of-result
invariant_of-result c = IsDistinct-nil _

pub returns : goal.returns
returns c = search (tests, rules)
