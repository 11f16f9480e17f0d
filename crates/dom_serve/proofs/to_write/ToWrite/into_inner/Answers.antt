use Rattle.std.proofs.Common.{tests, rules}
use Rattle.dom_serve.proofs.to_write.ToWrite.into_inner.Goals as goal

pub returns : goal.returns
returns g c = search (tests, rules)
