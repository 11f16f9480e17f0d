use Rattle.std.proofs.Common.{◌∙◌}
use Rattle.dom_chains.proofs.HasKeyLemmas.{has-told}
use Rattle.dom_chains.proofs.chains.Chains.has.Goals as goal

pub returns : goal.returns
returns g c = c.is_some.ensures ∙ has-told c.args.self.now.items c.args.key c.first.result c.first.ensures.some c.first.ensures.none
