use Rattle.std.proofs.Common.{is_some, ap, ◌∙◌}
use Rattle.dom_chains.specs.Keyed.{covers}
use Rattle.dom_chains.proofs.CoversLemmas.{item-tells}
use Rattle.dom_chains.proofs.chains.Chains.is_covered.Goals as goal

pub returns : goal.returns
returns g c = c.is_some.ensures ∙ ap is_some c.first.ensures ∙ item-tells (g.H.Heads.by_key c.self.inside.table.heads) c.args.key ∙ ap (λ v. covers v.covered c.args.key) c.self.view_is
