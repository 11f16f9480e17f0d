use Rattle.std.proofs.Common.{◌≡◌, true, length, ap, subst, arith}
use Rattle.dom_model.specs.Definitions.{among}
use Rattle.dom_chains.specs.{Chained.items_of, Chained.links_of, Keyed.covers, Keyed.keys_of}
use Rattle.dom_chains.proofs.{TableStepLemmas.nexts-length, HasKeyLemmas.among-covered}
use Rattle.dom_chains.proofs.chains.Chains.state_law.Goals as goal

pub returns-clause-covered : goal.returns-clause-covered
returns-clause-covered g c key =
    subst (λ v. among key (keys_of v.items) ≡ true → covers v.covered key ≡ true) c.self.view_is
    (among-covered (items_of c.self.inside.table) (links_of g.H.Heads.by_key c.self.inside.table) c.self.invariant key)

pub returns-clause-few : goal.returns-clause-few
returns-clause-few g c = omega (arith, c.self.invariant.chained.few, nexts-length g.H.Heads.by_key c.self.inside.table, ap (λ v. length v.items) c.self.view_is)
