use Rattle.std.proofs.Common.{length, set, ap, ◌∙◌, arith}
use Rattle.dom_chains.specs.{Chained.keys_in, Chained.moved, Keyed.Keyed, Keyed.covers}
use Rattle.dom_chains.proofs.chains.Chains.place.Goals as goal

pub place-requires-clause-within : goal.place-requires-clause-within
place-requires-clause-within g c = omega (arith, c.requires.within, ap (λ v. length v.items) c.self.view_is)

pub place-requires-clause-covered : goal.place-requires-clause-covered
place-requires-clause-covered g c = ap (λ v. covers v.covered c.args.key) c.self.view_is ∙ c.requires.covered

pub invariant_of-self : goal.invariant_of-self
invariant_of-self g c =
    let has = c.self.invariant in
    record { chain = moved c.args.id (keys_in c.self.inside.table c.args.id) c.args.key has.chain; chained = c.place.ensures.chains has.chain has.chained }

pub returns : goal.returns
returns g c = c.place.ensures.view ∙ ap (λ (v : Keyed _). record v { items = set v.items c.args.id (c.args.key, c.args.item) }) c.self.view_is
