-- A key that no item has is at no head.
use Rattle.std.proofs.Common.{false, None, is_some, set, ap, ◌∙◌}
use Rattle.std.proofs.lemmas.List.{map-set}
use Rattle.dom_model.specs.Definitions.{among}
use Rattle.dom_chains.specs.{Chained.items_of, Chained.keys_in, Keyed.Keyed, Keyed.keys_of}
use Rattle.dom_chains.proofs.{CoversLemmas.head-forgotten, TableStepLemmas.IsChained-heads, HasKeyLemmas.none-head}
use Rattle.dom_chains.proofs.chains.Chains+T+HeadsInPages.forget.Goals as goal

pub invariant_of-self : goal.invariant_of-self
invariant_of-self g c =
    let has = c.self.invariant in
    let heads = c.self.inside.table.heads.heads.items in
    let none = none-head (items_of c.self.inside.table) _ has c.args.key (ap (λ v. among c.args.key (keys_of v.items)) c.self.view_is ∙ c.requires) in
    rw c.forget.ensures (record { chain = has.chain; chained = IsChained-heads (keys_in c.self.inside.table) has.chain _ has.chained (set heads c.args.key None) (head-forgotten heads c.args.key none) })

pub returns : goal.returns
returns g c =
    rw (c.forget.ensures, map-set is_some c.self.inside.table.heads.heads.items c.args.key None) (ap (λ (v : Keyed _). record v { covered = set v.covered c.args.key false }) c.self.view_is)
