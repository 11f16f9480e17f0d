use Rattle.std.proofs.Common.{◌≡◌, false, Some, IfSome, IfNone, subst, ◌∙◌}
use Rattle.dom_model.specs.Definitions.{among}
use Rattle.dom_chains.specs.{Chained.items_of, Chained.links_of, Keyed.key_at, Keyed.keys_of}
use Rattle.dom_chains.proofs.HasKeyLemmas.{first-told, none-told}
use Rattle.dom_chains.proofs.chains.Chains.first.Goals as goal

pub returns-clause-some : goal.returns-clause-some
returns-clause-some g c =
    subst (λ v. IfSome c.get.result (λ id. key_at v.items id ≡ Some c.args.key)) c.self.view_is
    (first-told (items_of c.self.inside.table) (links_of g.H.Heads.by_key c.self.inside.table) c.self.invariant c.args.key c.get.result (c.get.ensures ∙ c.head.ensures))

pub returns-clause-none : goal.returns-clause-none
returns-clause-none g c =
    subst (λ v. IfNone c.get.result (among c.args.key (keys_of v.items) ≡ false)) c.self.view_is
    (none-told (items_of c.self.inside.table) (links_of g.H.Heads.by_key c.self.inside.table) c.self.invariant c.args.key c.get.result (c.get.ensures ∙ c.head.ensures))
