use Rattle.std.proofs.Common.{◌-◌, ◌++◌, true, Option, ℕ, length, replicate, is_some, ap, sym, ◌∙◌}
use Rattle.std.proofs.lemmas.List.{length-map}
use Rattle.dom_chains.specs.{Chained.cover_of, Keyed.covered_to}
use Rattle.dom_chains.proofs.{CoversLemmas.cover-more, TableStepLemmas.keyed-is}
use Rattle.dom_chains.proofs.chains.Chains+T+HeadsInPages.cover.Goals as goal

pub returns-clause-ok : goal.returns-clause-ok
returns-clause-ok g c =
    let heads = c.self.inside.table.heads.heads.items in
    keyed-is (ap (λ v. v.items) c.self.view_is)
    (ap cover_of c.in_ok-cover.ensures.ok ∙ cover-more heads (c.args.made - length heads)
    ∙ ap (λ n. cover_of heads ++ replicate (c.args.made - n) true) (sym (length-map heads (is_some {T = Option ℕ})))
    ∙ ap (λ v. covered_to c.args.made v.covered) c.self.view_is)
    (ap (λ v. v.room) c.self.view_is)
