use Rattle.std.proofs.Common.{length, true, sym, ap, ◌∙◌}
use Rattle.std.proofs.lemmas.List.{length-replicate}
use Rattle.dom_chains.proofs.CoversLemmas.{cover-all}
use Rattle.dom_chains.proofs.chains.Chains+T+HeadsInList.key_count.Goals as goal

pub returns : goal.returns
returns g c =
    let firsts = c.self.inside.table.heads.heads.items in
    c.count.ensures ∙ sym (ap length (cover-all firsts) ∙ length-replicate (length firsts) true) ∙ ap (λ v. length v.covered) c.self.view_is
