use Rattle.std.proofs.Common.{length, ap, arith}
use Rattle.dom_chains.proofs.TableStepLemmas.{items-length}
use Rattle.dom_chains.proofs.chains.Chains.count.Goals as goal

pub returns : goal.returns
returns g c =
    let seats = c.self.inside.table.seats in
    omega (arith, c.len.ensures, seats.ok, items-length c.self.inside.table, ap (λ v. length v.items) c.self.view_is)
