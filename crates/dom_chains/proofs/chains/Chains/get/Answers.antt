use Rattle.std.proofs.Common.{slice_get, sym, ap, ◌∙◌, arith}
use Rattle.std.proofs.lemmas.{Option.slice_get_past}
use Rattle.dom_chains.specs.Chained.{items_of}
use Rattle.dom_chains.proofs.TableStepLemmas.{items-length}
use Rattle.dom_chains.proofs.chains.Chains.get.Goals as goal

pub seat-seat-requires : goal.seat-seat-requires
seat-seat-requires g c =
    let seats = c.self.inside.table.seats in
    omega (arith, c.if-id-len.true, c.len.ensures, seats.ok, items-length c.self.inside.table)

pub returns-then-id-len : goal.returns-then-id-len
returns-then-id-len g c = sym c.seat-seat.ensures.item ∙ ap (λ v. slice_get v.items c.args.id) c.self.view_is

pub returns-else-id-len : goal.returns-else-id-len
returns-else-id-len g c =
    let seats = c.self.inside.table.seats in
    sym (slice_get_past (items_of c.self.inside.table) c.args.id (omega (arith, c.if-id-len.false, c.len.ensures, seats.ok, items-length c.self.inside.table))) ∙ ap (λ v. slice_get v.items c.args.id) c.self.view_is
