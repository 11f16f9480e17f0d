-- One link is written, if any.
use Rattle.std.proofs.Common.{◌≡◌, ◌-◌, Some, sym, refl, ap, ◌∙◌}
use Rattle.std.proofs.lemmas.List.{length-set, map-set}
use Rattle.dom_chains.specs.Chained.{seat_item}
use Rattle.dom_chains.proofs.TableStepLemmas.{keyed-is, links-are, map-set_same}
use Rattle.dom_chains.proofs.table.Table.lead_back.Goals as goal

pub returns-in-Some-clause-same : goal.returns-in-Some-clause-same
returns-in-Some-clause-same g c =
    let seats = c.args.self.now.seats.items in
    let seat = c.index_mut-seat.result.now in
    keyed-is
    (map-set_same seat_item seats c.in-Some.next seat (record seat { prev = c.args.prev }) c.index_mut-seat.ensures.value refl)
    refl (ap (λ n. c.args.self.now.seats.cap - n) (length-set seats c.in-Some.next (record seat { prev = c.args.prev })))

pub returns-in-Some-clause-links : goal.returns-in-Some-clause-links
returns-in-Some-clause-links g c =
    let seats = c.args.self.now.seats.items in
    let seat = c.index_mut-seat.result.now in
    let is : c.args.next ≡ Some c.in-Some.next = sym c.get.ensures ∙ c.in-Some.is in
    rw is
    (links-are
    (map-set (λ s. s.prev) seats c.in-Some.next (record seat { prev = c.args.prev }))
    (map-set_same (λ s. s.next) seats c.in-Some.next seat (record seat { prev = c.args.prev }) c.index_mut-seat.ensures.value refl) refl)
