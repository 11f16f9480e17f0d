-- One link is written, or the head of the key.
use Rattle.std.proofs.Common.{◌≡◌, ◌-◌, Some, None, sym, refl, ap, ◌∙◌}
use Rattle.std.proofs.lemmas.List.{length-set, map-set}
use Rattle.dom_chains.specs.Chained.{cover_of, seat_item}
use Rattle.dom_chains.proofs.{CoversLemmas.cover-set, CoversLemmas.item-tells, TableStepLemmas.keyed-is, TableStepLemmas.links-are, TableStepLemmas.map-set_same}
use Rattle.dom_chains.proofs.table.Table.lead_on.Goals as goal

pub begin-requires : goal.begin-requires
begin-requires g c = item-tells (g.H.Heads.by_key c.args.self.now.heads) c.args.key ∙ c.requires.covered

pub returns-in-Some-clause-same : goal.returns-in-Some-clause-same
returns-in-Some-clause-same g c =
    let seats = c.args.self.now.seats.items in
    let seat = c.index_mut-seat.result.now in
    keyed-is
    (map-set_same seat_item seats c.in-Some.prev seat (record seat { next = c.args.next }) c.index_mut-seat.ensures.value refl)
    refl (ap (λ n. c.args.self.now.seats.cap - n) (length-set seats c.in-Some.prev (record seat { next = c.args.next })))

pub returns-in-Some-clause-links : goal.returns-in-Some-clause-links
returns-in-Some-clause-links g c =
    let seats = c.args.self.now.seats.items in
    let seat = c.index_mut-seat.result.now in
    let is : c.args.prev ≡ Some c.in-Some.prev = sym c.get.ensures ∙ c.in-Some.is in
    rw is
    (links-are
    (map-set_same (λ s. s.prev) seats c.in-Some.prev seat (record seat { next = c.args.next }) c.index_mut-seat.ensures.value refl)
    (map-set (λ s. s.next) seats c.in-Some.prev (record seat { next = c.args.next })) refl)

pub returns-in-None-clause-same : goal.returns-in-None-clause-same
returns-in-None-clause-same g c =
    keyed-is refl (ap cover_of c.begin.ensures ∙ cover-set (g.H.Heads.by_key c.args.self.now.heads) c.args.key c.args.next c.requires.covered) refl

pub returns-in-None-clause-links : goal.returns-in-None-clause-links
returns-in-None-clause-links g c =
    let is : c.args.prev ≡ None = sym c.get.ensures ∙ c.in-None.is in
    rw is (links-are refl refl c.begin.ensures)
