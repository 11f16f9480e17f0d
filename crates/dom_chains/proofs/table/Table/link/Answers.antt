-- The item comes before the one that was first.
use Rattle.std.proofs.Common.{◌-◌, Some, length, set, ap, ◌∙◌, arith}
use Rattle.std.proofs.lemmas.List.{length-set, map-set}
use Rattle.dom_chains.specs.{declared.table.Seat.Seat, Chained.cover_of, Chained.seat_item, Chained.items_of, Chained.keys_in, Chained.keys_without, Chained.led_back, Chained.links_of, Keyed.covers, Keyed.key_at}
use Rattle.dom_chains.proofs.{CoversLemmas.cover-set, CoversLemmas.item-tells, RechainsLemmas.IsChained-with, RechainsLemmas.first-within, TableStepLemmas.IsChained-keys, TableStepLemmas.first-written, TableStepLemmas.items-length, TableStepLemmas.key-written, TableStepLemmas.keyed-is, TableStepLemmas.nexts-length, TableStepLemmas.prevs-length, TableStepLemmas.without-written}
use Rattle.dom_chains.proofs.table.Table.link.Goals as goal

pub lead_back-requires : goal.lead_back-requires
lead_back-requires g c =
    let has = c.requires.chains in
    rw c.head-next.ensures (first-within (keys_without c.args.id (keys_in c.args.self.now)) has.chain (links_of g.H.Heads.by_key c.args.self.now) has.chained c.args.key)

pub to-requires : goal.to-requires
to-requires g c = omega (arith, c.requires.within, c.requires.chains.chained.few, nexts-length g.H.Heads.by_key c.args.self.now)

pub index_mut-requires : goal.index_mut-requires
index_mut-requires g c =
    omega (arith, c.requires.within, ap (λ v. length v.items) c.lead_back.ensures.same, items-length c.lead_back.new.self, c.lead_back.new.self.seats.ok)

pub begin-requires : goal.begin-requires
begin-requires g c = item-tells (g.H.Heads.by_key c.lead_back.new.self.heads) c.args.key ∙ ap (λ v. covers v.covered c.args.key) c.lead_back.ensures.same ∙ c.requires.covered

pub returns-clause-view : goal.returns-clause-view
returns-clause-view g c =
    let back = c.lead_back.new.self in
    let seat : Seat _ = record { key = c.args.key; item = c.args.item; prev = c.none.result; next = c.head-next.result } in
    keyed-is
    (map-set seat_item back.seats.items c.args.id seat ∙ ap (λ v. set v.items c.args.id (c.args.key, c.args.item)) c.lead_back.ensures.same)
    (ap cover_of c.begin.ensures ∙ cover-set (g.H.Heads.by_key back.heads) c.args.key c.to-2.result (ap (λ v. covers v.covered c.args.key) c.lead_back.ensures.same ∙ c.requires.covered) ∙ ap (λ v. v.covered) c.lead_back.ensures.same)
    (ap (λ n. back.seats.cap - n) (length-set back.seats.items c.args.id seat) ∙ ap (λ v. v.room) c.lead_back.ensures.same)

pub returns-clause-chains : goal.returns-clause-chains
returns-clause-chains g c chain ok =
    let by_key = g.H.Heads.by_key in
    let old = c.args.self.now in
    let back = c.lead_back.new.self in
    let seat : Seat _ = record { key = c.args.key; item = c.args.item; prev = c.none.result; next = c.head-next.result } in
    let l = links_of by_key old in
    let items = set (items_of old) c.args.id (c.args.key, c.args.item) in
    let is = map-set seat_item back.seats.items c.args.id seat ∙ ap (λ v. set v.items c.args.id (c.args.key, c.args.item)) c.lead_back.ensures.same in
    let links = first-written back.seats.items (by_key back.heads) _ l c.args.id c.args.key seat c.none.ensures c.head-next.ensures (c.lead_back.ensures.links ∙ ap (λ o. led_back c.head-next.result o l) c.to.ensures)
    (c.begin.ensures ∙ ap (λ o. set (by_key back.heads) c.args.key (Some o)) c.to-2.ensures) in
    let kept = IsChained-keys (keys_without c.args.id (keys_in old)) (keys_without c.args.id (key_at items)) chain l (without-written (items_of old) c.args.id (c.args.key, c.args.item)) ok in
    rw (is, links)
    (IsChained-with (key_at items) chain l c.args.id c.args.key kept (key-written (items_of old) c.args.id (c.args.key, c.args.item) c.requires.within) c.requires.covered (omega (arith, c.requires.within, prevs-length by_key old), omega (arith, c.requires.within, nexts-length by_key old)))
