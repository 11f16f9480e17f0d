-- The item is written where it is, or in the chain of its new key.
use Rattle.std.proofs.Common.{◌≡◌, ◌-◌, ◌<◌, Some, length, map, set, option_map, sym, refl, ap, ◌∙◌, arith}
use Rattle.std.proofs.lemmas.{Bool.eq-eqb, Bool.ne_eqb, List.length-set, List.map-set, Option.some_pair_parts}
use Rattle.dom_chains.specs.{Chained.seat_item, Chained.items_of, Chained.keys_in, Chained.links_of, Chained.unchained, Keyed.covers, Keyed.key_at}
use Rattle.dom_chains.proofs.TableStepLemmas.{IsChained-keys, item-read, items-length, keyed-is, keys-kept, links-are, map-set_same}
use Rattle.dom_chains.proofs.table.Table.place.Goals as goal

pub index_mut-seat-requires : goal.index_mut-seat-requires
index_mut-seat-requires g c = omega (arith, c.requires.within, items-length c.args.self.now, c.args.self.now.seats.ok)

pub returns-then-seat-key-clause-view : goal.returns-then-seat-key-clause-view
returns-then-seat-key-clause-view g c =
    let seats = c.args.self.now.seats.items in
    let seat = c.index_mut-seat.result.now in
    let within : c.args.id < length seats = omega (arith, c.requires.within, items-length c.args.self.now) in
    let key : seat.key ≡ c.args.key =
    (some_pair_parts seat.key c.seat.result.key seat.item c.seat.result.item (sym (item-read seats c.args.id seat c.index_mut-seat.ensures.value within) ∙ c.seat.ensures.item)).0 ∙ c.if-seat-key.true in
    keyed-is
    (map-set seat_item seats c.args.id (record seat { item = c.args.item }) ∙ ap (λ k. set (items_of c.args.self.now) c.args.id (k, c.args.item)) key)
    refl (ap (λ n. c.args.self.now.seats.cap - n) (length-set seats c.args.id (record seat { item = c.args.item })))

pub returns-then-seat-key-clause-chains : goal.returns-then-seat-key-clause-chains
returns-then-seat-key-clause-chains g c chain ok =
    let by_key = g.H.Heads.by_key in
    let old = c.args.self.now in
    let seats = old.seats.items in
    let seat = c.index_mut-seat.result.now in
    let within : c.args.id < length seats = omega (arith, c.requires.within, items-length old) in
    let key : seat.key ≡ c.args.key =
    (some_pair_parts seat.key c.seat.result.key seat.item c.seat.result.item (sym (item-read seats c.args.id seat c.index_mut-seat.ensures.value within) ∙ c.seat.ensures.item)).0 ∙ c.if-seat-key.true in
    let from : keys_in old c.args.id ≡ Some c.seat.result.key = ap (option_map (λ it. it.0)) c.seat.ensures.item in
    let written = record seat { item = c.args.item } in
    let items : map seat_item (set seats c.args.id written) ≡ set (items_of old) c.args.id (c.args.key, c.args.item) =
    map-set seat_item seats c.args.id written ∙ ap (λ k. set (items_of old) c.args.id (k, c.args.item)) key in
    let links = links-are (map-set_same (λ s. s.prev) seats c.args.id seat written c.index_mut-seat.ensures.value refl) (map-set_same (λ s. s.next) seats c.args.id seat written c.index_mut-seat.ensures.value refl) (λ i. by_key old.heads) in
    rw (from, eq-eqb c.seat.result.key c.args.key c.if-seat-key.true, items, links)
    (IsChained-keys (keys_in old) (key_at (set (items_of old) c.args.id (c.args.key, c.args.item))) chain (links_of by_key old)
    (keys-kept (items_of old) c.args.id (c.args.key, c.args.item) (from ∙ ap Some c.if-seat-key.true) c.requires.within) ok)

pub link-requires-clause-within : goal.link-requires-clause-within
link-requires-clause-within g c = omega (arith, c.requires.within, ap (λ v. length v.items) c.unlink.ensures.same)

pub link-requires-clause-covered : goal.link-requires-clause-covered
link-requires-clause-covered g c = ap (λ v. covers v.covered c.args.key) c.unlink.ensures.same ∙ c.requires.covered

pub link-requires-clause-chains : goal.link-requires-clause-chains
link-requires-clause-chains g c =
    let has = c.requires.chains in
    let ok = c.unlink.ensures.chains has.chain has.chained in
    record {
      chain = unchained c.args.id has.chain;
      chained = rw (ap (λ v. v.items) c.unlink.ensures.same) ok;
    }

pub returns-else-seat-key-clause-chains : goal.returns-else-seat-key-clause-chains
returns-else-seat-key-clause-chains g c chain ok =
    let from : keys_in c.args.self.now c.args.id ≡ Some c.seat.result.key = ap (option_map (λ it. it.0)) c.seat.ensures.item in
    rw (from, ne_eqb c.seat.result.key c.args.key c.if-seat-key.false)
    (c.link.ensures.chains (unchained c.args.id chain) (rw (ap (λ v. v.items) c.unlink.ensures.same) (c.unlink.ensures.chains chain ok)))
