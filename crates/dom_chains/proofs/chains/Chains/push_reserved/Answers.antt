-- The item is pushed, and then put into the chain of its key.
use Rattle.std.proofs.Common.{◌++◌, [], ◌∷◌, length, map, set, refl, ap, ◌∙◌, arith}
use Rattle.std.proofs.lemmas.List.{map_push, set_at}
use Rattle.dom_chains.specs.{declared.table.Seat.Seat, Chained.chained_first, Chained.seat_item, Chained.items_of}
use Rattle.dom_chains.proofs.TableStepLemmas.{chains-pushed, items-length}
use Rattle.dom_chains.proofs.chains.Chains.push_reserved.Goals as goal

pub link-requires-clause-chains : goal.link-requires-clause-chains
link-requires-clause-chains g c =
    let seats = c.self.inside.table.seats in
    let seat : Seat _ = record { key = c.args.key; item = c.args.item; prev = c.none.result; next = c.none-2.result } in
    chains-pushed g.H.Heads.by_key c.self.inside.table (record { seats = c.push_reserved.new.self; heads = c.self.inside.table.heads }) refl seat c.len-id.result c.push_reserved.ensures.items c.none.ensures c.none-2.ensures
    (omega (arith, c.len-id.ensures, seats.ok, items-length c.self.inside.table)) (omega (arith, c.requires.few, ap (λ v. length v.items) c.self.view_is)) c.self.invariant

pub invariant_of-self : goal.invariant_of-self
invariant_of-self g c =
    let seats = c.self.inside.table.seats in
    let seat : Seat _ = record { key = c.args.key; item = c.args.item; prev = c.none.result; next = c.none-2.result } in
    let has = chains-pushed g.H.Heads.by_key c.self.inside.table (record { seats = c.push_reserved.new.self; heads = c.self.inside.table.heads }) refl seat c.len-id.result c.push_reserved.ensures.items c.none.ensures c.none-2.ensures
    (omega (arith, c.len-id.ensures, seats.ok, items-length c.self.inside.table)) (omega (arith, c.requires.few, ap (λ v. length v.items) c.self.view_is)) c.self.invariant in
    record { chain = chained_first c.len-id.result c.args.key has.chain; chained = c.link.ensures.chains has.chain has.chained }

pub returns-clause-items : goal.returns-clause-items
returns-clause-items g c =
    let seats = c.self.inside.table.seats in
    let seat : Seat _ = record { key = c.args.key; item = c.args.item; prev = c.none.result; next = c.none-2.result } in
    let items = items_of c.self.inside.table in
    ap (λ v. v.items) c.link.ensures.view
    ∙ ap (λ xs. set (map seat_item xs) c.len-id.result (c.args.key, c.args.item)) c.push_reserved.ensures.items
    ∙ ap (λ xs. set xs c.len-id.result (c.args.key, c.args.item)) (map_push seat_item seats.items seat)
    ∙ set_at items (c.args.key, c.args.item) [] (c.args.key, c.args.item) c.len-id.result (omega (arith, c.len-id.ensures, seats.ok, items-length c.self.inside.table))
    ∙ ap (λ v. v.items ++ (c.args.key, c.args.item) ∷ []) c.self.view_is
