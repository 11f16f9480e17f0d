-- The last item is placed at the number, and is then taken out of its chain and cut off.
use Rattle.std.proofs.Common.{◌≡◌, ◌-◌, Some, None, IfSome, length, map, take, slice_get, swap_remove, Option, option_map, refl, ap, sym, ◌∙◌, arith}
use Rattle.std.proofs.lemmas.List.{length-set, take-map}
use Rattle.dom_chains.specs.Chained.{seat_item, items_of, keys_in, links_of, moved, unchained}
use Rattle.dom_chains.proofs.{RechainsLemmas.covered, RechainsLemmas.in-chain, TableStepLemmas.chains-cut, TableStepLemmas.items-length, TableStepLemmas.swapped-last}
use Rattle.dom_chains.proofs.chains.Chains.swap_remove.Goals as goal

-- of whatever item there is
each : {A : Type 0} {P : A → Type 0} (o : Option A) → ((x : A) → P x) → IfSome o P
each None f = tt
each (Some x) f = f x

pub place-requires-clause-covered : goal.place-requires-clause-covered
place-requires-clause-covered g c =
    let has = c.self.invariant in
    let t = c.self.inside.table in
    let l = links_of g.H.Heads.by_key t in
    let last = c.len-last.result - 1 in
    covered (keys_in t) has.chain l has.chained last c.seat-moved.result.key
    (omega (arith, in-chain (keys_in t) has.chain l has.chained last c.seat-moved.result.key (ap (option_map (λ it. it.0)) c.seat-moved.ensures.item)))

pub unlink-requires-clause-chains : goal.unlink-requires-clause-chains
unlink-requires-clause-chains g c =
    let has = c.self.invariant in
    record { chain = moved c.args.id (keys_in c.self.inside.table c.args.id) c.seat-moved.result.key has.chain; chained = c.place.ensures.chains has.chain has.chained }

pub invariant_of-self : goal.invariant_of-self
invariant_of-self g c =
    let has = c.self.invariant in
    let t = c.self.inside.table in
    let last = c.len-last.result - 1 in
    let long : length (items_of c.unlink.new.self) ≡ length (items_of t) =
    ap (λ v. length v.items) (c.unlink.ensures.same ∙ c.place.ensures.view) ∙ length-set (items_of t) c.args.id (c.seat-moved.result.key, c.seat-moved.result.item) in
    let chain = moved c.args.id (keys_in t c.args.id) c.seat-moved.result.key has.chain in
    chains-cut g.H.Heads.by_key c.unlink.new.self (record { seats = c.truncate.new.self; heads = c.unlink.new.self.heads }) refl last c.truncate.ensures.items
    (omega (arith, long, c.requires, ap (λ v. length v.items) c.self.view_is, items-length t, c.len-last.ensures, t.seats.ok))
    (record { chain = unchained last chain; chained = rw (ap (λ v. v.items) c.unlink.ensures.same) (c.unlink.ensures.chains chain (c.place.ensures.chains has.chain has.chained)) })

pub returns-clause-items : goal.returns-clause-items
returns-clause-items g c =
    let t = c.self.inside.table in
    let last = c.len-last.result - 1 in
    each (slice_get c.args.self.now.items c.args.id) (λ it.
    ap (map seat_item) c.truncate.ensures.items
    ∙ sym (take-map seat_item last c.unlink.new.self.seats.items)
    ∙ ap (λ v. take last v.items) (c.unlink.ensures.same ∙ c.place.ensures.view)
    ∙ swapped-last (items_of t) c.args.id last (c.seat-moved.result.key, c.seat-moved.result.item) it (omega (arith, c.requires, ap (λ v. length v.items) c.self.view_is, items-length t, c.len-last.ensures, t.seats.ok)) c.seat-moved.ensures.item
    ∙ ap (λ v. swap_remove v.items c.args.id it) c.self.view_is)
