-- Each step asks one item of the key.
use Rattle.std.proofs.Common.{◌≡◌, option_map, refl, sym, ap, subst, ◌∙◌}
use Rattle.std.specs.List.{list_any}
use Rattle.std.proofs.lemmas.Option.{same_Some}
use Rattle.dom_chains.specs.{Chained.items_of, Chained.keys_in, Chained.links_of, Keyed.passes_at}
use Rattle.dom_chains.proofs.{AllItemsLemmas.any-none, AllItemsLemmas.any-one, AllItemsLemmas.key-within, ChainWalkLemmas.asked-none, ChainWalkLemmas.asked-on, ChainWalkLemmas.walk-end, ChainWalkLemmas.walk-key, ChainWalkLemmas.walk-start}
use Rattle.dom_chains.proofs.chains.Chains.any_at.Goals as goal

pub loop-id-init : goal.loop-id-init
loop-id-init g c =
    let t = c.self.inside.table in
    walk-start (keys_in t) c.args.key (links_of g.H.Heads.by_key t) c.head-here.result _ c.self.invariant c.head-here.ensures (asked-none c.args.key (items_of t) _)

pub seat-seat-requires : goal.seat-seat-requires
seat-seat-requires g c =
    let t = c.self.inside.table in
    key-within (items_of t) c.in-Some.id c.args.key (walk-key (keys_in t) c.args.key (links_of g.H.Heads.by_key t) c.loop-id.here _ c.loop-id.invariant c.in-Some.id (sym c.get.ensures ∙ c.in-Some.is))

pub returns-then-test : goal.returns-then-test
returns-then-test g c says told =
    let t = c.self.inside.table in
    let key = walk-key (keys_in t) c.args.key (links_of g.H.Heads.by_key t) c.loop-id.here _ c.loop-id.invariant c.in-Some.id (sym c.get.ensures ∙ c.in-Some.is) in
    let has : c.seat-seat.result.key ≡ c.args.key = same_Some _ _ (sym (ap (option_map (λ it. it.0)) c.seat-seat.ensures.item) ∙ key) in
    sym (any-one c.args.key says (items_of t) c.in-Some.id (c.seat-seat.result.key, c.seat-seat.result.item) c.seat-seat.ensures.item has (sym (told _ _ c.test.ensures) ∙ c.if-test.true))
    ∙ ap (λ v. list_any (passes_at c.args.key says) v.items) c.self.view_is

pub loop-id-preserved : goal.loop-id-preserved
loop-id-preserved g c =
    let t = c.self.inside.table in
    rw c.seat-seat.ensures.next (asked-on c.args.key (items_of t) _ (links_of g.H.Heads.by_key t) c.loop-id.here c.loop-id.invariant c.in-Some.id (sym c.get.ensures ∙ c.in-Some.is) (c.seat-seat.result.key, c.seat-seat.result.item) c.seat-seat.ensures.item
    (subst (λ b. goal.F-post g c.args.test c.seat-seat.result.item b) c.if-test.false c.test.ensures)).0

pub loop-id-smaller : goal.loop-id-smaller
loop-id-smaller g c =
    let t = c.self.inside.table in
    rw c.seat-seat.ensures.next (asked-on c.args.key (items_of t) _ (links_of g.H.Heads.by_key t) c.loop-id.here c.loop-id.invariant c.in-Some.id (sym c.get.ensures ∙ c.in-Some.is) (c.seat-seat.result.key, c.seat-seat.result.item) c.seat-seat.ensures.item
    (subst (λ b. goal.F-post g c.args.test c.seat-seat.result.item b) c.if-test.false c.test.ensures)).1

pub returns : goal.returns
returns g c says told =
    let t = c.self.inside.table in
    sym (any-none c.args.key says (items_of t) (λ id it at has.
    sym (told _ _ (walk-end (keys_in t) c.args.key (links_of g.H.Heads.by_key t) c.loop-id.here _ c.loop-id.invariant (sym c.get.ensures ∙ c.in_default.is) id it at has refl))))
    ∙ ap (λ v. list_any (passes_at c.args.key says) v.items) c.self.view_is
