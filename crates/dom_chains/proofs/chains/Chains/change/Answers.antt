-- Each step changes one item of the key.
use Rattle.std.proofs.Common.{◌≡◌, ℕ, None, set, sym, ap, subst, ◌∙◌}
use Rattle.dom_chains.specs.{Chained.items_of, Chained.keys_in, Chained.links_of, Keyed.Keyed, Keyed.covers}
use Rattle.dom_chains.proofs.{AllItemsLemmas.key-within, ChainWalkLemmas.Changed, ChainWalkLemmas.Walks, ChainWalkLemmas.changed-all, ChainWalkLemmas.changed-none, ChainWalkLemmas.changed-on, ChainWalkLemmas.stands-here, ChainWalkLemmas.stands-key, ChainWalkLemmas.walk-end, ChainWalkLemmas.walk-key, ChainWalkLemmas.walk-start}
use Rattle.dom_chains.proofs.chains.Chains.change.Goals as goal

pub loop-id-init : goal.loop-id-init
loop-id-init g c =
    let by_key = g.H.Heads.by_key in
    let t = c.self.inside.table in
    let changed = g.C.Change.changed c.args.change.now in
    record {
      walk = subst (λ v. Walks (keys_in t) c.args.key (links_of by_key t) c.head-here.result (Changed c.args.key changed v.items (items_of t))) c.self.view_is
          (walk-start (keys_in t) c.args.key (links_of by_key t) c.head-here.result (Changed c.args.key changed (items_of t) (items_of t)) c.self.invariant c.head-here.ensures (changed-none c.args.key changed (items_of t)));
      same = ap (λ (v : Keyed _). record v { items = items_of t }) (sym c.self.view_is);
    }

pub seat-seat-requires : goal.seat-seat-requires
seat-seat-requires g c =
    let t = c.loop-id.self-inside.table in
    key-within (items_of t) c.in-Some.id c.args.key (walk-key (keys_in t) c.args.key (links_of g.H.Heads.by_key t) c.loop-id.here _ c.loop-id.invariant.walk c.in-Some.id (sym c.get.ensures ∙ c.in-Some.is))

pub apply-to-requires : goal.apply-to-requires
apply-to-requires g c =
    let t = c.loop-id.self-inside.table in
    (c.requires c.in-Some.id (c.seat-seat.result.key, c.seat-seat.result.item) (stands-here c.args.key (g.C.Change.changed c.args.change.now) c.args.self.now.items (items_of t) (links_of g.H.Heads.by_key t) c.loop-id.here c.loop-id.invariant.walk c.in-Some.id (sym c.get.ensures ∙ c.in-Some.is) (c.seat-seat.result.key, c.seat-seat.result.item) c.seat-seat.ensures.item)
    (stands-key c.args.key (g.C.Change.changed c.args.change.now) c.args.self.now.items (items_of t) (links_of g.H.Heads.by_key t) c.loop-id.here c.loop-id.invariant.walk c.in-Some.id (sym c.get.ensures ∙ c.in-Some.is) (c.seat-seat.result.key, c.seat-seat.result.item) c.seat-seat.ensures.item)).0

pub place-requires-clause-within : goal.place-requires-clause-within
place-requires-clause-within g c =
    let t = c.loop-id.self-inside.table in
    key-within (items_of t) c.in-Some.id c.args.key (walk-key (keys_in t) c.args.key (links_of g.H.Heads.by_key t) c.loop-id.here _ c.loop-id.invariant.walk c.in-Some.id (sym c.get.ensures ∙ c.in-Some.is))

pub place-requires-clause-covered : goal.place-requires-clause-covered
place-requires-clause-covered g c =
    let t = c.loop-id.self-inside.table in
    ap (λ v. covers v.covered c.apply-to.result.0) (sym c.loop-id.invariant.same) ∙ ap (λ (x : ℕ × _). covers c.args.self.now.covered x.0) c.apply-to.ensures
    ∙ (c.requires c.in-Some.id (c.seat-seat.result.key, c.seat-seat.result.item) (stands-here c.args.key (g.C.Change.changed c.args.change.now) c.args.self.now.items (items_of t) (links_of g.H.Heads.by_key t) c.loop-id.here c.loop-id.invariant.walk c.in-Some.id (sym c.get.ensures ∙ c.in-Some.is) (c.seat-seat.result.key, c.seat-seat.result.item) c.seat-seat.ensures.item)
    (stands-key c.args.key (g.C.Change.changed c.args.change.now) c.args.self.now.items (items_of t) (links_of g.H.Heads.by_key t) c.loop-id.here c.loop-id.invariant.walk c.in-Some.id (sym c.get.ensures ∙ c.in-Some.is) (c.seat-seat.result.key, c.seat-seat.result.item) c.seat-seat.ensures.item)).1

pub loop-id-preserved : goal.loop-id-preserved
loop-id-preserved g c =
    let t = c.loop-id.self-inside.table in
    record {
      walk = rw c.seat-seat.ensures.next (changed-on c.args.key (g.C.Change.changed c.args.change.now) c.args.self.now.items (items_of t) (links_of g.H.Heads.by_key t) c.loop-id.here c.loop-id.invariant.walk c.in-Some.id (sym c.get.ensures ∙ c.in-Some.is) (c.seat-seat.result.key, c.seat-seat.result.item) c.seat-seat.ensures.item
          c.apply-to.result c.apply-to.ensures (items_of c.place.new.self) (ap (λ v. v.items) c.place.ensures.view) (links_of g.H.Heads.by_key c.place.new.self) c.place.ensures.chains).0;
      same =
          ap (λ (v : Keyed _). record c.args.self.now { items = v.items }) c.place.ensures.view
          ∙ ap (λ (v : Keyed _). record v { items = set (items_of t) c.in-Some.id c.apply-to.result }) c.loop-id.invariant.same ∙ sym c.place.ensures.view;
    }

pub loop-id-smaller : goal.loop-id-smaller
loop-id-smaller g c =
    let t = c.loop-id.self-inside.table in
    rw c.seat-seat.ensures.next (changed-on c.args.key (g.C.Change.changed c.args.change.now) c.args.self.now.items (items_of t) (links_of g.H.Heads.by_key t) c.loop-id.here c.loop-id.invariant.walk c.in-Some.id (sym c.get.ensures ∙ c.in-Some.is) (c.seat-seat.result.key, c.seat-seat.result.item) c.seat-seat.ensures.item
    c.apply-to.result c.apply-to.ensures (items_of c.place.new.self) (ap (λ v. v.items) c.place.ensures.view) (links_of g.H.Heads.by_key c.place.new.self) c.place.ensures.chains).1

pub returns : goal.returns
returns g c =
    let t = c.loop-id.self-inside.table in
    let changed = g.C.Change.changed c.args.change.now in
    let none : c.loop-id.here ≡ None = sym c.get.ensures ∙ c.in_default.is in
    sym c.loop-id.invariant.same
    ∙ ap (λ xs. record c.args.self.now { items = xs }) (changed-all c.args.key changed c.args.self.now.items (items_of t) (walk-end (keys_in t) c.args.key (links_of g.H.Heads.by_key t) c.loop-id.here _ c.loop-id.invariant.walk none))
