use Rattle.std.proofs.Common.{refl}
use Rattle.dom_links.specs.Placed.{slot_of}
use Rattle.dom_links.proofs.{ArenaAgainLemmas.free_read, SetValueLemmas.revalue_closes, PlacedLemmas.arena_is, PlacedLemmas.places_is, PlacedLemmas.sits, PlacedLemmas.shown_is, PlacedLemmas.placed_node, PlacedLemmas.told}
use Rattle.dom_links.proofs.store.Store.value_mut.Goals as goal

pub get_mut-node-requires : goal.get_mut-node-requires
get_mut-node-requires g c = placed_node c.self.invariant.stands c.self.view_is c.requires c.node.ensures

pub invariant_of-self-lent : goal.invariant_of-self-lent
invariant_of-self-lent g c = λ w.
    let v = c.args.self.now in
    record { stands = (revalue_closes w v.arena (slot_of v c.args.place) _ _ c.self.inside.free.items c.node.result.ptr c.get_mut-node.result.now (sits c.self.invariant.stands c.self.view_is c.requires c.node.ensures c.get_mut-node.ensures.value) (free_read _ _ c.self.inside.free.items (arena_is c.self.invariant.stands c.self.view_is))).stands; room = c.self.invariant.room; few = c.self.invariant.few }

pub returns : goal.returns
returns g c =
    let v = c.args.self.now in
    ((refl, λ w. shown_is (revalue_closes w v.arena (slot_of v c.args.place) _ _ c.self.inside.free.items c.node.result.ptr c.get_mut-node.result.now (sits c.self.invariant.stands c.self.view_is c.requires c.node.ensures c.get_mut-node.ensures.value) (free_read _ _ c.self.inside.free.items (arena_is c.self.invariant.stands c.self.view_is))).view (places_is c.self.invariant.stands c.self.view_is)), record { writes_back = tt; value = (told c.self.invariant.stands c.self.view_is c.requires c.node.ensures c.get_mut-node.ensures.value).value })
