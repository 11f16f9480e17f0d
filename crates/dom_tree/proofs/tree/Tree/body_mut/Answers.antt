-- Whatever is written to the body, number and label stay.
use Rattle.std.proofs.Common.{refl}
use Rattle.dom_model.specs.Definitions.{Node, with_node}
use Rattle.dom_links.specs.Placed.{slot_of}
use Rattle.dom_tree.specs.Bodies.{with_body, bodied_at}
use Rattle.dom_tree.proofs.{BlocksKept.blocked-altered, TalliesSoundLemmas.tallied-kept, SlotStepLemmas.alter-done, SlotStepLemmas.keeps-shown, SlotStepLemmas.part-read, OwnedTrees.alter-tree, PlaceTableLemmas.place-held, PlaceTableLemmas.slot-led, PlaceTableLemmas.seated}
use Rattle.dom_tree.proofs.tree.Tree.body_mut.Goals as goal

pub place_of-place-requires : goal.place_of-place-requires
place_of-place-requires g c = place-held c.self.invariant c.self.view_is c.args.id c.requires

pub body_in-requires : goal.body_in-requires
body_in-requires g c = c.place_of-place.ensures.placed c.place_of-place.result refl

pub invariant_of-self-lent : goal.invariant_of-self-lent
invariant_of-self-lent g c = λ w.
    seated c.self.invariant (bodied_at c.self.inside.links c.place_of-place.result w) refl
    (alter-tree c.self.invariant.tree c.args.id (slot_of c.self.inside.links c.place_of-place.result) (slot-led c.place_of-place.ensures) (with_body w) (λ q. refl) (λ q. refl) (λ q. refl))
    (blocked-altered (λ q. record q { node = with_body w q.node }) (λ q. refl) (λ q. refl) c.self.inside.links.arena (slot_of c.self.inside.links c.place_of-place.result) c.self.inside.blocks c.self.invariant.blocked)
    (tallied-kept (λ q. record q { node = with_body w q.node }) (with_body w) (λ q. refl) (λ q. refl) c.self.inside.links.arena (slot_of c.self.inside.links c.place_of-place.result) c.self.inside.tallies c.self.invariant.tallied)

pub returns : goal.returns
returns g c = (
  (refl, λ w. keeps-shown c.self.invariant.tree c.self.view_is (with_node c.args.id (with_body w)) (alter-done c.self.invariant.tree c.self.view_is c.args.id (slot_of c.self.inside.links c.place_of-place.result) (slot-led c.place_of-place.ensures) (with_body w) (λ q. refl) (λ q. refl))),
  record {
    writes_back = tt;
    value = part-read c.self.invariant.tree c.self.view_is (λ (x : Node g.row.X.Denot). x.body) c.args.id (slot_of c.self.inside.links c.place_of-place.result) (slot-led c.place_of-place.ensures) c.body_in.result.now c.body_in.ensures.value;
  },
)
