-- The count in the slot is that of the nodes, as long as there are no strays.
use Rattle.std.proofs.Common.{refl}
use Rattle.dom_tree.proofs.{PlaceTableLemmas.place-held, PlaceTableLemmas.slot-led, OwnedSteps.owned-read}
use Rattle.dom_links.specs.Placed.{slot_of}
use Rattle.dom_tree.proofs.tree.Tree.owned.Goals as goal

pub place_of-place-requires : goal.place_of-place-requires
place_of-place-requires g c = place-held c.self.invariant c.self.view_is c.args.id c.requires

pub value-requires : goal.value-requires
value-requires g c = c.place_of-place.ensures.placed c.place_of-place.result refl

pub returns : goal.returns
returns g c = owned-read c.self.invariant.tree c.self.view_is c.if-self.false c.args.id (slot_of c.self.inside.links c.place_of-place.result) (slot-led c.place_of-place.ensures) c.value.result.now _ c.behind-self.view_is c.value.ensures
