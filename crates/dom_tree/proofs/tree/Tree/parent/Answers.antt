-- What the links say by place, by number.
use Rattle.std.proofs.Common.{refl}
use Rattle.dom_links.specs.Placed.{slot_of, slots_of}
use Rattle.dom_tree.proofs.{SlotStepLemmas.parent-read, PlaceTableLemmas.place-held, PlaceTableLemmas.slot-led, PlaceTableLemmas.numbers-led}
use Rattle.dom_tree.proofs.tree.Tree.parent.Goals as goal

pub place_of-place-requires : goal.place_of-place-requires
place_of-place-requires g c = place-held c.self.invariant c.self.view_is c.args.id c.requires

pub parent-requires : goal.parent-requires
parent-requires g c = c.place_of-place.ensures.placed c.place_of-place.result refl

pub named-requires : goal.named-requires
named-requires g c = c.parent.ensures.placed

pub returns : goal.returns
returns g c =
    parent-read c.self.invariant.tree c.self.view_is c.args.id (slot_of c.self.inside.links c.place_of-place.result) (slots_of c.self.inside.links c.parent.result) c.named.result (slot-led c.place_of-place.ensures) c.parent.ensures.slot (numbers-led c.self.inside.links c.parent.result c.named.result c.named.ensures)
