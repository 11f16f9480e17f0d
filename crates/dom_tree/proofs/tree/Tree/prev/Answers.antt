-- What the links say by place, by number.
use Rattle.std.proofs.Common.{refl}
use Rattle.dom_links.specs.Placed.{slot_of, slots_of}
use Rattle.dom_tree.proofs.{SlotStepLemmas.previous-read, PlaceTableLemmas.place-held, PlaceTableLemmas.slot-led, PlaceTableLemmas.numbers-led}
use Rattle.dom_tree.proofs.tree.Tree.prev.Goals as goal

pub place_of-place-requires : goal.place_of-place-requires
place_of-place-requires g c = place-held c.self.invariant c.self.view_is c.args.id c.requires

pub prev-requires : goal.prev-requires
prev-requires g c = c.place_of-place.ensures.placed c.place_of-place.result refl

pub named-requires : goal.named-requires
named-requires g c = c.prev.ensures.placed

pub returns : goal.returns
returns g c =
    previous-read c.self.invariant.tree c.self.view_is c.state_law.ensures c.args.id (slot_of c.self.inside.links c.place_of-place.result) (slots_of c.self.inside.links c.prev.result) c.named.result (slot-led c.place_of-place.ensures) c.prev.ensures.slot (numbers-led c.self.inside.links c.prev.result c.named.result c.named.ensures)
