-- As many by slot as by number.
use Rattle.std.proofs.Common.{refl}
use Rattle.dom_tree.proofs.{SlotStepLemmas.count-read, PlaceTableLemmas.place-held, PlaceTableLemmas.slot-led}
use Rattle.dom_links.specs.Placed.{slot_of}
use Rattle.dom_tree.proofs.tree.Tree.count.Goals as goal

pub place_of-place-requires : goal.place_of-place-requires
place_of-place-requires g c = place-held c.self.invariant c.self.view_is c.args.id c.requires

pub count-requires : goal.count-requires
count-requires g c = c.place_of-place.ensures.placed c.place_of-place.result refl

pub returns : goal.returns
returns g c =
    count-read c.self.invariant.tree c.self.view_is c.args.id (slot_of c.self.inside.links c.place_of-place.result) c.count.result (slot-led c.place_of-place.ensures) c.count.ensures
