use Rattle.std.proofs.Common.{refl}
use Rattle.dom_model.specs.Definitions.{Node}
use Rattle.dom_tree.proofs.{SlotStepLemmas.value-read, PlaceTableLemmas.place-held, PlaceTableLemmas.slot-led}
use Rattle.dom_links.specs.Placed.{slot_of}
use Rattle.dom_tree.proofs.tree.Tree.label.Goals as goal

-- The value in the slot is the node's.

pub place_of-requires : goal.place_of-requires
place_of-requires g c = place-held c.self.invariant c.self.view_is c.args.id c.requires

pub returns : goal.returns
returns g c =
    value-read c.self.invariant.tree c.self.view_is (λ (x : Node g.row.X.Denot). x.label) c.args.id (slot_of c.self.inside.links c.place_of.result) (slot-led c.place_of.ensures) c.value-item.result.now _ c.item.view_is c.value-item.ensures

pub value-item-requires : goal.value-item-requires
value-item-requires g c = c.place_of.ensures.placed c.place_of.result refl
