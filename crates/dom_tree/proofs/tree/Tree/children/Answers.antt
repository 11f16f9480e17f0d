-- From where the first child lies on stand all children.
use Rattle.std.proofs.Common.{refl}
use Rattle.dom_links.specs.Placed.{slot_of, slots_of}
use Rattle.dom_tree.proofs.{ChildrenFromLemmas.first-placed, ChildrenFromLemmas.all-numbers, PlaceTableLemmas.place-held, PlaceTableLemmas.slot-led}
use Rattle.dom_tree.proofs.tree.Tree.children.Goals as goal

pub place_of-requires : goal.place_of-requires
place_of-requires g c = place-held c.self.invariant c.self.view_is c.args.parent c.requires

pub first-first-requires : goal.first-first-requires
first-first-requires g c = c.place_of.ensures.placed c.place_of.result refl

pub invariant_of-result : goal.invariant_of-result
invariant_of-result g c = first-placed c.state_law.ensures c.place_of.result c.first-first.result c.first-first.ensures.placed c.first-first.ensures.slot

pub returns : goal.returns
returns g c =
    all-numbers c.self.invariant.tree c.self.view_is c.state_law.ensures c.args.parent (slot_of c.self.inside.links c.place_of.result) (slots_of c.self.inside.links c.first-first.result) (slot-led c.place_of.ensures) c.first-first.ensures.slot
