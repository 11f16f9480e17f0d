-- An index below the parent's count is right.
use Rattle.std.proofs.Common.{refl, tests, rules}
use Rattle.dom_tree.proofs.{SlotStepLemmas.kept-read, PlaceTableLemmas.place-held, PlaceTableLemmas.slot-led, PlaceWalkLemmas.led}
use Rattle.dom_links.specs.Placed.{slot_of}
use Rattle.dom_tree.proofs.tree.Tree.kept_index.Goals as goal

pub place_of-place-requires : goal.place_of-place-requires
place_of-place-requires g c = place-held c.self.invariant c.self.view_is c.args.id c.requires

pub value-requires : goal.value-requires
value-requires g c = c.place_of-place.ensures.placed c.place_of-place.result refl

pub value-requires-2 : goal.value-requires-2
value-requires-2 g c = (led c.in_ok-above.was c.parent.ensures).placed c.in_ok-above.above refl

pub returns-then-index-value : goal.returns-then-index-value
returns-then-index-value g c =
    kept-read c.self.invariant.tree c.self.view_is c.state_law.ensures c.args.id (slot_of c.self.inside.links c.place_of-place.result) (slot_of c.self.inside.links c.in_ok-above.above) (slot-led c.place_of-place.ensures) (slot-led (led c.in_ok-above.was c.parent.ensures)) c.value.result.now c.value-2.result.now _ _ c.behind-self.view_is c.behind-self-2.view_is c.value.ensures c.value-2.ensures c.if-index-value.true

pub parent-requires : goal.parent-requires
parent-requires g c = c.place_of-place.ensures.placed c.place_of-place.result refl

pub returns : goal.returns
returns g c = search (tests, rules)
