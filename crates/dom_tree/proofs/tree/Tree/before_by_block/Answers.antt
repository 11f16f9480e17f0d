-- The places by slot are the indices by number.
use Rattle.std.proofs.Common.{ap, ◌∙◌}
use Rattle.dom_model.specs.Definitions.{place_in, entry_at, list_under}
use Rattle.dom_links.specs.Placed.{slot_of}
use Rattle.dom_tree.proofs.{SlotStepLemmas.index-slots, PlaceWalkLemmas.led, PlaceWalkLemmas.under_one, PlaceTableLemmas.place-held, PlaceTableLemmas.slot-led}
use Rattle.dom_tree.proofs.tree.Tree.before_by_block.Goals as goal

pub place_of-a-requires : goal.place_of-a-requires
place_of-a-requires g c = place-held c.self.invariant c.self.view_is c.args.a c.requires.a_held

pub place_of-b-requires : goal.place_of-b-requires
place_of-b-requires g c = place-held c.self.invariant c.self.view_is c.args.b c.requires.b_held

pub before_by_block-requires-clause-b_child : goal.before_by_block-requires-clause-b_child
before_by_block-requires-clause-b_child g c =
    under_one c.self.invariant.tree c.self.view_is c.state_law.ensures c.args.a c.args.b c.place_of-a.result c.place_of-b.result c.in_ok-above.above c.place_of-a.ensures c.place_of-b.ensures c.requires.one_parent (led c.in_ok-above.was c.parent.ensures)

pub returns : goal.returns
returns g c =
    let up = led c.in_ok-above.was c.parent.ensures in
    let at = entry_at c.self.inside.links.arena in
    let a = slot_of c.self.inside.links c.place_of-a.result in
    let b = slot_of c.self.inside.links c.place_of-b.result in
    let beside = under_one c.self.invariant.tree c.self.view_is c.state_law.ensures c.args.a c.args.b c.place_of-a.result c.place_of-b.result c.in_ok-above.above c.place_of-a.ensures c.place_of-b.ensures c.requires.one_parent up in
    let a_place = index-slots c.self.invariant.tree c.self.view_is c.state_law.ensures c.args.a a (slot-led c.place_of-a.ensures) ∙ ap (λ o. place_in a (list_under at o)) (slot-led up) in
    let b_place = index-slots c.self.invariant.tree c.self.view_is c.state_law.ensures c.args.b b (slot-led c.place_of-b.ensures) ∙ ap (λ o. place_in b (list_under at o)) beside in
    rw (a_place, b_place) c.before_by_block.ensures
