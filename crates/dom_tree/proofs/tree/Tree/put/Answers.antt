-- A root put by place is put by number.
use Rattle.std.proofs.Common.{refl, sym, ap}
use Rattle.dom_links.specs.Placed.{slot_of, slots_of}
use Rattle.dom_tree.proofs.{SlotStepLemmas.parent-none, SlotStepLemmas.parent-same, SlotStepLemmas.no_cycle-slots, PlaceTableLemmas.place-held, PlaceTableLemmas.places-held, PlaceTableLemmas.slot-led, PutCutLemmas.put_at-seated, PutCutLemmas.put_at-shown}
use Rattle.dom_tree.proofs.tree.Tree.put.Goals as goal

pub place_of-above-requires : goal.place_of-above-requires
place_of-above-requires g c = place-held c.self.invariant c.self.view_is c.args.parent c.requires.parent_held

pub place_of-below-requires : goal.place_of-below-requires
place_of-below-requires g c = place-held c.self.invariant c.self.view_is c.args.child c.requires.child_held

pub link_to-next-requires : goal.link_to-next-requires
link_to-next-requires g c =
    places-held c.self.invariant c.self.view_is c.args.before c.args.parent c.requires.before_under

pub put_at-requires-clause-parent_placed : goal.put_at-requires-clause-parent_placed
put_at-requires-clause-parent_placed g c = c.place_of-above.ensures.placed c.place_of-above.result refl

pub put_at-requires-clause-child_placed : goal.put_at-requires-clause-child_placed
put_at-requires-clause-child_placed g c = c.place_of-below.ensures.placed c.place_of-below.result refl

pub put_at-requires-clause-no_parent : goal.put_at-requires-clause-no_parent
put_at-requires-clause-no_parent g c =
    parent-none c.self.invariant.tree c.self.view_is c.args.child (slot_of c.self.inside.links c.place_of-below.result) (slot-led c.place_of-below.ensures) c.requires.no_parent

pub put_at-requires-clause-no_cycle : goal.put_at-requires-clause-no_cycle
put_at-requires-clause-no_cycle g c =
    no_cycle-slots c.self.invariant.tree c.self.view_is c.state_law.ensures c.args.parent (slot_of c.self.inside.links c.place_of-above.result) c.args.child (slot_of c.self.inside.links c.place_of-below.result) (slot-led c.place_of-above.ensures) (slot-led c.place_of-below.ensures) c.requires.no_cycle

pub put_at-requires-clause-before_placed : goal.put_at-requires-clause-before_placed
put_at-requires-clause-before_placed g c = c.link_to-next.ensures.placed

pub put_at-requires-clause-before_under : goal.put_at-requires-clause-before_under
put_at-requires-clause-before_under g c = λ b e.
    parent-same c.self.invariant.tree c.self.view_is c.state_law.ensures c.args.before c.args.parent (slot_of c.self.inside.links c.place_of-above.result) (slots_of c.self.inside.links c.link_to-next.result) (slot-led c.place_of-above.ensures) (sym c.link_to-next.ensures.slot) c.requires.before_under (slot_of c.self.inside.links b) (ap (slots_of c.self.inside.links) e)

pub put_at-requires-clause-tallied : goal.put_at-requires-clause-tallied
put_at-requires-clause-tallied g c = c.self.invariant.tallied

pub invariant_of-self : goal.invariant_of-self
invariant_of-self g c = put_at-seated c.self.invariant c.self.view_is c.state_law.ensures c.args.parent c.args.child c.args.before c.place_of-above.ensures c.place_of-below.ensures c.link_to-next.ensures c.requires.parent_held c.requires.child_held c.requires.no_parent c.requires.no_cycle c.requires.before_under c.requires.kinds c.put_at.ensures

pub returns : goal.returns
returns g c = put_at-shown c.self.invariant c.self.view_is c.state_law.ensures c.args.parent c.args.child c.args.before c.place_of-above.ensures c.place_of-below.ensures c.link_to-next.ensures c.requires.parent_held c.requires.child_held c.requires.no_parent c.requires.no_cycle c.requires.before_under c.requires.kinds c.put_at.ensures
