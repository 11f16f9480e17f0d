-- Each step goes to the parent, past a node that is not the one.
use Rattle.std.proofs.Common.{◌==◌, ap, sym, ◌∙◌, refl, is_some}
use Rattle.std.proofs.lemmas.Bool.{not-true, not-false}
use Rattle.dom_model.specs.Definitions.{among, ancestors}
use Rattle.dom_model.proofs.Forests.{Above.above, ToTheRoot.shorter, ToTheRoot.among-above, ToTheRoot.among-here, ToTheRoot.among-top, ToTheRoot.inside-same}
use Rattle.dom_tree.proofs.{SlotStepLemmas.holds-read, PlaceTableLemmas.place-held, RefersLemmas.nothing-under, PlaceWalkLemmas.begins, PlaceWalkLemmas.stands, PlaceWalkLemmas.meets, PlaceWalkLemmas.up, PlaceWalkLemmas.topmost, PlaceWalkLemmas.led}
use Rattle.dom_tree.specs.Places.{called}
use Rattle.dom_tree.proofs.tree.Tree.is_ancestor.Goals as goal

pub returns-in_default : goal.returns-in_default
returns-in_default g c =
    let e = sym (holds-read c.self.invariant.tree c.self.view_is c.args.above) ∙ ap is_some (sym (led c.in_default.is c.place_at.ensures).slot) in
    sym (nothing-under c.state_law.ensures c.args.above e c.args.id) ∙ sym (inside-same c.state_law.ensures c.args.above c.args.id)

pub place_at-requires : goal.place_at-requires
place_at-requires g c = c.self.invariant.placed

pub slot-end-requires : goal.slot-end-requires
slot-end-requires g c = (led c.in-Some.is c.place_at.ensures).placed c.in-Some.end refl

pub slot-requires : goal.slot-requires
slot-requires g c = c.loop-self.invariant.held

pub place_of-here-requires : goal.place_of-here-requires
place_of-here-requires g c = place-held c.self.invariant c.self.view_is c.args.id c.requires

pub loop-self-init : goal.loop-self-init
loop-self-init g c =
    let b = begins c.self.invariant.tree c.self.view_is c.args.id c.place_of-here.result c.place_of-here.ensures in
    record { held = b.0; same = ap (λ n. among c.args.above (ancestors n c.args.self.now.forest)) b.1 }

pub loop-self-smaller : goal.loop-self-smaller
loop-self-smaller g c =
    let h = stands c.self.invariant.tree c.self.view_is c.loop-self.here c.loop-self.invariant.held in
    let u = up c.self.invariant.tree c.self.view_is c.state_law-2.ensures c.loop-self.here c.loop-self.invariant.held c.in-Some-parent.parent (led c.in-Some-parent.is c.parent.ensures) in
    shorter c.args.self.now.forest (called c.self.inside.links c.loop-self.here) (called c.self.inside.links c.in-Some-parent.parent) (above c.state_law.ensures _ _ h u.1)

pub loop-self-preserved : goal.loop-self-preserved
loop-self-preserved g c =
    let h = stands c.self.invariant.tree c.self.view_is c.loop-self.here c.loop-self.invariant.held in
    let u = up c.self.invariant.tree c.self.view_is c.state_law-2.ensures c.loop-self.here c.loop-self.invariant.held c.in-Some-parent.parent (led c.in-Some-parent.is c.parent.ensures) in
    let ne = meets c.self.invariant.tree c.self.view_is c.loop-self.here c.args.above c.in-Some.end c.slot.result c.slot-end.result c.loop-self.invariant.held (led c.in-Some.is c.place_at.ensures) c.slot.ensures c.slot-end.ensures ∙ not-true (c.slot.result == c.slot-end.result) (sym c.ne.ensures ∙ c.loop-self-test.true) in
    record { held = u.0; same = among-above c.args.self.now.forest c.args.above _ _ (above c.state_law.ensures _ _ h u.1) ne ∙ c.loop-self.invariant.same }

pub returns-in-None : goal.returns-in-None
returns-in-None g c =
    let h = stands c.self.invariant.tree c.self.view_is c.loop-self.here c.loop-self.invariant.held in
    let t = topmost c.self.invariant.tree c.self.view_is c.state_law-2.ensures c.loop-self.here c.loop-self.invariant.held (led c.in-None.is c.parent.ensures) in
    let ne = meets c.self.invariant.tree c.self.view_is c.loop-self.here c.args.above c.in-Some.end c.slot.result c.slot-end.result c.loop-self.invariant.held (led c.in-Some.is c.place_at.ensures) c.slot.ensures c.slot-end.ensures ∙ not-true (c.slot.result == c.slot-end.result) (sym c.ne.ensures ∙ c.loop-self-test.true) in
    among-top c.state_law.ensures c.args.above _ h t ne ∙ c.loop-self.invariant.same

pub returns : goal.returns
returns g c =
    let h = stands c.self.invariant.tree c.self.view_is c.loop-self.here c.loop-self.invariant.held in
    let e = meets c.self.invariant.tree c.self.view_is c.loop-self.here c.args.above c.in-Some.end c.slot.result c.slot-end.result c.loop-self.invariant.held (led c.in-Some.is c.place_at.ensures) c.slot.ensures c.slot-end.ensures ∙ not-false (c.slot.result == c.slot-end.result) (sym c.ne.ensures ∙ c.loop-self-test.false) in
    among-here c.args.self.now.forest c.args.above _ h e ∙ c.loop-self.invariant.same
