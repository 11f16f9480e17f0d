-- The first child, or else the next sibling of the nearest ancestor below the top that has one.
use Rattle.std.proofs.Common.{◌==◌, ◌<◌, None, refl, ap, sym, ◌∙◌, subst}
use Rattle.std.proofs.lemmas.Bool.{not-true, not-false, eqb-true, eqb-false}
use Rattle.dom_model.specs.Definitions.{head_of, children_of, occurs, tree_at}
use Rattle.dom_model.proofs.Forests.{Above.above, ToTheRoot.shorter, ToTheRoot.inside, TreeOrder.Ordering.past, TreeOrder.Stepping.first-after, TreeOrder.Stepping.none-after, TreeOrder.Stepping.tree-next, TreeOrder.Stepping.tree-up, TreeOrder.Stepping.tree-top, TreeOrder.Stepping.tree-parent}
use Rattle.dom_tree.proofs.{PlaceTableLemmas.place-held, TreeOrder.top-there, PlaceWalkLemmas.begins, PlaceWalkLemmas.stands, PlaceWalkLemmas.meets, PlaceWalkLemmas.up, PlaceWalkLemmas.parented, PlaceWalkLemmas.down, PlaceWalkLemmas.childless, PlaceWalkLemmas.on, PlaceWalkLemmas.hindmost, PlaceWalkLemmas.led}
use Rattle.dom_tree.specs.Places.{called}
use Rattle.dom_tree.proofs.tree.Tree.next_inside.Goals as goal

pub place_of-here-requires : goal.place_of-here-requires
place_of-here-requires g c = place-held c.self.invariant c.self.view_is c.args.id c.requires.held

pub first-requires : goal.first-requires
first-requires g c = (begins c.self.invariant.tree c.self.view_is c.args.id c.place_of-here.result c.place_of-here.ensures).0

pub number_of-requires : goal.number_of-requires
number_of-requires g c =
    let b = begins c.self.invariant.tree c.self.view_is c.args.id c.place_of-here.result c.place_of-here.ensures in
    (down c.self.invariant.tree c.self.view_is c.state_law-2.ensures c.place_of-here.result b.0 c.in-Some.child (led c.in-Some.is c.first.ensures)).0

pub returns-in-Some : goal.returns-in-Some
returns-in-Some g c =
    let b = begins c.self.invariant.tree c.self.view_is c.args.id c.place_of-here.result c.place_of-here.ensures in
    let d = down c.self.invariant.tree c.self.view_is c.state_law-2.ensures c.place_of-here.result b.0 c.in-Some.child (led c.in-Some.is c.first.ensures) in
    rw c.number_of.ensures (first-after c.state_law.ensures c.args.top c.args.id (called c.self.inside.links c.in-Some.child) (inside c.state_law.ensures c.args.top c.args.id c.requires.under) (ap (λ n. head_of (children_of c.args.self.now.forest n)) (sym b.1) ∙ d.1))

pub place_of-requires : goal.place_of-requires
place_of-requires g c = place-held c.self.invariant c.self.view_is c.args.top (top-there c.state_law.ensures c.args.top c.args.id c.requires.under)

pub slot-end-requires : goal.slot-end-requires
slot-end-requires g c = c.place_of.ensures.placed c.place_of.result refl

pub slot-requires : goal.slot-requires
slot-requires g c = c.loop-self.invariant.held

pub loop-self-init : goal.loop-self-init
loop-self-init g c =
    let b = begins c.self.invariant.tree c.self.view_is c.args.id c.place_of-here.result c.place_of-here.ensures in
    let d = childless c.self.invariant.tree c.self.view_is c.state_law-2.ensures c.place_of-here.result b.0 (led c.in_default.is c.first.ensures) in
    let i = inside c.state_law.ensures c.args.top c.args.id c.requires.under in
    record {
      held = b.0;
      within = subst (λ n. 0 < occurs n (tree_at c.args.top c.args.self.now.forest)) (sym b.1) i;
      same = none-after c.state_law.ensures c.args.top c.args.id i (ap (λ n. head_of (children_of c.args.self.now.forest n)) (sym b.1) ∙ d) ∙ ap (λ n. past None n (tree_at c.args.top c.args.self.now.forest)) (sym b.1);
    }

pub number_of-requires-in-Some-next : goal.number_of-requires-in-Some-next
number_of-requires-in-Some-next g c =
    (on c.self.invariant.tree c.self.view_is c.state_law-2.ensures c.loop-self.here c.loop-self.invariant.held c.in-Some-next.next (led c.in-Some-next.is c.next.ensures)).0

pub returns-in-Some-next : goal.returns-in-Some-next
returns-in-Some-next g c =
    let o = on c.self.invariant.tree c.self.view_is c.state_law-2.ensures c.loop-self.here c.loop-self.invariant.held c.in-Some-next.next (led c.in-Some-next.is c.next.ensures) in
    let t = meets c.self.invariant.tree c.self.view_is c.loop-self.here c.args.top c.place_of.result c.slot.result c.slot-end.result c.loop-self.invariant.held c.place_of.ensures c.slot.ensures c.slot-end.ensures ∙ not-true (c.slot.result == c.slot-end.result) (sym c.ne.ensures ∙ c.loop-self-test.true) in
    let ne = eqb-false (called c.self.inside.links c.loop-self.here) c.args.top t in
    rw c.number_of-in-Some-next.ensures (sym (c.loop-self.invariant.same ∙ tree-next c.state_law.ensures c.args.top (called c.self.inside.links c.loop-self.here) (called c.self.inside.links c.in-Some-next.next) c.loop-self.invariant.within ne o.1))

pub unwrap-here-requires : goal.unwrap-here-requires
unwrap-here-requires g c =
    let n = hindmost c.self.invariant.tree c.self.view_is c.state_law-2.ensures c.loop-self.here c.loop-self.invariant.held (led c.in_default-next.is c.next.ensures) in
    let t = meets c.self.invariant.tree c.self.view_is c.loop-self.here c.args.top c.place_of.result c.slot.result c.slot-end.result c.loop-self.invariant.held c.place_of.ensures c.slot.ensures c.slot-end.ensures ∙ not-true (c.slot.result == c.slot-end.result) (sym c.ne.ensures ∙ c.loop-self-test.true) in
    let ne = eqb-false (called c.self.inside.links c.loop-self.here) c.args.top t in
    let p = tree-parent c.state_law.ensures c.args.top (called c.self.inside.links c.loop-self.here) c.loop-self.invariant.within ne n in
    parented c.self.invariant.tree c.self.view_is c.state_law-2.ensures c.loop-self.here c.loop-self.invariant.held c.parent.result c.parent.ensures p

pub loop-self-smaller : goal.loop-self-smaller
loop-self-smaller g c =
    let h = stands c.self.invariant.tree c.self.view_is c.loop-self.here c.loop-self.invariant.held in
    let u = up c.self.invariant.tree c.self.view_is c.state_law-2.ensures c.loop-self.here c.loop-self.invariant.held c.unwrap-here.result (led c.unwrap-here.ensures c.parent.ensures) in
    shorter c.args.self.now.forest (called c.self.inside.links c.loop-self.here) (called c.self.inside.links c.unwrap-here.result) (above c.state_law.ensures _ _ h u.1)

pub loop-self-preserved : goal.loop-self-preserved
loop-self-preserved g c =
    let n = hindmost c.self.invariant.tree c.self.view_is c.state_law-2.ensures c.loop-self.here c.loop-self.invariant.held (led c.in_default-next.is c.next.ensures) in
    let u = up c.self.invariant.tree c.self.view_is c.state_law-2.ensures c.loop-self.here c.loop-self.invariant.held c.unwrap-here.result (led c.unwrap-here.ensures c.parent.ensures) in
    let t = meets c.self.invariant.tree c.self.view_is c.loop-self.here c.args.top c.place_of.result c.slot.result c.slot-end.result c.loop-self.invariant.held c.place_of.ensures c.slot.ensures c.slot-end.ensures ∙ not-true (c.slot.result == c.slot-end.result) (sym c.ne.ensures ∙ c.loop-self-test.true) in
    let k = tree-up c.state_law.ensures c.args.top (called c.self.inside.links c.loop-self.here) (called c.self.inside.links c.unwrap-here.result) c.loop-self.invariant.within (eqb-false (called c.self.inside.links c.loop-self.here) c.args.top t) n u.1 in
    record { held = u.0; within = k.0; same = c.loop-self.invariant.same ∙ k.1 }

pub returns : goal.returns
returns g c =
    let t = meets c.self.invariant.tree c.self.view_is c.loop-self.here c.args.top c.place_of.result c.slot.result c.slot-end.result c.loop-self.invariant.held c.place_of.ensures c.slot.ensures c.slot-end.ensures ∙ not-false (c.slot.result == c.slot-end.result) (sym c.ne.ensures ∙ c.loop-self-test.false) in
    sym (c.loop-self.invariant.same ∙ tree-top c.state_law.ensures c.args.top (called c.self.inside.links c.loop-self.here) c.loop-self.invariant.within (eqb-true (called c.self.inside.links c.loop-self.here) c.args.top t))
