-- The first child, or else the next sibling of the nearest ancestor that has one.
use Rattle.std.proofs.Common.{ap, sym, ◌∙◌, subst}
use Rattle.dom_model.specs.Definitions.{head_of, children_of}
use Rattle.dom_model.proofs.Forests.{Above.above, ToTheRoot.shorter, TreeOrder.Stepping.Past, TreeOrder.Stepping.order-first, TreeOrder.Stepping.Past-start, TreeOrder.Stepping.Past-next, TreeOrder.Stepping.Past-up, TreeOrder.Stepping.Past-end}
use Rattle.dom_tree.proofs.{PlaceTableLemmas.place-held, PlaceWalkLemmas.begins, PlaceWalkLemmas.stands, PlaceWalkLemmas.up, PlaceWalkLemmas.topmost, PlaceWalkLemmas.down, PlaceWalkLemmas.childless, PlaceWalkLemmas.on, PlaceWalkLemmas.hindmost, PlaceWalkLemmas.led}
use Rattle.dom_tree.specs.Places.{called}
use Rattle.dom_tree.proofs.tree.Tree.next_in_order.Goals as goal

pub place_of-here-requires : goal.place_of-here-requires
place_of-here-requires g c = place-held c.self.invariant c.self.view_is c.args.id c.requires

pub first-requires : goal.first-requires
first-requires g c = (begins c.self.invariant.tree c.self.view_is c.args.id c.place_of-here.result c.place_of-here.ensures).0

pub number_of-requires : goal.number_of-requires
number_of-requires g c =
    let b = begins c.self.invariant.tree c.self.view_is c.args.id c.place_of-here.result c.place_of-here.ensures in
    (down c.self.invariant.tree c.self.view_is c.state_law-2.ensures c.place_of-here.result b.0 c.in-Some.child (led c.in-Some.is c.first.ensures)).0

pub returns-in-Some : goal.returns-in-Some
returns-in-Some g c =
    let b = begins c.self.invariant.tree c.self.view_is c.args.id c.place_of-here.result c.place_of-here.ensures in
    let d = down c.self.invariant.tree c.self.view_is c.state_law-2.ensures c.place_of-here.result b.0 c.in-Some.child (led c.in-Some.is c.first.ensures) in
    rw c.number_of.ensures (order-first c.state_law.ensures c.args.id (called c.self.inside.links c.in-Some.child) (ap (λ n. head_of (children_of c.args.self.now.forest n)) (sym b.1) ∙ d.1))

pub loop-next-init : goal.loop-next-init
loop-next-init g c =
    let b = begins c.self.invariant.tree c.self.view_is c.args.id c.place_of-here.result c.place_of-here.ensures in
    let d = childless c.self.invariant.tree c.self.view_is c.state_law-2.ensures c.place_of-here.result b.0 (led c.in_default.is c.first.ensures) in
    let p = Past-start c.state_law.ensures c.args.id (ap (λ n. head_of (children_of c.args.self.now.forest n)) (sym b.1) ∙ d) in
    record { held = b.0; same = subst (Past c.args.self.now.forest c.args.id) (sym b.1) p }

pub number_of-requires-in-Some-next : goal.number_of-requires-in-Some-next
number_of-requires-in-Some-next g c =
    (on c.self.invariant.tree c.self.view_is c.state_law-2.ensures c.loop-next.here c.loop-next.invariant.held c.in-Some-next.next (led c.in-Some-next.is c.next.ensures)).0

pub returns-in-Some-next : goal.returns-in-Some-next
returns-in-Some-next g c =
    let o = on c.self.invariant.tree c.self.view_is c.state_law-2.ensures c.loop-next.here c.loop-next.invariant.held c.in-Some-next.next (led c.in-Some-next.is c.next.ensures) in
    rw c.number_of-in-Some-next.ensures (Past-next c.state_law.ensures c.args.id (called c.self.inside.links c.loop-next.here) (called c.self.inside.links c.in-Some-next.next) c.requires c.loop-next.invariant.same o.1)

pub loop-next-smaller : goal.loop-next-smaller
loop-next-smaller g c =
    let h = stands c.self.invariant.tree c.self.view_is c.loop-next.here c.loop-next.invariant.held in
    let u = up c.self.invariant.tree c.self.view_is c.state_law-2.ensures c.loop-next.here c.loop-next.invariant.held c.in-Some-parent.parent (led c.in-Some-parent.is c.parent.ensures) in
    shorter c.args.self.now.forest (called c.self.inside.links c.loop-next.here) (called c.self.inside.links c.in-Some-parent.parent) (above c.state_law.ensures _ _ h u.1)

pub loop-next-preserved : goal.loop-next-preserved
loop-next-preserved g c =
    let n = hindmost c.self.invariant.tree c.self.view_is c.state_law-2.ensures c.loop-next.here c.loop-next.invariant.held (led c.in_default-next.is c.next.ensures) in
    let u = up c.self.invariant.tree c.self.view_is c.state_law-2.ensures c.loop-next.here c.loop-next.invariant.held c.in-Some-parent.parent (led c.in-Some-parent.is c.parent.ensures) in
    record { held = u.0; same = Past-up c.state_law.ensures c.args.id (called c.self.inside.links c.loop-next.here) (called c.self.inside.links c.in-Some-parent.parent) c.requires c.loop-next.invariant.same n u.1 }

pub returns-in-None : goal.returns-in-None
returns-in-None g c =
    let n = hindmost c.self.invariant.tree c.self.view_is c.state_law-2.ensures c.loop-next.here c.loop-next.invariant.held (led c.in_default-next.is c.next.ensures) in
    let t = topmost c.self.invariant.tree c.self.view_is c.state_law-2.ensures c.loop-next.here c.loop-next.invariant.held (led c.in-None.is c.parent.ensures) in
    Past-end c.state_law.ensures c.args.id (called c.self.inside.links c.loop-next.here) c.requires c.loop-next.invariant.same n t
