-- Each step up leaves one ancestor behind; there are no more above than there are nodes.
use Rattle.std.proofs.Common.{length, ap, arith}
use Rattle.dom_model.specs.Definitions.{ancestors}
use Rattle.dom_model.proofs.Forests.{Above.above, Climbing.ancestors-there, Entries.occurs-HasNode, Paths.root-path, WaysMeeting.depth-size}
use Rattle.dom_tree.proofs.{SlotStepLemmas.live-read, PlaceTableLemmas.place-held, PlaceWalkLemmas.begins, PlaceWalkLemmas.stands, PlaceWalkLemmas.up, PlaceWalkLemmas.topmost, PlaceWalkLemmas.led}
use Rattle.dom_tree.specs.Places.{called}
use Rattle.dom_tree.proofs.tree.Tree.depth.Goals as goal

pub place_of-here-requires : goal.place_of-here-requires
place_of-here-requires g c = place-held c.self.invariant c.self.view_is c.args.id c.requires

pub loop-depth-init : goal.loop-depth-init
loop-depth-init g c =
    let b = begins c.self.invariant.tree c.self.view_is c.args.id c.place_of-here.result c.place_of-here.ensures in
    record { held = b.0; counted = omega (arith, ap (λ n. length (ancestors n c.args.self.now.forest)) b.1) }

pub returns-in-None : goal.returns-in-None
returns-in-None g c =
    let f = c.args.self.now.forest in
    let h = stands c.self.invariant.tree c.self.view_is c.loop-depth.here c.loop-depth.invariant.held in
    let t = topmost c.self.invariant.tree c.self.view_is c.state_law-2.ensures c.loop-depth.here c.loop-depth.invariant.held (led c.in-None.is c.parent.ensures) in
    let r = ap length (root-path f c.state_law.ensures.once (called c.self.inside.links c.loop-depth.here) (occurs-HasNode f (called c.self.inside.links c.loop-depth.here) h) t) in
    omega (arith, r, c.loop-depth.invariant.counted)

pub loop-depth-preserved : goal.loop-depth-preserved
loop-depth-preserved g c =
    let h = stands c.self.invariant.tree c.self.view_is c.loop-depth.here c.loop-depth.invariant.held in
    let u = up c.self.invariant.tree c.self.view_is c.state_law-2.ensures c.loop-depth.here c.loop-depth.invariant.held c.in-Some.parent (led c.in-Some.is c.parent.ensures) in
    let a = above c.state_law.ensures (called c.self.inside.links c.loop-depth.here) (called c.self.inside.links c.in-Some.parent) h u.1 in
    record { held = u.0; counted = omega (arith, ap length a.path, c.loop-depth.invariant.counted) }

pub returns : goal.returns
returns g c =
    let f = c.args.self.now.forest in
    let h = stands c.self.invariant.tree c.self.view_is c.loop-depth.here c.loop-depth.invariant.held in
    let e = ap length (ancestors-there (called c.self.inside.links c.loop-depth.here) f (occurs-HasNode f (called c.self.inside.links c.loop-depth.here) h)).1 in
    absurd (omega (arith, e, c.loop-depth.invariant.counted, depth-size c.args.id f, live-read c.self.invariant.tree c.self.view_is, c.loop-depth-test.false))
