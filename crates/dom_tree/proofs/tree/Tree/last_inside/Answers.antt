-- Each step goes to the last child.
use Rattle.std.proofs.Common.{ap, ◌∙◌}
use Rattle.dom_model.specs.Definitions.{last_of, inclusive_descendants}
use Rattle.dom_model.proofs.Forests.TreeOrder.Ending.{last-leaf, last-down}
use Rattle.dom_tree.proofs.{PlaceTableLemmas.place-held, PlaceWalkLemmas.begins, PlaceWalkLemmas.stands, PlaceWalkLemmas.down_last, PlaceWalkLemmas.leaf, PlaceWalkLemmas.led}
use Rattle.dom_tree.specs.Places.{called}
use Rattle.dom_tree.proofs.tree.Tree.last_inside.Goals as goal

pub place_of-here-requires : goal.place_of-here-requires
place_of-here-requires g c = place-held c.self.invariant c.self.view_is c.args.id c.requires

pub loop-last-init : goal.loop-last-init
loop-last-init g c =
    let b = begins c.self.invariant.tree c.self.view_is c.args.id c.place_of-here.result c.place_of-here.ensures in
    record { held = b.0; same = ap (λ n. last_of (inclusive_descendants c.args.self.now.forest n)) b.1 }

pub loop-last-smaller : goal.loop-last-smaller
loop-last-smaller g c =
    let h = stands c.self.invariant.tree c.self.view_is c.loop-last.here c.loop-last.invariant.held in
    let d = down_last c.self.invariant.tree c.self.view_is c.state_law-2.ensures c.loop-last.here c.loop-last.invariant.held c.in-Some.last (led c.in-Some.is c.last.ensures) in
    (last-down c.state_law.ensures (called c.self.inside.links c.loop-last.here) (called c.self.inside.links c.in-Some.last) h d.1).1.0

pub loop-last-preserved : goal.loop-last-preserved
loop-last-preserved g c =
    let h = stands c.self.invariant.tree c.self.view_is c.loop-last.here c.loop-last.invariant.held in
    let d = down_last c.self.invariant.tree c.self.view_is c.state_law-2.ensures c.loop-last.here c.loop-last.invariant.held c.in-Some.last (led c.in-Some.is c.last.ensures) in
    record { held = d.0; same = (last-down c.state_law.ensures (called c.self.inside.links c.loop-last.here) (called c.self.inside.links c.in-Some.last) h d.1).0 ∙ c.loop-last.invariant.same }

pub returns : goal.returns
returns g c =
    let h = stands c.self.invariant.tree c.self.view_is c.loop-last.here c.loop-last.invariant.held in
    let z = leaf c.self.invariant.tree c.self.view_is c.state_law-2.ensures c.loop-last.here c.loop-last.invariant.held (led c.in_default.is c.last.ensures) in
    rw c.number_of.ensures (last-leaf c.state_law.ensures (called c.self.inside.links c.loop-last.here) h z ∙ c.loop-last.invariant.same)
