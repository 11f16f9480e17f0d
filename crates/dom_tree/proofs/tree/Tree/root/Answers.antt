-- Each step goes to the parent, which has the same root and fewer ancestors.
use Rattle.std.proofs.Common.{ap, sym, ◌∙◌}
use Rattle.dom_model.specs.Definitions.{root_of}
use Rattle.dom_model.proofs.Forests.{Above.above, ToTheRoot.shorter, ToTheRoot.root-above, ToTheRoot.root-is}
use Rattle.dom_tree.proofs.{PlaceTableLemmas.place-held, PlaceWalkLemmas.begins, PlaceWalkLemmas.stands, PlaceWalkLemmas.up, PlaceWalkLemmas.topmost, PlaceWalkLemmas.led}
use Rattle.dom_tree.specs.Places.{called}
use Rattle.dom_tree.proofs.tree.Tree.root.Goals as goal

pub place_of-top-requires : goal.place_of-top-requires
place_of-top-requires g c = place-held c.self.invariant c.self.view_is c.args.id c.requires

pub loop-above-init : goal.loop-above-init
loop-above-init g c =
    let b = begins c.self.invariant.tree c.self.view_is c.args.id c.place_of-top.result c.place_of-top.ensures in
    record { held = b.0; same = ap (root_of c.args.self.now.forest) b.1 }

pub loop-above-smaller : goal.loop-above-smaller
loop-above-smaller g c =
    let u = up c.self.invariant.tree c.self.view_is c.state_law-2.ensures c.loop-above.top c.loop-above.invariant.held c.in-Some.above (led c.in-Some.is c.parent.ensures) in
    shorter c.args.self.now.forest (called c.self.inside.links c.loop-above.top) (called c.self.inside.links c.in-Some.above) (above c.state_law.ensures _ _ (stands c.self.invariant.tree c.self.view_is c.loop-above.top c.loop-above.invariant.held) u.1)

pub loop-above-preserved : goal.loop-above-preserved
loop-above-preserved g c =
    let u = up c.self.invariant.tree c.self.view_is c.state_law-2.ensures c.loop-above.top c.loop-above.invariant.held c.in-Some.above (led c.in-Some.is c.parent.ensures) in
    let a = above c.state_law.ensures _ _ (stands c.self.invariant.tree c.self.view_is c.loop-above.top c.loop-above.invariant.held) u.1 in
    record { held = u.0; same = root-above c.args.self.now.forest _ _ a ∙ c.loop-above.invariant.same }

pub returns : goal.returns
returns g c =
    let h = stands c.self.invariant.tree c.self.view_is c.loop-above.top c.loop-above.invariant.held in
    let t = topmost c.self.invariant.tree c.self.view_is c.state_law-2.ensures c.loop-above.top c.loop-above.invariant.held (led c.in_default.is c.parent.ensures) in
    rw c.number_of.ensures (sym (root-is c.state_law.ensures _ h t) ∙ c.loop-above.invariant.same)
