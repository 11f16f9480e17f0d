-- Each step goes to the last child.
use Rattle.std.proofs.Common.{ap, ◌∙◌}
use Rattle.dom_model.specs.Definitions.{last_of, inclusive_descendants}
use Rattle.dom_model.proofs.Forests.TreeOrder.Ending.{last-leaf, last-down}
use Rattle.dom_tree.specs.Places.{called}
use Rattle.dom_tree.proofs.{SpotLemmas.tree-is, SpotLemmas.node-is, PlaceWalkLemmas.stands, PlaceWalkLemmas.down_last, PlaceWalkLemmas.leaf, PlaceWalkLemmas.led}
use Rattle.dom_tree.proofs.at.At.last_inside.Goals as goal

pub loop-last-init : goal.loop-last-init
loop-last-init g c = record {
  held = c.self.invariant.placed;
  same = ap (λ n. last_of (inclusive_descendants c.args.self.now.tree.forest n)) (node-is c.self.invariant c.self.view_is);
}

pub last-requires : goal.last-requires
last-requires g c = c.loop-last.invariant.held

pub loop-last-smaller : goal.loop-last-smaller
loop-last-smaller g c =
    let k = c.self.invariant.seated.tree in
    let v = tree-is c.self.invariant c.self.view_is in
    let h = stands k v c.loop-last.place c.loop-last.invariant.held in
    let d = down_last k v c.state_law-2.ensures c.loop-last.place c.loop-last.invariant.held c.in-Some.last (led c.in-Some.is c.last.ensures) in
    (last-down c.state_law.ensures.forest (called c.self.inside.links.now c.loop-last.place) (called c.self.inside.links.now c.in-Some.last) h d.1).1.0

pub loop-last-preserved : goal.loop-last-preserved
loop-last-preserved g c =
    let k = c.self.invariant.seated.tree in
    let v = tree-is c.self.invariant c.self.view_is in
    let h = stands k v c.loop-last.place c.loop-last.invariant.held in
    let d = down_last k v c.state_law-2.ensures c.loop-last.place c.loop-last.invariant.held c.in-Some.last (led c.in-Some.is c.last.ensures) in
    record {
      held = d.0;
      same = (last-down c.state_law.ensures.forest (called c.self.inside.links.now c.loop-last.place) (called c.self.inside.links.now c.in-Some.last) h d.1).0 ∙ c.loop-last.invariant.same;
    }

pub returns-clause-node : goal.returns-clause-node
returns-clause-node g c =
    let k = c.self.invariant.seated.tree in
    let v = tree-is c.self.invariant c.self.view_is in
    let h = stands k v c.loop-last.place c.loop-last.invariant.held in
    let z = leaf k v c.state_law-2.ensures c.loop-last.place c.loop-last.invariant.held (led c.in_default.is c.last.ensures) in
    last-leaf c.state_law.ensures.forest (called c.self.inside.links.now c.loop-last.place) h z ∙ c.loop-last.invariant.same
