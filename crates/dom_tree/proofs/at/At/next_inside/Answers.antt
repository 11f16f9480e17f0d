-- The first child, or else the next sibling of the nearest ancestor below the top that has one.
use Rattle.std.proofs.Common.{◌≡◌, ◌==◌, ◌<◌, true, false, None, ap, sym, ◌∙◌, subst}
use Rattle.std.proofs.lemmas.Bool.{not-true, not-false, eqb-true, eqb-false}
use Rattle.dom_model.specs.Definitions.{occurs, tree_at}
use Rattle.dom_model.proofs.Forests.{Above.above, ToTheRoot.shorter, ToTheRoot.inside, TreeOrder.Ordering.past, TreeOrder.Stepping.first-after, TreeOrder.Stepping.none-after, TreeOrder.Stepping.tree-next, TreeOrder.Stepping.tree-up, TreeOrder.Stepping.tree-top, TreeOrder.Stepping.tree-parent}
use Rattle.dom_tree.specs.Places.{called}
use Rattle.dom_tree.proofs.{SpotLemmas.tree-is, SpotLemmas.node-is, SpotLemmas.first-spot, PlaceWalkLemmas.stands, PlaceWalkLemmas.up, PlaceWalkLemmas.parented, PlaceWalkLemmas.on, PlaceWalkLemmas.hindmost, PlaceWalkLemmas.led}
use Rattle.dom_tree.proofs.at.At.next_inside.Goals as goal

pub returns-in-Some-clause-node : goal.returns-in-Some-clause-node
returns-in-Some-clause-node g c =
    let i = inside c.state_law.ensures.forest c.args.top c.args.self.now.node c.requires in
    let d = first-spot c.self.invariant c.self.view_is _ (led c.in-Some.is c.first.ensures) in
    first-after c.state_law.ensures.forest c.args.top c.args.self.now.node (called c.self.inside.links.now c.in-Some.place) i (sym d)

pub loop-links-init : goal.loop-links-init
loop-links-init g c =
    let i = inside c.state_law.ensures.forest c.args.top c.args.self.now.node c.requires in
    let d = first-spot c.self.invariant c.self.view_is _ (led c.in_default.is c.first.ensures) in
    let n = node-is c.self.invariant c.self.view_is in
    record {
      held = c.self.invariant.placed;
      within = subst (λ m. 0 < occurs m (tree_at c.args.top c.args.self.now.tree.forest)) (sym n) i;
      same = none-after c.state_law.ensures.forest c.args.top c.args.self.now.node i (sym d) ∙ ap (λ m. past None m (tree_at c.args.top c.args.self.now.tree.forest)) (sym n);
    }

pub number_of-requires : goal.number_of-requires
number_of-requires g c = c.loop-links.invariant.held

pub next-requires : goal.next-requires
next-requires g c = c.loop-links.invariant.held

pub returns-in-Some-next-clause-node : goal.returns-in-Some-next-clause-node
returns-in-Some-next-clause-node g c =
    let k = c.self.invariant.seated.tree in
    let v = tree-is c.self.invariant c.self.view_is in
    let h = called c.self.inside.links.now c.loop-links.here in
    let o = on k v c.state_law-2.ensures c.loop-links.here c.loop-links.invariant.held c.in-Some-next.place (led c.in-Some-next.is c.next.ensures) in
    let t : (h == c.args.top) ≡ false = ap (λ m. m == c.args.top) (sym c.number_of.ensures) ∙ not-true (c.number_of.result == c.args.top) (sym c.ne.ensures ∙ c.loop-links-test.true) in
    sym (c.loop-links.invariant.same ∙ tree-next c.state_law.ensures.forest c.args.top h (called c.self.inside.links.now c.in-Some-next.place) c.loop-links.invariant.within (eqb-false h c.args.top t) o.1)

pub parent-requires : goal.parent-requires
parent-requires g c = c.loop-links.invariant.held

pub unwrap-here-requires : goal.unwrap-here-requires
unwrap-here-requires g c =
    let k = c.self.invariant.seated.tree in
    let v = tree-is c.self.invariant c.self.view_is in
    let h = called c.self.inside.links.now c.loop-links.here in
    let n = hindmost k v c.state_law-2.ensures c.loop-links.here c.loop-links.invariant.held (led c.in_default-next.is c.next.ensures) in
    let t : (h == c.args.top) ≡ false = ap (λ m. m == c.args.top) (sym c.number_of.ensures) ∙ not-true (c.number_of.result == c.args.top) (sym c.ne.ensures ∙ c.loop-links-test.true) in
    let p = tree-parent c.state_law.ensures.forest c.args.top h c.loop-links.invariant.within (eqb-false h c.args.top t) n in
    parented k v c.state_law-2.ensures c.loop-links.here c.loop-links.invariant.held c.parent.result c.parent.ensures p

pub loop-links-smaller : goal.loop-links-smaller
loop-links-smaller g c =
    let k = c.self.invariant.seated.tree in
    let v = tree-is c.self.invariant c.self.view_is in
    let h = stands k v c.loop-links.here c.loop-links.invariant.held in
    let u = up k v c.state_law-2.ensures c.loop-links.here c.loop-links.invariant.held c.unwrap-here.result (led c.unwrap-here.ensures c.parent.ensures) in
    shorter c.args.self.now.tree.forest (called c.self.inside.links.now c.loop-links.here) (called c.self.inside.links.now c.unwrap-here.result) (above c.state_law.ensures.forest _ _ h u.1)

pub loop-links-preserved : goal.loop-links-preserved
loop-links-preserved g c =
    let k = c.self.invariant.seated.tree in
    let v = tree-is c.self.invariant c.self.view_is in
    let h = called c.self.inside.links.now c.loop-links.here in
    let n = hindmost k v c.state_law-2.ensures c.loop-links.here c.loop-links.invariant.held (led c.in_default-next.is c.next.ensures) in
    let u = up k v c.state_law-2.ensures c.loop-links.here c.loop-links.invariant.held c.unwrap-here.result (led c.unwrap-here.ensures c.parent.ensures) in
    let t : (h == c.args.top) ≡ false = ap (λ m. m == c.args.top) (sym c.number_of.ensures) ∙ not-true (c.number_of.result == c.args.top) (sym c.ne.ensures ∙ c.loop-links-test.true) in
    let w = tree-up c.state_law.ensures.forest c.args.top h (called c.self.inside.links.now c.unwrap-here.result) c.loop-links.invariant.within (eqb-false h c.args.top t) n u.1 in
    record { held = u.0; within = w.0; same = c.loop-links.invariant.same ∙ w.1 }

pub returns-clause-node : goal.returns-clause-node
returns-clause-node g c =
    let h = called c.self.inside.links.now c.loop-links.here in
    let t : (h == c.args.top) ≡ true = ap (λ m. m == c.args.top) (sym c.number_of.ensures) ∙ not-false (c.number_of.result == c.args.top) (sym c.ne.ensures ∙ c.loop-links-test.false) in
    sym (c.loop-links.invariant.same ∙ tree-top c.state_law.ensures.forest c.args.top h c.loop-links.invariant.within (eqb-true h c.args.top t))
