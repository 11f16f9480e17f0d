-- Each step goes to the parent, which is there as long as more than the node itself is above it.
use Rattle.std.proofs.Common.{◌≡◌, ◌<◌, length, Some, None, option_map, sym, ap, ◌∙◌, subst, arith}
use Rattle.dom_links.specs.Placed.{IsPlaced}
use Rattle.dom_model.specs.Definitions.{ancestors}
use Rattle.dom_model.proofs.Forests.{Above.above, Entries.occurs-HasNode, WaysMeeting.parent-above}
use Rattle.dom_tree.specs.{PathsUp.IsOnWay, Places.called}
use Rattle.dom_tree.proofs.{PlaceTableLemmas.place-held, PlaceWalkLemmas.begins, PlaceWalkLemmas.stands, PlaceWalkLemmas.up, PlaceWalkLemmas.parented, PlaceWalkLemmas.led, PathsUpLemmas.way-start, PathsUpLemmas.way-up}
use Rattle.dom_tree.proofs.tree.Tree.climbed.Goals as goal

pub place_of-here-requires : goal.place_of-here-requires
place_of-here-requires g c = place-held c.self.invariant c.self.view_is c.args.id c.requires.held

pub loop-passed-init : goal.loop-passed-init
loop-passed-init g c =
    let f = c.args.self.now.forest in
    let b = begins c.self.invariant.tree c.self.view_is c.args.id c.place_of-here.result c.place_of-here.ensures in
    record {
      held = b.0;
      child_held = λ x e. absurd (let z : None ≡ Some x = sym c.none-child.ensures ∙ e in cc z);
      way = subst (λ n. IsOnWay f c.args.id n (option_map (called c.self.inside.links) c.none-child.result)) (sym b.1) (subst (λ o. IsOnWay f c.args.id c.args.id (option_map (called c.self.inside.links) o)) (sym c.none-child.ensures) (way-start c.state_law.ensures c.args.id c.requires.held));
      counted = omega (arith, ap (λ n. length (ancestors n f)) b.1);
      start = λ _. c.none-child.ensures;
    }

pub unwrap-above-requires : goal.unwrap-above-requires
unwrap-above-requires g c =
    let f = c.args.self.now.forest in
    let i = c.loop-passed.invariant in
    let n = called c.self.inside.links c.loop-passed.here in
    let h = stands c.self.invariant.tree c.self.view_is c.loop-passed.here i.held in
    let deep : 1 < length (ancestors n f) = omega (arith, i.counted, c.requires.within, c.loop-passed-test.true) in
    let p = parent-above f c.state_law.ensures.once n (occurs-HasNode f n h) deep in
    parented c.self.invariant.tree c.self.view_is c.state_law-2.ensures c.loop-passed.here i.held c.parent.result c.parent.ensures p

pub loop-passed-preserved : goal.loop-passed-preserved
loop-passed-preserved g c =
    let i = c.loop-passed.invariant in
    let n = called c.self.inside.links c.loop-passed.here in
    let q = called c.self.inside.links c.unwrap-above.result in
    let h = stands c.self.invariant.tree c.self.view_is c.loop-passed.here i.held in
    let u = up c.self.invariant.tree c.self.view_is c.state_law-2.ensures c.loop-passed.here i.held c.unwrap-above.result (led c.unwrap-above.ensures c.parent.ensures) in
    let a = above c.state_law.ensures n q h u.1 in
    record {
      held = u.0;
      child_held = λ x e. (let z : Some c.loop-passed.here ≡ Some x = sym c.to-child.ensures ∙ e in let d : c.loop-passed.here ≡ x = cc z in subst (IsPlaced c.self.inside.links) d i.held);
      way = subst (λ o. IsOnWay c.args.self.now.forest c.args.id q (option_map (called c.self.inside.links) o)) (sym c.to-child.ensures) (way-up c.state_law.ensures c.args.id n q _ c.requires.held i.way u.1);
      counted = omega (arith, ap length a.path, i.counted);
      start = λ z. absurd (omega (arith, z));
    }

pub number_of-requires : goal.number_of-requires
number_of-requires g c = c.loop-passed.invariant.held
