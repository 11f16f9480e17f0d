-- Each step goes one sibling on and one back.
use Rattle.std.proofs.Common.{refl, ap, sym, ◌∙◌, nat_lt, arith}
use Rattle.std.proofs.lemmas.Bool.{eqb-true, eqb-false}
use Rattle.dom_model.specs.Definitions.{parent_of, index_of}
use Rattle.dom_model.proofs.Forests.Siblings.{index-step}
use Rattle.dom_tree.proofs.{SiblingLemmas.forward-step, SiblingLemmas.index-below, SiblingLemmas.ahead-met, SiblingLemmas.ahead-end, SiblingLemmas.ahead-on, SiblingLemmas.behind-met, SiblingLemmas.behind-end, SiblingLemmas.behind-on, PlaceTableLemmas.place-held, PlaceWalkLemmas.begins, PlaceWalkLemmas.stands, PlaceWalkLemmas.meets, PlaceWalkLemmas.on, PlaceWalkLemmas.hindmost, PlaceWalkLemmas.back, PlaceWalkLemmas.foremost, PlaceWalkLemmas.led}
use Rattle.dom_tree.specs.Places.{called}
use Rattle.dom_tree.proofs.tree.Tree.is_ahead_within.Goals as goal

pub place_of-requires : goal.place_of-requires
place_of-requires g c = place-held c.self.invariant c.self.view_is c.args.b c.requires.b_held

pub place_of-forward-requires : goal.place_of-forward-requires
place_of-forward-requires g c = place-held c.self.invariant c.self.view_is c.args.a c.requires.a_held

pub slot-end-requires : goal.slot-end-requires
slot-end-requires g c = c.place_of.ensures.placed c.place_of.result refl

pub slot-requires : goal.slot-requires
slot-requires g c = (led c.in-Some.is c.next.ensures).placed c.in-Some.next refl

pub loop-passed-init : goal.loop-passed-init
loop-passed-init g c =
    let f = c.args.self.now.forest in
    let b = begins c.self.invariant.tree c.self.view_is c.args.a c.place_of-forward.result c.place_of-forward.ensures in
    record {
      forward_held = b.0;
      forward_beside = ap (parent_of f) b.1;
      forward_same = ap (λ n. nat_lt (index_of f n) (index_of f c.args.b)) b.1;
      forward_counted = omega (arith, ap (index_of f) b.1);
      backward_held = b.0;
      backward_beside = ap (parent_of f) b.1;
      backward_same = ap (λ n. nat_lt (index_of f c.args.b) (index_of f n)) b.1;
    }

pub returns-in_default-clause-ahead : goal.returns-in_default-clause-ahead
returns-in_default-clause-ahead g c =
    let i = c.loop-passed.invariant in
    let h = stands c.self.invariant.tree c.self.view_is c.loop-passed.forward i.forward_held in
    let e = hindmost c.self.invariant.tree c.self.view_is c.state_law-2.ensures c.loop-passed.forward i.forward_held (led c.in_default.is c.next.ensures) in
    ahead-end c.state_law.ensures c.args.a c.args.b (called c.self.inside.links c.loop-passed.forward) (called c.self.inside.links c.loop-passed.backward) c.requires.b_held c.requires.one_parent c.requires.child c.requires.apart h i.forward_beside i.forward_same e

pub returns-then-eq-clause-ahead : goal.returns-then-eq-clause-ahead
returns-then-eq-clause-ahead g c =
    let i = c.loop-passed.invariant in
    let h = stands c.self.invariant.tree c.self.view_is c.loop-passed.forward i.forward_held in
    let o = on c.self.invariant.tree c.self.view_is c.state_law-2.ensures c.loop-passed.forward i.forward_held c.in-Some.next (led c.in-Some.is c.next.ensures) in
    let t = meets c.self.invariant.tree c.self.view_is c.in-Some.next c.args.b c.place_of.result c.slot.result c.slot-end.result o.0 c.place_of.ensures c.slot.ensures c.slot-end.ensures ∙ sym c.eq.ensures ∙ c.if-eq.true in
    ahead-met c.state_law.ensures c.args.a c.args.b (called c.self.inside.links c.loop-passed.forward) (called c.self.inside.links c.loop-passed.backward) c.requires.b_held c.requires.one_parent c.requires.child c.requires.apart h i.forward_beside i.forward_same (called c.self.inside.links c.in-Some.next) o.1 (eqb-true (called c.self.inside.links c.in-Some.next) c.args.b t)

pub returns-in_default-prev-clause-ahead : goal.returns-in_default-prev-clause-ahead
returns-in_default-prev-clause-ahead g c =
    let i = c.loop-passed.invariant in
    let h = stands c.self.invariant.tree c.self.view_is c.loop-passed.backward i.backward_held in
    let e = foremost c.self.invariant.tree c.self.view_is c.state_law-2.ensures c.loop-passed.backward i.backward_held (led c.in_default-prev.is c.prev.ensures) in
    behind-end c.state_law.ensures c.args.a c.args.b (called c.self.inside.links c.loop-passed.forward) (called c.self.inside.links c.loop-passed.backward) c.requires.b_held c.requires.one_parent c.requires.child c.requires.apart h i.backward_beside i.backward_same c.requires.a_held e

pub returns-then-eq-2-clause-ahead : goal.returns-then-eq-2-clause-ahead
returns-then-eq-2-clause-ahead g c =
    let i = c.loop-passed.invariant in
    let h = stands c.self.invariant.tree c.self.view_is c.loop-passed.backward i.backward_held in
    let o = back c.self.invariant.tree c.self.view_is c.state_law-2.ensures c.loop-passed.backward i.backward_held c.in-Some-prev.prev (led c.in-Some-prev.is c.prev.ensures) in
    let t = meets c.self.invariant.tree c.self.view_is c.in-Some-prev.prev c.args.b c.place_of.result c.slot-in-loop-passed.result c.slot-end.result o.0 c.place_of.ensures c.slot-in-loop-passed.ensures c.slot-end.ensures ∙ sym c.eq-in-loop-passed.ensures ∙ c.if-eq-2.true in
    behind-met c.state_law.ensures c.args.a c.args.b (called c.self.inside.links c.loop-passed.forward) (called c.self.inside.links c.loop-passed.backward) c.requires.b_held c.requires.one_parent c.requires.child c.requires.apart h i.backward_beside i.backward_same (called c.self.inside.links c.in-Some-prev.prev) o.1 (eqb-true (called c.self.inside.links c.in-Some-prev.prev) c.args.b t)

pub loop-passed-preserved : goal.loop-passed-preserved
loop-passed-preserved g c =
    let i = c.loop-passed.invariant in
    let hf = stands c.self.invariant.tree c.self.view_is c.loop-passed.forward i.forward_held in
    let hb = stands c.self.invariant.tree c.self.view_is c.loop-passed.backward i.backward_held in
    let f = on c.self.invariant.tree c.self.view_is c.state_law-2.ensures c.loop-passed.forward i.forward_held c.in-Some.next (led c.in-Some.is c.next.ensures) in
    let b = back c.self.invariant.tree c.self.view_is c.state_law-2.ensures c.loop-passed.backward i.backward_held c.in-Some-prev.prev (led c.in-Some-prev.is c.prev.ensures) in
    let nf = meets c.self.invariant.tree c.self.view_is c.in-Some.next c.args.b c.place_of.result c.slot.result c.slot-end.result f.0 c.place_of.ensures c.slot.ensures c.slot-end.ensures ∙ sym c.eq.ensures ∙ c.if-eq.false in
    let nb = meets c.self.invariant.tree c.self.view_is c.in-Some-prev.prev c.args.b c.place_of.result c.slot-in-loop-passed.result c.slot-end.result b.0 c.place_of.ensures c.slot-in-loop-passed.ensures c.slot-end.ensures ∙ sym c.eq-in-loop-passed.ensures ∙ c.if-eq-2.false in
    let step = forward-step c.state_law.ensures (called c.self.inside.links c.loop-passed.forward) (called c.self.inside.links c.in-Some.next) hf f.1 in
    record {
      forward_held = f.0;
      forward_beside = step.1.0 ∙ i.forward_beside;
      forward_counted = omega (arith, step.0, i.forward_counted);
      forward_same = ahead-on c.state_law.ensures c.args.a c.args.b (called c.self.inside.links c.loop-passed.forward) (called c.self.inside.links c.loop-passed.backward) c.requires.b_held c.requires.one_parent c.requires.child c.requires.apart hf i.forward_beside i.forward_same (called c.self.inside.links c.in-Some.next) f.1 (eqb-false (called c.self.inside.links c.in-Some.next) c.args.b nf);
      backward_held = b.0;
      backward_beside = (index-step c.state_law.ensures (called c.self.inside.links c.loop-passed.backward) (called c.self.inside.links c.in-Some-prev.prev) hb b.1).1.0 ∙ i.backward_beside;
      backward_same = behind-on c.state_law.ensures c.args.a c.args.b (called c.self.inside.links c.loop-passed.forward) (called c.self.inside.links c.loop-passed.backward) c.requires.b_held c.requires.one_parent c.requires.child c.requires.apart hb i.backward_beside i.backward_same (called c.self.inside.links c.in-Some-prev.prev) b.1 (eqb-false (called c.self.inside.links c.in-Some-prev.prev) c.args.b nb);
    }

pub returns-clause-found : goal.returns-clause-found
returns-clause-found g c = λ enough.
    let i = c.loop-passed.invariant in
    let h = stands c.self.invariant.tree c.self.view_is c.loop-passed.forward i.forward_held in
    absurd (omega (arith, enough, i.forward_counted, index-below c.state_law.ensures c.args.a (called c.self.inside.links c.loop-passed.forward) h i.forward_beside c.requires.child))
