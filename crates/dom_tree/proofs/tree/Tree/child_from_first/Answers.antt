-- The next child is at the next index.
use Rattle.std.proofs.Common.{◌≡◌, suc, None, sym, ap, ◌∙◌, add-one, arith, refl, slice_get}
use Rattle.dom_model.specs.Definitions.{head_of, children_of}
use Rattle.dom_model.proofs.Forests.Siblings.{child-next, get-past, get-head}
use Rattle.dom_tree.proofs.{PlaceTableLemmas.place-held, PlaceWalkLemmas.begins, PlaceWalkLemmas.down, PlaceWalkLemmas.childless, PlaceWalkLemmas.on, PlaceWalkLemmas.hindmost, PlaceWalkLemmas.led}
use Rattle.dom_tree.specs.Places.{called}
use Rattle.dom_tree.proofs.tree.Tree.child_from_first.Goals as goal

pub place_of-requires : goal.place_of-requires
place_of-requires g c = place-held c.self.invariant c.self.view_is c.args.id c.requires

pub first-requires : goal.first-requires
first-requires g c = c.place_of.ensures.placed c.place_of.result refl

pub returns-in_err-child : goal.returns-in_err-child
returns-in_err-child g c =
    let l = children_of c.args.self.now.forest c.args.id in
    let b = begins c.self.invariant.tree c.self.view_is c.args.id c.place_of.result c.place_of.ensures in
    let z = childless c.self.invariant.tree c.self.view_is c.state_law-2.ensures c.place_of.result b.0 (led c.in_err-child.was c.first.ensures) in
    let gone : slice_get l 0 ≡ None = sym (get-head l) ∙ ap (λ n. head_of (children_of c.args.self.now.forest n)) (sym b.1) ∙ z in
    c.from_residual.ensures ∙ sym (get-past l 0 c.args.steps gone (omega arith))

pub loop-passed-init : goal.loop-passed-init
loop-passed-init g c =
    let b = begins c.self.invariant.tree c.self.view_is c.args.id c.place_of.result c.place_of.ensures in
    let d = down c.self.invariant.tree c.self.view_is c.state_law-2.ensures c.place_of.result b.0 c.in_ok-child.child (led c.in_ok-child.was c.first.ensures) in
    record { held = d.0; at = sym (get-head (children_of c.args.self.now.forest c.args.id)) ∙ ap (λ n. head_of (children_of c.args.self.now.forest n)) (sym b.1) ∙ d.1 }

pub returns-in_err-child-2 : goal.returns-in_err-child-2
returns-in_err-child-2 g c =
    let l = children_of c.args.self.now.forest c.args.id in
    let z = hindmost c.self.invariant.tree c.self.view_is c.state_law-2.ensures c.loop-passed.child c.loop-passed.invariant.held (led c.in_err-child-2.was c.next.ensures) in
    let step = child-next c.state_law.ensures c.args.id (called c.self.inside.links c.loop-passed.child) c.loop-passed._passed c.requires c.loop-passed.invariant.at in
    let gone : slice_get l (suc c.loop-passed._passed) ≡ None = sym step ∙ z in
    c.from_residual-in_err-child-2.ensures ∙ sym (get-past l (suc c.loop-passed._passed) c.args.steps gone (omega (arith, c.loop-passed-test.true)))

pub loop-passed-preserved : goal.loop-passed-preserved
loop-passed-preserved g c =
    let o = on c.self.invariant.tree c.self.view_is c.state_law-2.ensures c.loop-passed.child c.loop-passed.invariant.held c.in_ok-child-2.child (led c.in_ok-child-2.was c.next.ensures) in
    let step = child-next c.state_law.ensures c.args.id (called c.self.inside.links c.loop-passed.child) c.loop-passed._passed c.requires c.loop-passed.invariant.at in
    record { held = o.0; at = ap (slice_get (children_of c.args.self.now.forest c.args.id)) (add-one c.loop-passed._passed) ∙ sym step ∙ o.1 }
