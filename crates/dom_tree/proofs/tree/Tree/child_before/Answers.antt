-- The previous child is at the index before.
use Rattle.std.proofs.Common.{◌≡◌, suc, ◌+◌, ◌-◌, Some, None, sym, ap, ◌∙◌, arith, slice_get}
use Rattle.dom_model.specs.Definitions.{children_of}
use Rattle.dom_model.proofs.Forests.Siblings.{child-held, get-past}
use Rattle.dom_tree.proofs.{SiblingLemmas.child-back, PlaceTableLemmas.place-held, PlaceWalkLemmas.begins, PlaceWalkLemmas.back, PlaceWalkLemmas.foremost, PlaceWalkLemmas.led}
use Rattle.dom_tree.specs.Places.{called}
use Rattle.dom_tree.proofs.tree.Tree.child_before.Goals as goal

pub place_of-here-requires : goal.place_of-here-requires
place_of-here-requires g c = place-held c.self.invariant c.self.view_is c.args.child (child-held c.state_law.ensures c.args.id c.args.child c.args.index c.requires.held c.requires.child)

pub loop-passed-init : goal.loop-passed-init
loop-passed-init g c =
    let b = begins c.self.invariant.tree c.self.view_is c.args.child c.place_of-here.result c.place_of-here.ensures in
    let i : c.args.index - 0 ≡ c.args.index = omega arith in
    record { held = b.0; at = ap (slice_get (children_of c.args.self.now.forest c.args.id)) i ∙ c.requires.child ∙ ap Some (sym b.1) }

pub returns-in_err-here : goal.returns-in_err-here
returns-in_err-here g c =
    let l = children_of c.args.self.now.forest c.args.id in
    let k = c.args.index - c.loop-passed._passed in
    let j = c.args.index - (c.loop-passed._passed + 1) in
    let i : k ≡ suc j = omega (arith, c.requires.within, c.loop-passed-test.true) in
    let z = foremost c.self.invariant.tree c.self.view_is c.state_law-2.ensures c.loop-passed.here c.loop-passed.invariant.held (led c.in_err-here.was c.prev.ensures) in
    let step = child-back c.state_law.ensures c.args.id (called c.self.inside.links c.loop-passed.here) k j c.requires.held c.loop-passed.invariant.at i in
    let gone : slice_get l j ≡ None = sym step ∙ z in
    let none : None ≡ Some c.args.child = sym (get-past l j c.args.index gone (omega arith)) ∙ c.requires.child in
    absurd (cc none)

pub loop-passed-preserved : goal.loop-passed-preserved
loop-passed-preserved g c =
    let k = c.args.index - c.loop-passed._passed in
    let j = c.args.index - (c.loop-passed._passed + 1) in
    let i : k ≡ suc j = omega (arith, c.requires.within, c.loop-passed-test.true) in
    let o = back c.self.invariant.tree c.self.view_is c.state_law-2.ensures c.loop-passed.here c.loop-passed.invariant.held c.in_ok-here.here (led c.in_ok-here.was c.prev.ensures) in
    let step = child-back c.state_law.ensures c.args.id (called c.self.inside.links c.loop-passed.here) k j c.requires.held c.loop-passed.invariant.at i in
    record { held = o.0; at = sym step ∙ o.1 }
