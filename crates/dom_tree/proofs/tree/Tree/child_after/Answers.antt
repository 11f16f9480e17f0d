-- The next child is at the next index.
use Rattle.std.proofs.Common.{◌≡◌, suc, ◌+◌, Some, None, sym, ap, ◌∙◌, arith, slice_get}
use Rattle.dom_model.specs.Definitions.{children_of}
use Rattle.dom_model.proofs.Forests.Siblings.{child-next, child-held, get-past}
use Rattle.dom_tree.proofs.{PlaceTableLemmas.place-held, PlaceWalkLemmas.begins, PlaceWalkLemmas.on, PlaceWalkLemmas.hindmost, PlaceWalkLemmas.led}
use Rattle.dom_tree.specs.Places.{called}
use Rattle.dom_tree.proofs.tree.Tree.child_after.Goals as goal

pub place_of-here-requires : goal.place_of-here-requires
place_of-here-requires g c = place-held c.self.invariant c.self.view_is c.args.child (child-held c.state_law.ensures c.args.id c.args.child c.args.index c.requires.held c.requires.child)

pub loop-passed-init : goal.loop-passed-init
loop-passed-init g c =
    let b = begins c.self.invariant.tree c.self.view_is c.args.child c.place_of-here.result c.place_of-here.ensures in
    let i : c.args.index + 0 ≡ c.args.index = omega arith in
    record { held = b.0; at = ap (slice_get (children_of c.args.self.now.forest c.args.id)) i ∙ c.requires.child ∙ ap Some (sym b.1) }

pub returns-in_err-here : goal.returns-in_err-here
returns-in_err-here g c =
    let l = children_of c.args.self.now.forest c.args.id in
    let k = c.args.index + c.loop-passed._passed in
    let z = hindmost c.self.invariant.tree c.self.view_is c.state_law-2.ensures c.loop-passed.here c.loop-passed.invariant.held (led c.in_err-here.was c.next.ensures) in
    let step = child-next c.state_law.ensures c.args.id (called c.self.inside.links c.loop-passed.here) k c.requires.held c.loop-passed.invariant.at in
    let gone : slice_get l (suc k) ≡ None = sym step ∙ z in
    c.from_residual.ensures ∙ sym (get-past l (suc k) (c.args.index + c.args.steps) gone (omega (arith, c.loop-passed-test.true)))

pub loop-passed-preserved : goal.loop-passed-preserved
loop-passed-preserved g c =
    let k = c.args.index + c.loop-passed._passed in
    let o = on c.self.invariant.tree c.self.view_is c.state_law-2.ensures c.loop-passed.here c.loop-passed.invariant.held c.in_ok-here.here (led c.in_ok-here.was c.next.ensures) in
    let step = child-next c.state_law.ensures c.args.id (called c.self.inside.links c.loop-passed.here) k c.requires.held c.loop-passed.invariant.at in
    let i : c.args.index + (c.loop-passed._passed + 1) ≡ suc k = omega arith in
    record { held = o.0; at = ap (slice_get (children_of c.args.self.now.forest c.args.id)) i ∙ sym step ∙ o.1 }
