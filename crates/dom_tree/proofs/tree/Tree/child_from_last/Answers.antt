-- The previous child is at the index before.
use Rattle.std.proofs.Common.{◌≡◌, suc, ◌+◌, ◌-◌, length, None, IsSome, sym, ap, ◌∙◌, subst, arith, refl, slice_get}
use Rattle.std.proofs.lemmas.Bool.{false≢true}
use Rattle.dom_model.specs.Definitions.{last_of, children_of}
use Rattle.dom_tree.proofs.{PlaceInLemmas.get-within, SiblingLemmas.get-last, SiblingLemmas.child-back, PlaceTableLemmas.place-held, PlaceWalkLemmas.begins, PlaceWalkLemmas.down_last, PlaceWalkLemmas.leaf, PlaceWalkLemmas.back, PlaceWalkLemmas.foremost, PlaceWalkLemmas.led}
use Rattle.dom_tree.specs.Places.{called}
use Rattle.dom_tree.proofs.tree.Tree.child_from_last.Goals as goal

pub place_of-requires : goal.place_of-requires
place_of-requires g c = place-held c.self.invariant c.self.view_is c.args.id c.requires.held

pub last-requires : goal.last-requires
last-requires g c = c.place_of.ensures.placed c.place_of.result refl

pub returns-in_err-child : goal.returns-in_err-child
returns-in_err-child g c =
    let l = children_of c.args.self.now.forest c.args.id in
    let b = begins c.self.invariant.tree c.self.view_is c.args.id c.place_of.result c.place_of.ensures in
    let z = leaf c.self.invariant.tree c.self.view_is c.state_law-2.ensures c.place_of.result b.0 (led c.in_err-child.was c.last.ensures) in
    let there = get-within l (length l - 1) (omega (arith, c.requires.within)) in
    let gone : slice_get l (length l - 1) ≡ None = sym (get-last l) ∙ ap (λ n. last_of (children_of c.args.self.now.forest n)) (sym b.1) ∙ z in
    absurd (false≢true (subst IsSome gone there))

pub loop-passed-init : goal.loop-passed-init
loop-passed-init g c =
    let l = children_of c.args.self.now.forest c.args.id in
    let b = begins c.self.invariant.tree c.self.view_is c.args.id c.place_of.result c.place_of.ensures in
    let d = down_last c.self.invariant.tree c.self.view_is c.state_law-2.ensures c.place_of.result b.0 c.in_ok-child.child (led c.in_ok-child.was c.last.ensures) in
    let i : length l - 1 - 0 ≡ length l - 1 = omega arith in
    record { held = d.0; at = ap (slice_get l) i ∙ sym (get-last l) ∙ ap (λ n. last_of (children_of c.args.self.now.forest n)) (sym b.1) ∙ d.1 }

pub returns-in_err-child-2 : goal.returns-in_err-child-2
returns-in_err-child-2 g c =
    let l = children_of c.args.self.now.forest c.args.id in
    let z = foremost c.self.invariant.tree c.self.view_is c.state_law-2.ensures c.loop-passed.child c.loop-passed.invariant.held (led c.in_err-child-2.was c.prev.ensures) in
    let i : length l - 1 - c.loop-passed._passed ≡ suc (length l - 1 - (c.loop-passed._passed + 1)) = omega (arith, c.requires.within, c.loop-passed-test.true) in
    let step = child-back c.state_law.ensures c.args.id (called c.self.inside.links c.loop-passed.child) (length l - 1 - c.loop-passed._passed) (length l - 1 - (c.loop-passed._passed + 1)) c.requires.held c.loop-passed.invariant.at i in
    let there = get-within l (length l - 1 - (c.loop-passed._passed + 1)) (omega (arith, c.requires.within)) in
    let gone : slice_get l (length l - 1 - (c.loop-passed._passed + 1)) ≡ None = sym step ∙ z in
    absurd (false≢true (subst IsSome gone there))

pub loop-passed-preserved : goal.loop-passed-preserved
loop-passed-preserved g c =
    let l = children_of c.args.self.now.forest c.args.id in
    let o = back c.self.invariant.tree c.self.view_is c.state_law-2.ensures c.loop-passed.child c.loop-passed.invariant.held c.in_ok-child-2.child (led c.in_ok-child-2.was c.prev.ensures) in
    let i : length l - 1 - c.loop-passed._passed ≡ suc (length l - 1 - (c.loop-passed._passed + 1)) = omega (arith, c.requires.within, c.loop-passed-test.true) in
    let step = child-back c.state_law.ensures c.args.id (called c.self.inside.links c.loop-passed.child) (length l - 1 - c.loop-passed._passed) (length l - 1 - (c.loop-passed._passed + 1)) c.requires.held c.loop-passed.invariant.at i in
    record { held = o.0; at = sym step ∙ o.1 }
