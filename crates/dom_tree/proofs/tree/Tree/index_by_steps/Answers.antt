-- Each step counts one on both sides, so where all were made the index is more than the steps.
use Rattle.std.proofs.Common.{◌≡◌, length, refl, sym, ap, ◌∙◌, subst, arith}
use Rattle.dom_model.specs.Definitions.{siblings_in, entry_in, parent_of, index_of}
use Rattle.dom_model.proofs.Forests.Siblings.{index-step, index-first, index-within}
use Rattle.dom_links.specs.Placed.{slot_of}
use Rattle.dom_tree.proofs.{SiblingLemmas.forward-step, SiblingLemmas.sides-end, SlotStepLemmas.kept-read, PlaceTableLemmas.place-held, PlaceWalkLemmas.begins, PlaceWalkLemmas.listed, PlaceWalkLemmas.stands, PlaceWalkLemmas.up, PlaceWalkLemmas.topmost, PlaceWalkLemmas.under, PlaceWalkLemmas.beside, PlaceWalkLemmas.on, PlaceWalkLemmas.hindmost, PlaceWalkLemmas.back, PlaceWalkLemmas.foremost, PlaceWalkLemmas.led}
use Rattle.dom_tree.specs.Places.{called}
use Rattle.dom_tree.proofs.tree.Tree.index_by_steps.Goals as goal

pub place_of-backward-requires : goal.place_of-backward-requires
place_of-backward-requires g c = place-held c.self.invariant c.self.view_is c.args.id c.requires

pub parent-requires : goal.parent-requires
parent-requires g c = c.place_of-backward.ensures.placed c.place_of-backward.result refl

pub returns-in_default-clause-counted : goal.returns-in_default-clause-counted
returns-in_default-clause-counted g c =
    let b = begins c.self.invariant.tree c.self.view_is c.args.id c.place_of-backward.result c.place_of-backward.ensures in
    let t = topmost c.self.invariant.tree c.self.view_is c.state_law-2.ensures c.place_of-backward.result b.0 (led c.in_default.is c.parent.ensures) in
    rw (ap (parent_of c.args.self.now.forest) (sym b.1) ∙ t) refl

pub count-count-requires : goal.count-count-requires
count-count-requires g c =
    let b = begins c.self.invariant.tree c.self.view_is c.args.id c.place_of-backward.result c.place_of-backward.ensures in
    (up c.self.invariant.tree c.self.view_is c.state_law-2.ensures c.place_of-backward.result b.0 c.in-Some.parent (led c.in-Some.is c.parent.ensures)).0

pub value-requires : goal.value-requires
value-requires g c =
    let b = begins c.self.invariant.tree c.self.view_is c.args.id c.place_of-backward.result c.place_of-backward.ensures in
    (up c.self.invariant.tree c.self.view_is c.state_law-2.ensures c.place_of-backward.result b.0 c.in-Some.parent (led c.in-Some.is c.parent.ensures)).0

pub loop-passed-init : goal.loop-passed-init
loop-passed-init g c =
    let f = c.args.self.now.forest in
    let b = begins c.self.invariant.tree c.self.view_is c.args.id c.place_of-backward.result c.place_of-backward.ensures in
    record {
      backward_held = b.0;
      backward_beside = ap (parent_of f) b.1;
      backward_counted = omega (arith, ap (index_of f) b.1);
      forward_held = b.0;
      forward_beside = ap (parent_of f) b.1;
      forward_counted = omega (arith, ap (index_of f) b.1);
    }

pub overflow_add-result : goal.overflow_add-result
overflow_add-result g c =
    let f = c.args.self.now.forest in
    let b = begins c.self.invariant.tree c.self.view_is c.args.id c.place_of-backward.result c.place_of-backward.ensures in
    let u = up c.self.invariant.tree c.self.view_is c.state_law-2.ensures c.place_of-backward.result b.0 c.in-Some.parent (led c.in-Some.is c.parent.ensures) in
    let n = subst (λ m. c.count-count.result ≡ length (siblings_in (entry_in f) m)) b.1 (beside c.self.invariant.tree c.self.view_is c.state_law-2.ensures c.place_of-backward.result b.0 c.in-Some.parent c.count-count.result (led c.in-Some.is c.parent.ensures) c.count-count.ensures) in
    let p = under c.self.invariant.tree c.self.view_is c.state_law-2.ensures c.loop-passed.backward c.loop-passed.invariant.backward_held c.in-Some.parent u.0 (c.loop-passed.invariant.backward_beside ∙ ap (parent_of f) (sym b.1) ∙ u.1) in
    let i = kept-read c.self.invariant.tree c.self.view_is c.state_law-2.ensures (called c.self.inside.links c.loop-passed.backward) (slot_of c.self.inside.links c.loop-passed.backward) (slot_of c.self.inside.links c.in-Some.parent) (listed c.self.invariant.tree c.self.view_is c.loop-passed.backward c.loop-passed.invariant.backward_held) p c.value-in-loop-passed.result.now c.value.result.now _ _ c.behind-self-in-loop-passed.view_is c.behind-self.view_is c.value-in-loop-passed.ensures c.value.ensures c.if-index-sure.true in
    omega (arith, i, n, c.loop-passed.invariant.backward_counted, index-within f c.args.id)

pub returns-then-index-sure-clause-counted : goal.returns-then-index-sure-clause-counted
returns-then-index-sure-clause-counted g c =
    let f = c.args.self.now.forest in
    let b = begins c.self.invariant.tree c.self.view_is c.args.id c.place_of-backward.result c.place_of-backward.ensures in
    let u = up c.self.invariant.tree c.self.view_is c.state_law-2.ensures c.place_of-backward.result b.0 c.in-Some.parent (led c.in-Some.is c.parent.ensures) in
    let p = under c.self.invariant.tree c.self.view_is c.state_law-2.ensures c.loop-passed.backward c.loop-passed.invariant.backward_held c.in-Some.parent u.0 (c.loop-passed.invariant.backward_beside ∙ ap (parent_of f) (sym b.1) ∙ u.1) in
    let i = kept-read c.self.invariant.tree c.self.view_is c.state_law-2.ensures (called c.self.inside.links c.loop-passed.backward) (slot_of c.self.inside.links c.loop-passed.backward) (slot_of c.self.inside.links c.in-Some.parent) (listed c.self.invariant.tree c.self.view_is c.loop-passed.backward c.loop-passed.invariant.backward_held) p c.value-in-loop-passed.result.now c.value.result.now _ _ c.behind-self-in-loop-passed.view_is c.behind-self.view_is c.value-in-loop-passed.ensures c.value.ensures c.if-index-sure.true in
    omega (arith, i, c.loop-passed.invariant.backward_counted)

pub returns-in_default-prev-clause-counted : goal.returns-in_default-prev-clause-counted
returns-in_default-prev-clause-counted g c =
    let h = stands c.self.invariant.tree c.self.view_is c.loop-passed.backward c.loop-passed.invariant.backward_held in
    let z = foremost c.self.invariant.tree c.self.view_is c.state_law-2.ensures c.loop-passed.backward c.loop-passed.invariant.backward_held (led c.in_default-prev.is c.prev.ensures) in
    omega (arith, c.loop-passed.invariant.backward_counted, index-first c.state_law.ensures (called c.self.inside.links c.loop-passed.backward) h z)

pub overflow_sub-result : goal.overflow_sub-result
overflow_sub-result g c =
    let f = c.args.self.now.forest in
    let b = begins c.self.invariant.tree c.self.view_is c.args.id c.place_of-backward.result c.place_of-backward.ensures in
    let n = subst (λ m. c.count-count.result ≡ length (siblings_in (entry_in f) m)) b.1 (beside c.self.invariant.tree c.self.view_is c.state_law-2.ensures c.place_of-backward.result b.0 c.in-Some.parent c.count-count.result (led c.in-Some.is c.parent.ensures) c.count-count.ensures) in
    let k = back c.self.invariant.tree c.self.view_is c.state_law-2.ensures c.loop-passed.backward c.loop-passed.invariant.backward_held c.in-Some-prev.prev (led c.in-Some-prev.is c.prev.ensures) in
    let h = stands c.self.invariant.tree c.self.view_is c.loop-passed.forward c.loop-passed.invariant.forward_held in
    let z = hindmost c.self.invariant.tree c.self.view_is c.state_law-2.ensures c.loop-passed.forward c.loop-passed.invariant.forward_held (led c.in_default-next.is c.next.ensures) in
    let i = sides-end c.state_law.ensures c.args.id (called c.self.inside.links c.loop-passed.backward) (called c.self.inside.links c.loop-passed.forward) (called c.self.inside.links c.in-Some-prev.prev) k.1 c.loop-passed.invariant.backward_beside h c.loop-passed.invariant.forward_beside z in
    omega (arith, i, n)

pub overflow_sub-result-in_default-next : goal.overflow_sub-result-in_default-next
overflow_sub-result-in_default-next g c =
    let f = c.args.self.now.forest in
    let b = begins c.self.invariant.tree c.self.view_is c.args.id c.place_of-backward.result c.place_of-backward.ensures in
    let n = subst (λ m. c.count-count.result ≡ length (siblings_in (entry_in f) m)) b.1 (beside c.self.invariant.tree c.self.view_is c.state_law-2.ensures c.place_of-backward.result b.0 c.in-Some.parent c.count-count.result (led c.in-Some.is c.parent.ensures) c.count-count.ensures) in
    let k = back c.self.invariant.tree c.self.view_is c.state_law-2.ensures c.loop-passed.backward c.loop-passed.invariant.backward_held c.in-Some-prev.prev (led c.in-Some-prev.is c.prev.ensures) in
    let h = stands c.self.invariant.tree c.self.view_is c.loop-passed.forward c.loop-passed.invariant.forward_held in
    let z = hindmost c.self.invariant.tree c.self.view_is c.state_law-2.ensures c.loop-passed.forward c.loop-passed.invariant.forward_held (led c.in_default-next.is c.next.ensures) in
    let i = sides-end c.state_law.ensures c.args.id (called c.self.inside.links c.loop-passed.backward) (called c.self.inside.links c.loop-passed.forward) (called c.self.inside.links c.in-Some-prev.prev) k.1 c.loop-passed.invariant.backward_beside h c.loop-passed.invariant.forward_beside z in
    omega (arith, i, n, c.loop-passed.invariant.forward_counted)

pub returns-in_default-next-clause-counted : goal.returns-in_default-next-clause-counted
returns-in_default-next-clause-counted g c =
    let f = c.args.self.now.forest in
    let b = begins c.self.invariant.tree c.self.view_is c.args.id c.place_of-backward.result c.place_of-backward.ensures in
    let n = subst (λ m. c.count-count.result ≡ length (siblings_in (entry_in f) m)) b.1 (beside c.self.invariant.tree c.self.view_is c.state_law-2.ensures c.place_of-backward.result b.0 c.in-Some.parent c.count-count.result (led c.in-Some.is c.parent.ensures) c.count-count.ensures) in
    let k = back c.self.invariant.tree c.self.view_is c.state_law-2.ensures c.loop-passed.backward c.loop-passed.invariant.backward_held c.in-Some-prev.prev (led c.in-Some-prev.is c.prev.ensures) in
    let h = stands c.self.invariant.tree c.self.view_is c.loop-passed.forward c.loop-passed.invariant.forward_held in
    let z = hindmost c.self.invariant.tree c.self.view_is c.state_law-2.ensures c.loop-passed.forward c.loop-passed.invariant.forward_held (led c.in_default-next.is c.next.ensures) in
    let i = sides-end c.state_law.ensures c.args.id (called c.self.inside.links c.loop-passed.backward) (called c.self.inside.links c.loop-passed.forward) (called c.self.inside.links c.in-Some-prev.prev) k.1 c.loop-passed.invariant.backward_beside h c.loop-passed.invariant.forward_beside z in
    omega (arith, i, n, c.loop-passed.invariant.forward_counted)

pub loop-passed-preserved : goal.loop-passed-preserved
loop-passed-preserved g c =
    let hb = stands c.self.invariant.tree c.self.view_is c.loop-passed.backward c.loop-passed.invariant.backward_held in
    let hf = stands c.self.invariant.tree c.self.view_is c.loop-passed.forward c.loop-passed.invariant.forward_held in
    let b = back c.self.invariant.tree c.self.view_is c.state_law-2.ensures c.loop-passed.backward c.loop-passed.invariant.backward_held c.in-Some-prev.prev (led c.in-Some-prev.is c.prev.ensures) in
    let o = on c.self.invariant.tree c.self.view_is c.state_law-2.ensures c.loop-passed.forward c.loop-passed.invariant.forward_held c.in-Some-next.next (led c.in-Some-next.is c.next.ensures) in
    let i = index-step c.state_law.ensures (called c.self.inside.links c.loop-passed.backward) (called c.self.inside.links c.in-Some-prev.prev) hb b.1 in
    let j = forward-step c.state_law.ensures (called c.self.inside.links c.loop-passed.forward) (called c.self.inside.links c.in-Some-next.next) hf o.1 in
    record {
      backward_held = b.0;
      backward_beside = i.1.0 ∙ c.loop-passed.invariant.backward_beside;
      backward_counted = omega (arith, i.0, c.loop-passed.invariant.backward_counted);
      forward_held = o.0;
      forward_beside = j.1.0 ∙ c.loop-passed.invariant.forward_beside;
      forward_counted = omega (arith, j.0, c.loop-passed.invariant.forward_counted);
    }

pub returns-in-Some-next-clause-found : goal.returns-in-Some-next-clause-found
returns-in-Some-next-clause-found g c =
    let f = c.args.self.now.forest in
    let s = begins c.self.invariant.tree c.self.view_is c.args.id c.place_of-backward.result c.place_of-backward.ensures in
    let n = subst (λ m. c.count-count.result ≡ length (siblings_in (entry_in f) m)) s.1 (beside c.self.invariant.tree c.self.view_is c.state_law-2.ensures c.place_of-backward.result s.0 c.in-Some.parent c.count-count.result (led c.in-Some.is c.parent.ensures) c.count-count.ensures) in
    let hb = stands c.self.invariant.tree c.self.view_is c.loop-passed.backward c.loop-passed.invariant.backward_held in
    let b = back c.self.invariant.tree c.self.view_is c.state_law-2.ensures c.loop-passed.backward c.loop-passed.invariant.backward_held c.in-Some-prev.prev (led c.in-Some-prev.is c.prev.ensures) in
    let i = index-step c.state_law.ensures (called c.self.inside.links c.loop-passed.backward) (called c.self.inside.links c.in-Some-prev.prev) hb b.1 in
    λ near. absurd (omega (arith, near, i.0, n, c.loop-passed.invariant.backward_counted, c.min-passed-end.ensures, index-within f c.args.id))
