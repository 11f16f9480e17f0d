-- One more key is gone through, with all that end on its node.
use Rattle.std.proofs.Common.{◌≡◌, None, Some, refl, ap, sym, ◌∙◌, inl, arith, slice_index_or}
use Rattle.dom_model.specs.Definitions.{among}
use Rattle.dom_observe.specs.{Watchers.on, Registrations.at, Registrations.ending_node}
use Rattle.dom_observe.proofs.{LeftByLemmas.swept-none, LeftByLemmas.swept-two, EndByNodeLemmas.between-two, EndByNodeLemmas.done-now, EndByNodeLemmas.ends-none, EndByNodeLemmas.done-next, EndByNodeLemmas.on-between, EndByNodeLemmas.on-or_gone, EndByNodeLemmas.on-done, EndByNodeLemmas.take-whole, registrations.Registrations.end_among.Goals.in-Some, registrations.Registrations.end_among.Goals.in_default}
use Rattle.dom_observe.proofs.registrations.Registrations.end_among.Goals as goal

pub loop-key-init : goal.loop-key-init
loop-key-init c = record {
  between = λ k. inl refl;
  done = λ k h. let d : ⊥ = cc h in absurd d;
  swept = swept-none (at c.args.self.now) c.args.self.now.lists c.state_law.ensures.placed;
}

pub loop-key-preserved : goal.loop-key-preserved
loop-key-preserved c =
    let inv = c.loop-key.invariant in
    let e = c.args.ending.now in
    let keys = c.args.keys.now in
    let i = c.loop-key.key-index in
    let u0 = at c.args.self.now in
    let u = at c.loop-key.self in
    let lists0 = c.args.self.now.lists in
    let lists = c.loop-key.self.lists in
    let key = slice_index_or keys i 0 in
    elim c.match-ending_node.branch [
      | in-Some w ↦
          let node = w.in-Some.node in
          let some : ending_node e (u key) ≡ Some node = ap (ending_node e) (sym c.get.ensures) ∙ sym c.ending_node.ensures ∙ w.in-Some.is in
          let v = at w.end_on.new.self in
          let lists' = w.end_on.new.self.lists in
          let more = on-between e u v lists node c.state_law-in-loop-key.ensures.placed w.end_on.ensures.left in
          let or_gone = on-or_gone e u v lists node c.state_law-in-loop-key.ensures.placed w.end_on.ensures.left in
          let now = on-done e u v lists node c.state_law-in-loop-key.ensures.placed w.end_on.ensures.left key some ∙ done-now e (inv.between key) in
          rw w.self-is (record {
            between = λ k. between-two e (inv.between k) (more k);
            done = done-next e u0 u v keys i 0 c.loop-key-test.true inv.done more now;
            swept = λ n. swept-two u v (on n lists0) (on n lists) (on n lists') or_gone (inv.swept n) (w.end_on.ensures.swept n);
          })
      | in_default w ↦
          let none : ending_node e (u key) ≡ None = ap (ending_node e) (sym c.get.ensures) ∙ sym c.ending_node.ensures ∙ w.in_default.is in
          rw w.self-is (record {
            between = inv.between;
            done = done-next e u0 u u keys i 0 c.loop-key-test.true inv.done (λ k. inl refl) (sym (ends-none e (u key) none) ∙ done-now e (inv.between key));
            swept = inv.swept;
          })
    ]

pub returns-clause-done : goal.returns-clause-done
returns-clause-done c = λ k m.
    let whole = take-whole c.args.keys.now c.loop-key.key-index (omega (arith, c.loop-key-test.false)) in
    c.loop-key.invariant.done k (ap (among k) whole ∙ m)
