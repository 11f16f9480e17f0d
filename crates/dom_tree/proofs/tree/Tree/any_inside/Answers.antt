-- Each step asks one node.
use Rattle.std.proofs.Common.{length, refl, sym, ap, ◌∙◌, arith}
use Rattle.dom_model.proofs.Forests.TreeOrder.InsideWalks.{at-top, at-next, from-top, smaller}
use Rattle.dom_tree.proofs.{FirstFoundLemmas.asking-top, FirstFoundLemmas.asking-next, FirstFoundLemmas.asking-found, FirstFoundLemmas.asking-end, FirstFoundLemmas.asking-stops, DescendantWalkLemmas.some_left}
use Rattle.dom_tree.proofs.tree.Tree.any_inside.Goals as goal

pub loop-step-init : goal.loop-step-init
loop-step-init g c = record {
  at = at-top c.args.self.now c.state_law.ensures c.args.top c.requires.held;
  asking = λ says told. asking-top c.args.self.now c.state_law.ensures c.args.top c.args.steps says c.requires.held;
  within = omega arith;
  passed = omega (arith, ap length (from-top c.args.self.now c.state_law.ensures c.args.top c.requires.held));
}

pub returns-then-test-clause-asked : goal.returns-then-test-clause-asked
returns-then-test-clause-asked g c = λ says told.
    asking-found c.args.self.now c.state_law.ensures c.args.top c.args.steps says c.loop-step.here c.loop-step._step c.loop-step.invariant.at (c.loop-step.invariant.asking says told) (sym (told _ _ c.test.ensures) ∙ c.if-test.true) c.loop-step-test.true

pub next_inside-requires-clause-held : goal.next_inside-requires-clause-held
next_inside-requires-clause-held g c = c.loop-step.invariant.at.there

pub next_inside-requires-clause-under : goal.next_inside-requires-clause-under
next_inside-requires-clause-under g c = c.loop-step.invariant.at.under

pub loop-step-preserved : goal.loop-step-preserved
loop-step-preserved g c = record {
  at = at-next c.args.self.now c.state_law.ensures c.args.top c.loop-step.here c.in-Some.next (sym c.next_inside.ensures ∙ c.in-Some.is);
  asking = λ says told.
      asking-next c.args.self.now c.state_law.ensures c.args.top c.args.steps says c.loop-step.here c.in-Some.next c.loop-step._step (c.loop-step.invariant.asking says told) (sym (told _ _ c.test.ensures) ∙ c.if-test.false) (sym c.next_inside.ensures ∙ c.in-Some.is);
  within = omega (arith, c.loop-step-test.true);
  passed = omega (arith, c.loop-step.invariant.passed, smaller c.args.self.now c.state_law.ensures c.args.top c.loop-step.here c.in-Some.next (sym c.next_inside.ensures ∙ c.in-Some.is));
}

pub returns-in-None-clause-asked : goal.returns-in-None-clause-asked
returns-in-None-clause-asked g c = λ says told.
    asking-end c.args.self.now c.state_law.ensures c.args.top c.args.steps says c.loop-step.here c.loop-step._step c.loop-step.invariant.at (c.loop-step.invariant.asking says told) (sym (told _ _ c.test.ensures) ∙ c.if-test.false) c.loop-step-test.true (sym c.next_inside.ensures ∙ c.in-None.is)

pub returns-clause-asked : goal.returns-clause-asked
returns-clause-asked g c = λ says told.
    asking-stops c.args.self.now c.state_law.ensures c.args.top c.args.steps says c.loop-step.here c.loop-step._step c.loop-step.invariant.at (c.loop-step.invariant.asking says told)
    (omega (arith, c.loop-step.invariant.within, c.loop-step-test.false))

pub returns-clause-answered : goal.returns-clause-answered
returns-clause-answered g c few =
    let left = some_left c.args.self.now c.state_law.ensures c.args.top c.loop-step.here c.loop-step.invariant.at _ refl in
    let no : ⊥ = omega (arith, left, few, c.loop-step.invariant.passed) in
    absurd no
