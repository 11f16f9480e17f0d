-- What the test finds in the steps that are left is what the whole finds, and each step passed one node.
use Rattle.std.proofs.Common.{◌≡◌, ◌+◌, ◌≤◌, ℕ, Bool, length}
use Rattle.dom_model.specs.Definitions.{from_first, inclusive_descendants}
use Rattle.dom_model.proofs.Forests.TreeOrder.InsideWalks.{IsAt}
use Rattle.dom_tree.proofs.FirstFoundLemmas.{IsAsking}
use Rattle.dom_tree.proofs.tree.Tree.any_inside.Given as goal

abbrev pub invariant-loop-step : goal.invariant-loop-step
invariant-loop-step g l = record {
  at : IsAt l.self.forest l.top l.here;
  asking : (says : ℕ → Bool) → ((n : ℕ) (passes : Bool) → goal.F-post g l.test n passes → passes ≡ says n) → IsAsking l.self.forest l.top l.steps says l.here l._step;
  within : l._step ≤ l.steps;
  passed : l._step + length (from_first l.here (inclusive_descendants l.self.forest l.top)) ≤ length (inclusive_descendants l.self.forest l.top);
}
