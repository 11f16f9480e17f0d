-- As many steps to both sides as were made, and the places of where the walk stands.
use Rattle.std.proofs.Common.{◌≡◌, ◌+◌}
use Rattle.dom_links.specs.Placed.{IsPlaced}
use Rattle.dom_model.specs.Definitions.{parent_of, index_of}
use Rattle.dom_tree.specs.Places.{called}
use Rattle.dom_tree.proofs.tree.Tree.index_by_steps.Given as goal

abbrev pub invariant-loop-passed : goal.invariant-loop-passed
invariant-loop-passed g l = record {
  backward_held : IsPlaced l.self-inside.links l.backward;
  backward_beside : parent_of l.self.forest (called l.self-inside.links l.backward) ≡ parent_of l.self.forest l.fn.id;
  backward_counted : l.passed + index_of l.self.forest (called l.self-inside.links l.backward) ≡ index_of l.self.forest l.fn.id;
  forward_held : IsPlaced l.self-inside.links l.forward;
  forward_beside : parent_of l.self.forest (called l.self-inside.links l.forward) ≡ parent_of l.self.forest l.fn.id;
  forward_counted : l.passed + index_of l.self.forest l.fn.id ≡ index_of l.self.forest (called l.self-inside.links l.forward);
}
