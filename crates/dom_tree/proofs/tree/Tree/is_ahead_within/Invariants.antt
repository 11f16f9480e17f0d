-- The other child has not been met on either side.
use Rattle.std.proofs.Common.{◌≡◌, ◌+◌, nat_lt}
use Rattle.dom_links.specs.Placed.{IsPlaced}
use Rattle.dom_model.specs.Definitions.{parent_of, index_of}
use Rattle.dom_tree.specs.Places.{called}
use Rattle.dom_tree.proofs.tree.Tree.is_ahead_within.Given as goal

abbrev pub invariant-loop-passed : goal.invariant-loop-passed
invariant-loop-passed g l = record {
  forward_held : IsPlaced l.self-inside.links l.forward;
  forward_beside : parent_of l.self.forest (called l.self-inside.links l.forward) ≡ parent_of l.self.forest l.fn.a;
  forward_same : nat_lt (index_of l.self.forest (called l.self-inside.links l.forward)) (index_of l.self.forest l.fn.b) ≡ nat_lt (index_of l.self.forest l.fn.a) (index_of l.self.forest l.fn.b);
  forward_counted : l._passed + index_of l.self.forest l.fn.a ≡ index_of l.self.forest (called l.self-inside.links l.forward);
  backward_held : IsPlaced l.self-inside.links l.backward;
  backward_beside : parent_of l.self.forest (called l.self-inside.links l.backward) ≡ parent_of l.self.forest l.fn.a;
  backward_same : nat_lt (index_of l.self.forest l.fn.b) (index_of l.self.forest (called l.self-inside.links l.backward)) ≡ nat_lt (index_of l.self.forest l.fn.b) (index_of l.self.forest l.fn.a);
}
