-- A way up of as many steps as were made.
use Rattle.std.proofs.Common.{◌≡◌, ◌+◌, length, None, option_map}
use Rattle.std.specs.Option.{ForSome}
use Rattle.dom_model.specs.Definitions.{ancestors}
use Rattle.dom_links.specs.Placed.{IsPlaced}
use Rattle.dom_tree.specs.{PathsUp.IsOnWay, Places.called}
use Rattle.dom_tree.proofs.tree.Tree.climbed.Given as goal

abbrev pub invariant-loop-passed : goal.invariant-loop-passed
invariant-loop-passed g l = record {
  held : IsPlaced l.self-inside.links l.here;
  child_held : ForSome l.child (λ p. IsPlaced l.self-inside.links p);
  way : IsOnWay l.self.forest l.fn.id (called l.self-inside.links l.here) (option_map (called l.self-inside.links) l.child);
  counted : length (ancestors (called l.self-inside.links l.here) l.self.forest) + l._passed ≡ length (ancestors l.fn.id l.self.forest);
  start : (l._passed ≡ 0 → l.child ≡ None);
}
