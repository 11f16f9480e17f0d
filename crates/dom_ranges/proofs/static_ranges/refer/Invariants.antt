-- What is inside is among the ranges that are left.
use Rattle.std.proofs.Common.{◌≡◌, ℕ, drop}
use Rattle.std.specs.List.{list_any, flat_map}
use Rattle.dom_model.specs.Definitions.{among, inclusive_descendants, nodes_of_range}
use Rattle.dom_ranges.proofs.static_ranges.refer.Given as goal

abbrev pub invariant-loop-range : goal.invariant-loop-range
invariant-loop-range g l =
    list_any (λ (m : ℕ). among m (inclusive_descendants l.tree.forest l.top)) (flat_map nodes_of_range (drop l.range-index l.ranges))
    ≡ list_any (λ (m : ℕ). among m (inclusive_descendants l.tree.forest l.top)) (flat_map nodes_of_range l.ranges)
