-- What is inside is among the ends that are left.
use Rattle.std.proofs.Common.{◌≡◌, ℕ, drop}
use Rattle.std.specs.List.{list_any}
use Rattle.dom_model.specs.Definitions.{among, inclusive_descendants}
use Rattle.dom_chains.specs.Keyed.{keys_of}
use Rattle.dom_ranges.proofs.range_ends.refer.Given as goal

abbrev pub invariant-loop-id : goal.invariant-loop-id
invariant-loop-id g l =
    list_any (λ (m : ℕ). among m (inclusive_descendants l.tree.forest l.top)) (keys_of (drop l.id l.ends.items))
    ≡ list_any (λ (m : ℕ). among m (inclusive_descendants l.tree.forest l.top)) (keys_of l.ends.items)
