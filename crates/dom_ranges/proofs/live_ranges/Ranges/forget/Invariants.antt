-- The walk stands inside, the ranges are as they were, and the nodes that were passed are covered no more.
use Rattle.std.proofs.Common.{length}
use Rattle.dom_model.specs.Definitions.{IsForest, inclusive_descendants, from_first}
use Rattle.dom_ranges.proofs.ForgetInsideLemmas.{IsForgetting}
use Rattle.dom_ranges.proofs.live_ranges.Ranges.forget.Given as goal

abbrev pub invariant-loop-next : goal.invariant-loop-next
invariant-loop-next g l = (s : IsForest l.tree) → IsForgetting l.tree s l.top l.fn.self l.self l.here

abbrev pub decreases-loop-next : goal.decreases-loop-next
decreases-loop-next g l = length (from_first l.here (inclusive_descendants l.tree.forest l.top))
