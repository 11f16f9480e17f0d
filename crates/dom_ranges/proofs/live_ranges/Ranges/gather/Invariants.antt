-- The ends in the nodes that were passed have been gathered.
use Rattle.dom_model.specs.Definitions.{IsForest}
use Rattle.dom_ranges.proofs.ForgetInsideLemmas.{IsGathered}
use Rattle.dom_ranges.proofs.live_ranges.Ranges.gather.Given as goal

abbrev pub invariant-loop-step : goal.invariant-loop-step
invariant-loop-step g l = (s : IsForest l.tree) → IsGathered l.tree s l.top l.fn.self l.self l.to l.here
