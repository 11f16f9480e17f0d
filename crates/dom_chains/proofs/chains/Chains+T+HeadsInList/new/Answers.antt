use Rattle.std.proofs.Common.{map, Some, ap}
use Rattle.dom_chains.specs.{declared.heads.HeadsInList.HeadsInList, Chained.head_at}
use Rattle.dom_chains.proofs.TableStepLemmas.{chains-new}
use Rattle.dom_chains.proofs.chains.Chains+T+HeadsInList.new.Goals as goal

pub invariant_of-result : goal.invariant_of-result
invariant_of-result g c =
    chains-new (λ (h : HeadsInList). map (λ first. Some first) h.heads.items) (record { seats = c.new.result; heads = c.new-2.result }) c.new.ensures.items (λ n. ap (λ fs. head_at (map (λ first. Some first) fs) n) c.new-2.ensures)
