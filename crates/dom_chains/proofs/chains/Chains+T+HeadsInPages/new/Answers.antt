use Rattle.std.proofs.Common.{ap}
use Rattle.dom_chains.specs.{declared.heads.HeadsInPages.HeadsInPages, Chained.head_at}
use Rattle.dom_chains.proofs.TableStepLemmas.{chains-new}
use Rattle.dom_chains.proofs.chains.Chains+T+HeadsInPages.new.Goals as goal

pub invariant_of-result : goal.invariant_of-result
invariant_of-result g c = chains-new (λ (h : HeadsInPages). h.heads.items) (record { seats = c.new.result; heads = c.new-2.result }) c.new.ensures.items (λ n. ap (λ hs. head_at hs n) c.new-2.ensures)
