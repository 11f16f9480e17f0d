-- The heads of all keys lead nowhere.
use Rattle.std.proofs.Common.{true, None, Some, map, replicate, ap, ◌∙◌, arith}
use Rattle.std.proofs.lemmas.List.{length-replicate}
use Rattle.dom_chains.specs.{declared.heads.HeadsInList.HeadsInList, Chained.cover_of, Chained.head_at, Chained.seat_item}
use Rattle.dom_chains.proofs.{CoversLemmas.cover-all, CoversLemmas.head-free, TableStepLemmas.chains-new, TableStepLemmas.keyed-is}
use Rattle.dom_chains.proofs.chains.Chains+T+HeadsInList.of.Goals as goal

pub invariant_of-result : goal.invariant_of-result
invariant_of-result g c =
    chains-new (λ (h : HeadsInList). map (λ first. Some first) h.heads.items) (record { seats = c.new.result; heads = c.in_ok-heads.heads }) c.new.ensures.items
    (λ n. ap (λ fs. head_at (map (λ first. Some first) fs) n) c.in_ok-heads.ensures ∙ head-free c.args.count n)

pub returns : goal.returns
returns g c =
    keyed-is (ap (map seat_item) c.new.ensures.items)
    (ap (λ fs. cover_of (map (λ first. Some first) fs)) c.in_ok-heads.ensures ∙ cover-all (replicate c.args.count None) ∙ ap (λ n. replicate n true) (length-replicate c.args.count None))
    (omega (arith, c.new.ensures.capacity))
