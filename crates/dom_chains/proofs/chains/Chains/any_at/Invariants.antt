-- The test said no of the items of the key that were passed.
use Rattle.std.proofs.Common.{false, length}
use Rattle.dom_chains.specs.Chained.{items_of, keys_in, links_of}
use Rattle.dom_chains.proofs.ChainWalkLemmas.{along, Walks, Asked}
use Rattle.dom_chains.proofs.chains.Chains.any_at.Given as goal

abbrev pub invariant-loop-id : goal.invariant-loop-id
invariant-loop-id g l =
    let t = l.self-inside.table in
    Walks (keys_in t) l.key (links_of g.H.Heads.by_key t) l.here (Asked l.key (items_of t) (λ x. goal.F-post g l.test x false))

abbrev pub decreases-loop-id : goal.decreases-loop-id
decreases-loop-id g l = let nexts = (links_of g.H.Heads.by_key l.self-inside.table).nexts in length (along nexts (length nexts) l.here)
