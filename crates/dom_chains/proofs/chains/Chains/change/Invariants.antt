-- The items of the key that were passed are changed, and nothing else.
use Rattle.std.proofs.Common.{◌≡◌, length}
use Rattle.dom_chains.specs.Chained.{items_of, keyed, keys_in, links_of}
use Rattle.dom_chains.proofs.ChainWalkLemmas.{along, Walks, Changed}
use Rattle.dom_chains.proofs.chains.Chains.change.Given as goal

abbrev pub invariant-loop-id : goal.invariant-loop-id
invariant-loop-id g l =
    let t = l.self-inside.table in
    record {
      walk : Walks (keys_in t) l.key (links_of g.H.Heads.by_key t) l.here (Changed l.key (g.C.Change.changed l.change) l.fn.self.items (items_of t));
      same : record l.fn.self { items = items_of t } ≡ keyed g.H.Heads.by_key t;
    }

abbrev pub decreases-loop-id : goal.decreases-loop-id
decreases-loop-id g l = let nexts = (links_of g.H.Heads.by_key l.self-inside.table).nexts in length (along nexts (length nexts) l.here)
