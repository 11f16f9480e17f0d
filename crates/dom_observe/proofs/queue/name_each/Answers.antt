-- The nodes of one record more are named.
use Rattle.std.proofs.Common.{◌≡◌, suc, ◌+◌, ◌∷◌, drop, ap, sym, ◌∙◌, nat_eq, arith, drop-cons, add-one}
use Rattle.indexmap.specs.IndexSet.{contains}
use Rattle.dom_observe.proofs.NamesNodesLemmas.{named-next, length-next}
use Rattle.dom_observe.proofs.queue.name_each.Goals as goal

pub loop-told-preserved : goal.loop-told-preserved
loop-told-preserved c =
    let rs = c.args.records.now in
    let i = c.loop-told.told-index in
    let r = c.told-item.result in
    let next : drop i rs ≡ r ∷ drop (i + 1) rs = rw (add-one, drop-cons rs i r c.loop-told-test.true) (ap (λ s. s ∷ drop (suc i) rs) (sym c.told-item.is)) in
    record {
      named = λ n. named-next rs i r next n (contains nat_eq c.loop-told.named n) (contains nat_eq c.name_nodes_of.new.named n) (c.name_nodes_of.ensures.named n) ∙ c.loop-told.invariant.named n;
      room = omega (arith, length-next rs i r next, c.loop-told.invariant.room, c.name_nodes_of.ensures.room);
    }
