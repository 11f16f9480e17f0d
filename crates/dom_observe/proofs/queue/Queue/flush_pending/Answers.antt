-- The nodes of the records that came since are named.
use Rattle.std.proofs.Common.{◌≡◌, ◌-◌, ◌||◌, length, take, drop, ap, sym, ◌∙◌, nat_eq, arith, take_all, length-drop, flat_map}
use Rattle.indexmap.specs.IndexSet.{contains}
use Rattle.dom_model.specs.Definitions.{among, nodes_of_record}
use Rattle.dom_observe.proofs.NamesNodesLemmas.{caught_up-all}
use Rattle.dom_observe.proofs.queue.Queue.flush_pending.Goals as goal

pub invariant_of-self : goal.invariant_of-self
invariant_of-self c =
    let q = c.self.inside in
    let rs = q.records.items in
    let all : c.len-self-inside.result ≡ length rs = c.len-self-inside.ensures ∙ sym c.as_slice.ensures.len ∙ ap length c.as_slice.ensures.value in
    let rest : take (length c.as_slice.result.now - q.caught_up) (drop q.caught_up c.as_slice.result.now) ≡ drop q.caught_up rs =
    take_all (length c.as_slice.result.now - q.caught_up) (drop q.caught_up c.as_slice.result.now) (omega (arith, length-drop q.caught_up c.as_slice.result.now)) ∙ ap (drop q.caught_up) c.as_slice.ensures.value in
    caught_up-all rs q.named c.name_each.new.named q.caught_up q.owed c.len-self-inside.result c.self.invariant all
    (λ n. c.name_each.ensures n ∙ ap (λ l. contains nat_eq q.named n || among n (flat_map nodes_of_record l)) rest)
