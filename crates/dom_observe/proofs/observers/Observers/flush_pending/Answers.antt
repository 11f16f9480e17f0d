-- The queues stay, and who was taken and not told is still there.
use Rattle.std.proofs.Common.{◌≡◌, sym, ◌∙◌, subst}
use Rattle.dom_observe.specs.{Invariant.AllThere, Invariant.registered_nodes, Invariant.has_queue, Invariant.HoldsInvariant, Invariant.IsAwaited, Roster.queues_by}
use Rattle.dom_observe.proofs.ObserverKeysLemmas.{indexed-same}
use Rattle.dom_observe.proofs.observers.Observers.flush_pending.Goals as goal

pub flush_each-requires-2 : goal.flush_each-requires-2
flush_each-requires-2 c = subst (λ qs. AllThere (has_queue qs) c.self.inside.untold.keys) (sym c.flush_each.ensures.queues) c.self.invariant.4.there

pub invariant_of-self : goal.invariant_of-self
invariant_of-self c =
    let a = c.self.inside in
    let queues = c.flush_each-2.ensures.queues ∙ c.flush_each.ensures.queues in (
      subst (λ qs. HoldsInvariant a.registrations qs a.pending.keys) (sym queues) c.self.invariant.0,
      indexed-same _ a.fleeting.keys a.roster c.flush_each-2.new.roster c.self.invariant.1 (c.flush_each-2.ensures.keys ∙ c.flush_each.ensures.keys),
      c.self.invariant.2,
      c.self.invariant.3,
      subst (λ qs. IsAwaited qs a.pending.keys a.untold.keys) (sym queues) c.self.invariant.4,
      c.self.invariant.5,
    )

pub returns : goal.returns
returns c =
    let a = c.self.inside in
    let queues = c.flush_each-2.ensures.queues ∙ c.flush_each.ensures.queues in
    let same : record { nodes = registered_nodes a.registrations; queues = queues_by c.flush_each-2.new.roster; pending = a.pending.keys }
    ≡ record { nodes = registered_nodes a.registrations; queues = queues_by a.roster; pending = a.pending.keys } = λ i. record { nodes = registered_nodes a.registrations; queues = queues i; pending = a.pending.keys } in
    same ∙ c.self.view_is
