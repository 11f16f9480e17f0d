-- One queue is emptied.
use Rattle.dom_observe.proofs.{IsAwaitedLemmas.awaited-emptied, NamedNodesLemmas.names-only, NamedNodesLemmas.tells-emptied, NamedNodesLemmas.same-there, InvariantLemmas.kept-emptied, ObserverKeysLemmas.indexed-same, RosterLemmas.has-same, RosterLemmas.length-same, WatchesLemmas.watches-taken}
use Rattle.std.proofs.Common.{◌≡◌, ℕ, true, [], ap, sym, ◌∙◌, subst, List, Option, Some, slice_set}
use Rattle.dom_model.specs.Definitions.{Registration, Record, records_taken}
use Rattle.dom_observe.specs.{Watchers.Watchers, Watchers.Watches, Watchers.records_at, Registrations.at, Invariant.registered_nodes, Invariant.has_queue, Invariant.HoldsInvariant, Invariant.IsAwaited, Roster.queues_by, QueuedNodes.RecordsNameNone}
use Rattle.dom_observe.proofs.observers.Observers.take.Goals as goal

pub take_from-requires : goal.take_from-requires
take_from-requires c = subst (λ (o : Watchers). has_queue o.queues c.args.observer ≡ true) (sym c.self.view_is) c.requires.held

pub invariant_of-self : goal.invariant_of-self
invariant_of-self c =
    let a = c.self.inside in
    let held_there = subst (λ (o : Watchers). has_queue o.queues c.args.observer ≡ true) (sym c.self.view_is) c.requires.held in (
      subst (λ (qs : List (Option (List Record))). HoldsInvariant a.registrations qs a.pending.keys) (sym c.take_from.ensures.emptied)
          (kept-emptied a.registrations (queues_by a.roster) a.pending.keys c.self.invariant.0 c.args.observer held_there),
      indexed-same (at a.registrations) a.fleeting.keys a.roster c.take_from.new.roster c.self.invariant.1 c.take_from.ensures.keys,
      c.self.invariant.2,
      c.self.invariant.3,
      subst (λ (qs : List (Option (List Record))). IsAwaited qs a.pending.keys a.untold.keys) (sym c.take_from.ensures.emptied)
          (awaited-emptied (queues_by a.roster) a.pending.keys a.untold.keys c.self.invariant.4 c.args.observer held_there),
      c.self.invariant.5,
    )

pub returns-clause-records : goal.returns-clause-records
returns-clause-records c = λ x w.
    let shown = subst (λ (o : Watchers). Watches o x) (sym c.self.view_is) w in
    c.take_from.ensures.records ∙ shown.queues c.args.observer

pub returns-clause-taken : goal.returns-clause-taken
returns-clause-taken c = λ x w.
    let a = c.self.inside in
    let o : Watchers = record { nodes = registered_nodes a.registrations; queues = queues_by a.roster; pending = a.pending.keys } in
    let shown = subst (λ (o : Watchers). Watches o x) (sym c.self.view_is) w in
    let held_there = subst (λ (o : Watchers). has_queue o.queues c.args.observer ≡ true) (sym c.self.view_is) c.requires.held in
    subst (λ (qs : List (Option (List Record))). Watches (record { nodes = registered_nodes a.registrations; queues = qs; pending = a.pending.keys }) (records_taken c.args.observer x)) (sym c.take_from.ensures.emptied)
    (watches-taken o x shown c.args.observer held_there)

pub returns-clause-names : goal.returns-clause-names
returns-clause-names c =
    let a = c.self.inside in
    let qs = queues_by a.roster in
    let held_there = subst (λ (o : Watchers). has_queue o.queues c.args.observer ≡ true) (sym c.self.view_is) c.requires.held in
    let kept =
    subst (λ (qs : List (Option (List Record))). HoldsInvariant a.registrations qs a.pending.keys) (sym c.take_from.ensures.emptied)
    (kept-emptied a.registrations qs a.pending.keys c.self.invariant.0 c.args.observer held_there) in
    names-only a.registrations qs a.pending.keys c.args.self.now c.self.view_is a.registrations (queues_by c.take_from.new.roster) a.pending.keys kept []
    (λ p _ names tells. (names, subst (RecordsNameNone p) (sym c.take_from.ensures.emptied) (tells-emptied p qs c.args.observer held_there tells)))

pub returns-clause-made : goal.returns-clause-made
returns-clause-made c =
    let a = c.self.inside in
    let new : Watchers = record { nodes = registered_nodes a.registrations; queues = queues_by c.take_from.new.roster; pending = a.pending.keys } in
    same-there c.args.self.now new (queues_by a.roster) (ap (λ (o : Watchers). o.queues) c.self.view_is)
    (length-same a.roster c.take_from.new.roster c.take_from.ensures.keys) (has-same a.roster c.take_from.new.roster c.take_from.ensures.keys)

pub returns-clause-own : goal.returns-clause-own
returns-clause-own c = c.take_from.ensures.records ∙ ap (λ (o : Watchers). records_at o.queues c.args.observer) c.self.view_is

abbrev with_queues : List (ℕ × List Registration) → List ℕ → List (Option (List Record)) → Watchers
with_queues nodes pending queues = record { nodes = nodes; queues = queues; pending = pending }

abbrev with_emptied : ℕ → Watchers → Watchers
with_emptied i o = record o { queues = slice_set o.queues i (Some []) }

pub returns-clause-left : goal.returns-clause-left
returns-clause-left c =
    let a = c.self.inside in
    ap (with_queues (registered_nodes a.registrations) a.pending.keys) c.take_from.ensures.emptied ∙ ap (with_emptied c.args.observer) c.self.view_is
