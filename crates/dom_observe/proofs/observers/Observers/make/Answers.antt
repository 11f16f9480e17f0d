-- One more queue, and nothing in it.
use Rattle.dom_observe.proofs.{IsAwaitedLemmas.awaited-made, NamedNodesLemmas.names-only, NamedNodesLemmas.names-same, NamedNodesLemmas.tells-grown, InvariantLemmas.kept-made, ObserverKeysLemmas.indexed-more, ResultLemmas.on_ok, ResultLemmas.on_err, ResultLemmas.both_ok, ResultLemmas.by_one, ResultLemmas.by_both, RosterLemmas.length-queues, WatchesLemmas.watches-made}
use Rattle.std.proofs.Common.{List, [], ◌∷◌, ◌++◌, Option, Some, None, length, is_some, ap, sym, ◌∙◌, subst}
use Rattle.std.proofs.Math.Seq.{get_or-append_seam}
use Rattle.dom_model.specs.Definitions.{with_observer}
use Rattle.dom_observe.specs.{declared.roster.Observer.Observer, Watchers.Watchers, Watchers.Watches, Registrations.at, Invariant.registered_nodes, Invariant.has_queue, Invariant.HoldsInvariant, Invariant.IsIndexed, Invariant.IsAwaited, Roster.lasting_by, Roster.passing_by, Roster.queues_by, ObservedNodes.NamesOnly, QueuedNodes.RecordsNameNone}
use Rattle.dom_observe.proofs.observers.Observers.make.Goals as goal

pub invariant_of-self : goal.invariant_of-self
invariant_of-self c =
    let a = c.self.inside in
    let new = c.make.new.self in
    by_both c.make.result c.make.ensures.keys c.make.ensures.queues c.make.ensures.err
    (λ keys queues. (
      subst (λ qs. HoldsInvariant a.registrations qs a.pending.keys) (sym queues) (kept-made a.registrations (queues_by a.roster) a.pending.keys c.self.invariant.0),
      indexed-more (at a.registrations) a.fleeting.keys a.roster new c.self.invariant.1 keys queues,
      c.self.invariant.2,
      c.self.invariant.3,
      subst (λ qs. IsAwaited qs a.pending.keys a.untold.keys) (sym queues) (awaited-made (queues_by a.roster) a.pending.keys a.untold.keys c.self.invariant.4),
      c.self.invariant.5,
    ))
    (λ same. (
      subst (λ r. HoldsInvariant a.registrations (queues_by r) a.pending.keys) (sym same) c.self.invariant.0,
      subst (λ r. IsIndexed (at a.registrations) (lasting_by r) (passing_by r) a.fleeting.keys (has_queue (queues_by r))) (sym same) c.self.invariant.1,
      c.self.invariant.2,
      c.self.invariant.3,
      subst (λ r. IsAwaited (queues_by r) a.pending.keys a.untold.keys) (sym same) c.self.invariant.4,
      c.self.invariant.5,
    ))

pub returns-clause-ok : goal.returns-clause-ok
returns-clause-ok c =
    on_ok c.make.result c.make.ensures.queues (λ queues x w.
    let a = c.self.inside in
    let o : Watchers = record { nodes = registered_nodes a.registrations; queues = queues_by a.roster; pending = a.pending.keys } in
    let shown = subst (λ (o : Watchers). Watches o x) (sym c.self.view_is) w in
    subst (λ qs. Watches (record { nodes = registered_nodes a.registrations; queues = qs; pending = a.pending.keys }) (with_observer x)) (sym queues) (watches-made o x shown))

pub returns-clause-made : goal.returns-clause-made
returns-clause-made c = on_ok c.make.result c.make.ensures.queues (λ queues. queues ∙ ap (λ (o : Watchers). o.queues ++ Some [] ∷ []) c.self.view_is)

pub returns-clause-number : goal.returns-clause-number
returns-clause-number c =
    both_ok c.make.result c.make.ensures.number c.make.ensures.queues (λ id first _.
    first ∙ sym (length-queues c.self.inside.roster) ∙ ap (λ (o : Watchers). length o.queues) c.self.view_is)

pub returns-clause-held : goal.returns-clause-held
returns-clause-held c =
    both_ok c.make.result c.make.ensures.number c.make.ensures.queues (λ id first queues.
    let old = queues_by c.self.inside.roster in
    ap (λ i. has_queue (queues_by c.make.new.self) i) (first ∙ sym (length-queues c.self.inside.roster))
    ∙ ap (λ qs. has_queue qs (length old)) queues
    ∙ ap is_some (get_or-append_seam old (Some []) [] None))

pub returns-clause-err : goal.returns-clause-err
returns-clause-err c =
    on_err c.make.result c.make.ensures.err (λ same.
    let a = c.self.inside in
    let seen : List (Option Observer) → Watchers = λ r. record { nodes = registered_nodes a.registrations; queues = queues_by r; pending = a.pending.keys } in
    ap seen same ∙ c.self.view_is)

pub returns-clause-names : goal.returns-clause-names
returns-clause-names c =
    let a = c.self.inside in
    let qs = queues_by a.roster in
    let seen : List (Option Observer) → Watchers = λ r. record { nodes = registered_nodes a.registrations; queues = queues_by r; pending = a.pending.keys } in
    by_one c.make.result c.make.ensures.queues c.make.ensures.err
    (λ queues.
    let kept = subst (λ q. HoldsInvariant a.registrations q a.pending.keys) (sym queues) (kept-made a.registrations qs a.pending.keys c.self.invariant.0) in
    names-only a.registrations qs a.pending.keys c.args.self.now c.self.view_is a.registrations (queues_by c.make.new.self) a.pending.keys kept []
    (λ p _ names tells. (names, subst (RecordsNameNone p) (sym queues) (tells-grown p qs tells))))
    (λ same.
    subst (λ r. NamesOnly [] c.args.self.now (seen r)) (sym same)
    (subst (NamesOnly [] c.args.self.now) (sym c.self.view_is) (names-same a.registrations qs a.pending.keys c.self.invariant.0 c.args.self.now c.self.view_is [])))
