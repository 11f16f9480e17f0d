-- The observer's registrations go from every node, and its queue is emptied.
use Rattle.dom_observe.proofs.{IsAwaitedLemmas.awaited-emptied, AgreeLemmas.agree-ended, NamedNodesLemmas.names-only, NamedNodesLemmas.none-ended, NamedNodesLemmas.tells-emptied, NamedNodesLemmas.same-there, InvariantLemmas.on-registered_nodes, InvariantLemmas.kept-emptied, InvariantLemmas.kept-others, InvariantLemmas.found-ended, InvariantLemmas.stand-ended, ObserverKeysLemmas.indexed-lost, QueueListLemmas.has-set, RosterLemmas.has-kept, RosterLemmas.lasting-there, RosterLemmas.passing-there, RosterLemmas.lasting-set, RosterLemmas.passing-set, RosterLemmas.queues-set, HaveSourcesLemmas.sources-ended, RegistrationTableLemmas.all_imply, WatchesLemmas.watches-filtered, WatchesLemmas.watches-taken}
use Rattle.std.proofs.Common.{◌≡◌, ℕ, true, List, [], Option, Some, length, filter, ap, sym, ◌∙◌, subst, inr, slice_set}
use Rattle.dom_model.specs.Definitions.{among, Record, disconnected}
use Rattle.dom_observe.specs.{declared.registration.EndedRegistrations.TheVariants.Of, declared.roster.Observer.Observer, Watchers.Watchers, Watchers.Watches, Watchers.on, Registrations.at, Registrations.spares, Invariant.registered_nodes, Invariant.has_queue, Invariant.AllThere, Invariant.HoldsInvariant, Invariant.IsAwaited, Roster.lasting_by, Roster.passing_by, Roster.queues_by, QueuedNodes.RecordsNameNone}
use Rattle.std.proofs.lemmas.List.{length-set}
use Rattle.dom_observe.proofs.observers.Observers.disconnect.Goals as goal

pub get_mut-kept-requires : goal.get_mut-kept-requires
get_mut-kept-requires c = sym (has-kept c.self.inside.roster c.args.observer) ∙ subst (λ (o : Watchers). has_queue o.queues c.args.observer ≡ true) (sym c.self.view_is) c.requires.held

pub end_all-requires-clause-lasting : goal.end_all-requires-clause-lasting
end_all-requires-clause-lasting c = λ k.
    ap (among k) (sym (lasting-there c.self.inside.roster c.args.observer c.get_mut-kept.result.now c.get_mut-kept.ensures.value)) ∙ c.self.invariant.1.lasting c.args.observer k

pub end_all-requires-clause-passing : goal.end_all-requires-clause-passing
end_all-requires-clause-passing c = λ k.
    ap (among k) (sym (passing-there c.self.inside.roster c.args.observer c.get_mut-kept.result.now c.get_mut-kept.ensures.value)) ∙ c.self.invariant.1.passing c.args.observer k

pub invariant_of-self : goal.invariant_of-self
invariant_of-self c =
    let a = c.self.inside in
    let o = c.args.observer in
    let qs = queues_by a.roster in
    let held_there = subst (λ (w : Watchers). has_queue w.queues o ≡ true) (sym c.self.view_is) c.requires.held in
    let u = at a.registrations in
    let v = at c.end_all.new.self in
    let lists = a.registrations.lists in
    let lists' = c.end_all.new.self.lists in
    let kept' : Observer = record c.end_all.new.kept { queue = c.take.new.self } in
    let roster' = slice_set a.roster o (Some kept') in
    let queues : queues_by roster' ≡ slice_set qs o (Some []) = queues-set a.roster o kept' ∙ ap (λ q. slice_set qs o (Some q)) c.take.ensures.emptied in
    let lasting : lasting_by roster' ≡ slice_set (lasting_by a.roster) o [] = lasting-set a.roster o kept' ∙ ap (slice_set (lasting_by a.roster) o) c.end_all.ensures.lasting in
    let passing : passing_by roster' ≡ slice_set (passing_by a.roster) o [] = passing-set a.roster o kept' ∙ ap (slice_set (passing_by a.roster) o) c.end_all.ensures.passing in
    let stand = stand-ended u v (Of o) lists lists' c.end_all.ensures.left c.end_all.ensures.swept (has_queue qs) c.self.invariant.0.stand in
    let kept = kept-others a.registrations qs a.pending.keys c.self.invariant.0 c.end_all.new.self c.state_law.ensures stand in
    let known : AllThere (has_queue (queues_by roster')) a.fleeting.keys =
    subst (λ q. AllThere (has_queue q) a.fleeting.keys) (sym queues)
    (all_imply (λ p. has_queue qs p ≡ true) (λ p. has_queue (slice_set qs o (Some [])) p ≡ true) (λ p there. has-set qs o held_there [] p ∙ there) a.fleeting.keys c.self.invariant.1.known) in (
      subst (λ q. HoldsInvariant c.end_all.new.self q a.pending.keys) (sym queues)
          (kept-emptied c.end_all.new.self qs a.pending.keys kept o held_there),
      indexed-lost u v a.roster roster' a.fleeting.keys o c.self.invariant.1 held_there c.end_all.ensures.left lasting passing a.fleeting.keys (λ p off. inr off) known,
      sources-ended u v (Of o) c.end_all.ensures.left c.self.invariant.2,
      agree-ended u v (Of o) c.end_all.ensures.left c.self.invariant.3,
      subst (λ q. IsAwaited q a.pending.keys a.untold.keys) (sym queues) (awaited-emptied qs a.pending.keys a.untold.keys c.self.invariant.4 o held_there),
      c.self.invariant.5,
    )

pub returns-clause-ended : goal.returns-clause-ended
returns-clause-ended c = λ x w.
    let a = c.self.inside in
    let i = c.args.observer in
    let qs = queues_by a.roster in
    let held_there = subst (λ (o : Watchers). has_queue o.queues i ≡ true) (sym c.self.view_is) c.requires.held in
    let kept' : Observer = record c.end_all.new.kept { queue = c.take.new.self } in
    let queues : queues_by (slice_set a.roster i (Some kept')) ≡ slice_set qs i (Some []) = queues-set a.roster i kept' ∙ ap (λ q. slice_set qs i (Some q)) c.take.ensures.emptied in
    let nodes' = registered_nodes c.end_all.new.self in
    let o : Watchers = record { nodes = registered_nodes a.registrations; queues = qs; pending = a.pending.keys } in
    let shown = subst (λ (o : Watchers). Watches o x) (sym c.self.view_is) w in
    let keep = spares (Of i) in
    let left : (n : ℕ) → on n nodes' ≡ filter keep (on n (registered_nodes a.registrations)) = λ n.
    on-registered_nodes c.end_all.new.self n
    ∙ found-ended (at a.registrations) (at c.end_all.new.self) (Of i) a.registrations.lists c.end_all.new.self.lists c.end_all.ensures.left c.end_all.ensures.swept n
    ∙ ap (filter keep) (sym (on-registered_nodes a.registrations n)) in
    let gone = watches-filtered o x shown keep nodes' left in
    subst (λ (q : List (Option (List Record))). Watches (record { nodes = nodes'; queues = q; pending = a.pending.keys }) (disconnected i x)) (sym queues)
    (watches-taken _ _ gone i held_there)

pub returns-clause-names : goal.returns-clause-names
returns-clause-names c =
    let a = c.self.inside in
    let o = c.args.observer in
    let qs = queues_by a.roster in
    let held_there = subst (λ (w : Watchers). has_queue w.queues o ≡ true) (sym c.self.view_is) c.requires.held in
    let u = at a.registrations in
    let v = at c.end_all.new.self in
    let lists = a.registrations.lists in
    let lists' = c.end_all.new.self.lists in
    let kept' : Observer = record c.end_all.new.kept { queue = c.take.new.self } in
    let roster' = slice_set a.roster o (Some kept') in
    let queues : queues_by roster' ≡ slice_set qs o (Some []) = queues-set a.roster o kept' ∙ ap (λ q. slice_set qs o (Some q)) c.take.ensures.emptied in
    let stand = stand-ended u v (Of o) lists lists' c.end_all.ensures.left c.end_all.ensures.swept (has_queue qs) c.self.invariant.0.stand in
    let kept = kept-others a.registrations qs a.pending.keys c.self.invariant.0 c.end_all.new.self c.state_law.ensures stand in
    let emptied = subst (λ q. HoldsInvariant c.end_all.new.self q a.pending.keys) (sym queues)
    (kept-emptied c.end_all.new.self qs a.pending.keys kept o held_there) in
    names-only a.registrations qs a.pending.keys c.args.self.now c.self.view_is c.end_all.new.self (queues_by roster') a.pending.keys emptied []
    (λ p _ names tells. (none-ended p u v (Of o) lists lists' c.end_all.ensures.left c.end_all.ensures.swept names, subst (RecordsNameNone p) (sym queues) (tells-emptied p qs o held_there tells)))

pub returns-clause-made : goal.returns-clause-made
returns-clause-made c =
    let a = c.self.inside in
    let o = c.args.observer in
    let qs = queues_by a.roster in
    let held_there = subst (λ (w : Watchers). has_queue w.queues o ≡ true) (sym c.self.view_is) c.requires.held in
    let kept' : Observer = record c.end_all.new.kept { queue = c.take.new.self } in
    let roster' = slice_set a.roster o (Some kept') in
    let queues : queues_by roster' ≡ slice_set qs o (Some []) = queues-set a.roster o kept' ∙ ap (λ q. slice_set qs o (Some q)) c.take.ensures.emptied in
    let new : Watchers = record { nodes = registered_nodes c.end_all.new.self; queues = queues_by roster'; pending = a.pending.keys } in
    same-there c.args.self.now new qs (ap (λ (w : Watchers). w.queues) c.self.view_is)
    (ap length queues ∙ length-set qs o (Some [])) (λ i. ap (λ q. has_queue q i) queues ∙ has-set qs o held_there [] i)
