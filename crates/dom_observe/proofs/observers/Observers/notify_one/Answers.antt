-- The observer's queue is emptied, and its transient registrations go.
use Rattle.std.proofs.Common.{arith, ◌≡◌, ℕ, true, if◌then◌else◌, List, [], Option, Some, length, filter, refl, ap, sym, ◌∙◌, subst, slice_index_or, slice_set, unwrap_or}
use Rattle.dom_model.specs.Definitions.{among, Record, observer_told}
use Rattle.dom_observe.specs.{declared.registration.EndedRegistrations.TheVariants.TransientOf, declared.roster.Observer.Observer, Watchers.Watchers, Watchers.Watches, Watchers.records_at, Watchers.on, Registrations.at, Registrations.is_live, Registrations.unless_ended, Registrations.spares, Invariant.registered_nodes, Invariant.has_queue, Invariant.HoldsInvariant, Invariant.IsAwaited, Roster.lasting_by, Roster.passing_by, Roster.queues_by, QueuedNodes.RecordsNameNone}
use Rattle.dom_observe.proofs.{AgreeLemmas.agree-ended, IsAwaitedLemmas.awaited-told, IsAwaitedLemmas.told-left, NamedNodesLemmas.names-only, NamedNodesLemmas.none-ended, NamedNodesLemmas.tells-emptied, NamedNodesLemmas.same-there, IsIndexedLemmas.indexed-passing_ended, InvariantLemmas.on-registered_nodes, InvariantLemmas.kept-emptied, InvariantLemmas.kept-others, InvariantLemmas.found-ended, InvariantLemmas.stand-ended, ObserverKeysLemmas.indexed-by, QueueListLemmas.has-set, RosterLemmas.has-kept, RosterLemmas.within-passing, RosterLemmas.passing-there, RosterLemmas.lasting-same, RosterLemmas.passing-set, RosterLemmas.queues-set, RosterLemmas.queue-there, HaveSourcesLemmas.sources-ended, WatchesLemmas.watches-filtered, WatchesLemmas.watches-taken}
use Rattle.std.proofs.lemmas.List.{length-set}
use Rattle.dom_observe.proofs.observers.Observers.notify_one.Goals as goal

pub get_mut-kept-requires : goal.get_mut-kept-requires
get_mut-kept-requires c = sym (has-kept c.self.inside.roster c.args.observer) ∙ subst (λ (o : Watchers). has_queue o.queues c.args.observer ≡ true) (sym c.self.view_is) c.requires.held

pub end_own-requires : goal.end_own-requires
end_own-requires c = λ k.
    ap (among k) (sym (passing-there c.self.inside.roster c.args.observer c.get_mut-kept.result.now c.get_mut-kept.ensures.value)) ∙ c.self.invariant.1.passing c.args.observer k

pub invariant_of-self : goal.invariant_of-self
invariant_of-self c =
    let a = c.self.inside in
    let o = c.args.observer in
    let qs = queues_by a.roster in
    let there = has_queue qs in
    let held_there = subst (λ (w : Watchers). has_queue w.queues o ≡ true) (sym c.self.view_is) c.requires.held in
    let u = at a.registrations in
    let v = at c.end_own.new.self in
    let lists = a.registrations.lists in
    let lists' = c.end_own.new.self.lists in
    let had = passing-there a.roster o c.get_mut-kept.result.now c.get_mut-kept.ensures.value in
    let ended : (k : ℕ) → v k ≡ (if among k (slice_index_or (passing_by a.roster) o []) then unless_ended (TransientOf o) (u k) else u k) = λ k.
    c.end_own.ensures.left k ∙ ap (λ ks. if among k ks then unless_ended (TransientOf o) (u k) else u k) (sym had) in
    let left = told-left u v (lasting_by a.roster) (passing_by a.roster) a.fleeting.keys there o c.self.invariant.1 ended in
    let kept' : Observer = record c.get_mut-kept.result.now { passing = c.end_own.new.keys; queue = c.take.new.self } in
    let roster' = slice_set a.roster o (Some kept') in
    let queues : queues_by roster' ≡ slice_set qs o (Some []) = queues-set a.roster o kept' ∙ ap (λ q. slice_set qs o (Some q)) c.take.ensures.emptied in
    let passing : passing_by roster' ≡ slice_set (passing_by a.roster) o (filter (is_live v) (slice_index_or (passing_by a.roster) o [])) =
    passing-set a.roster o kept' ∙ ap (slice_set (passing_by a.roster) o) (c.end_own.ensures.keys ∙ ap (filter (is_live v)) (sym had)) in
    let lasting = lasting-same a.roster o c.get_mut-kept.result.now c.get_mut-kept.ensures.value kept' refl in
    let stand = stand-ended u v (TransientOf o) lists lists' left c.end_own.ensures.swept there c.self.invariant.0.stand in
    let kept = kept-others a.registrations qs a.pending.keys c.self.invariant.0 c.end_own.new.self c.state_law.ensures stand in (
      subst (λ q. HoldsInvariant c.end_own.new.self q a.pending.keys) (sym queues)
          (kept-emptied c.end_own.new.self qs a.pending.keys kept o held_there),
      indexed-by v a.fleeting.keys roster' (lasting_by a.roster) (slice_set (passing_by a.roster) o (filter (is_live v) (slice_index_or (passing_by a.roster) o []))) there lasting passing
          (λ i yet. ap (λ q. has_queue q i) queues ∙ has-set qs o held_there [] i ∙ yet)
          (indexed-passing_ended u v (lasting_by a.roster) (passing_by a.roster) a.fleeting.keys there o (TransientOf o) c.self.invariant.1 _ (within-passing a.roster o held_there) ended refl),
      sources-ended u v (TransientOf o) left c.self.invariant.2,
      agree-ended u v (TransientOf o) left c.self.invariant.3,
      subst (λ q. IsAwaited q a.pending.keys c.swap_remove.new.self.keys) (sym queues)
          (awaited-told qs a.pending.keys a.untold.keys c.self.invariant.4 o held_there c.swap_remove.new.self.keys c.swap_remove.ensures.updates.0),
      omega (arith, c.self.invariant.5, c.swap_remove.ensures.room.0),
    )

pub returns-clause-told : goal.returns-clause-told
returns-clause-told c = λ x w.
    let a = c.self.inside in
    let o = c.args.observer in
    let qs = queues_by a.roster in
    let held_there = subst (λ (w : Watchers). has_queue w.queues o ≡ true) (sym c.self.view_is) c.requires.held in
    let u = at a.registrations in
    let v = at c.end_own.new.self in
    let had = passing-there a.roster o c.get_mut-kept.result.now c.get_mut-kept.ensures.value in
    let ended : (k : ℕ) → v k ≡ (if among k (slice_index_or (passing_by a.roster) o []) then unless_ended (TransientOf o) (u k) else u k) = λ k.
    c.end_own.ensures.left k ∙ ap (λ ks. if among k ks then unless_ended (TransientOf o) (u k) else u k) (sym had) in
    let left = told-left u v (lasting_by a.roster) (passing_by a.roster) a.fleeting.keys (has_queue qs) o c.self.invariant.1 ended in
    let kept' : Observer = record c.get_mut-kept.result.now { passing = c.end_own.new.keys; queue = c.take.new.self } in
    let queues : queues_by (slice_set a.roster o (Some kept')) ≡ slice_set qs o (Some []) = queues-set a.roster o kept' ∙ ap (λ q. slice_set qs o (Some q)) c.take.ensures.emptied in
    let nodes' = registered_nodes c.end_own.new.self in
    let seen : Watchers = record { nodes = registered_nodes a.registrations; queues = qs; pending = a.pending.keys } in
    let shown = subst (λ (o : Watchers). Watches o x) (sym c.self.view_is) w in
    let keep = spares (TransientOf o) in
    let swept : (n : ℕ) → on n nodes' ≡ filter keep (on n (registered_nodes a.registrations)) = λ n.
    on-registered_nodes c.end_own.new.self n
    ∙ found-ended u v (TransientOf o) a.registrations.lists c.end_own.new.self.lists left c.end_own.ensures.swept n
    ∙ ap (filter keep) (sym (on-registered_nodes a.registrations n)) in
    let gone = watches-filtered seen x shown keep nodes' swept in
    subst (λ (q : List (Option (List Record))). Watches (record { nodes = nodes'; queues = q; pending = a.pending.keys }) (observer_told o x)) (sym queues)
    (watches-taken _ _ gone o held_there)

pub returns-clause-records : goal.returns-clause-records
returns-clause-records c = λ x w.
    let shown = subst (λ (o : Watchers). Watches o x) (sym c.self.view_is) w in
    c.take.ensures.records ∙ sym (ap (λ q. unwrap_or q []) (queue-there c.self.inside.roster c.args.observer c.get_mut-kept.result.now c.get_mut-kept.ensures.value)) ∙ shown.queues c.args.observer

pub returns-clause-own : goal.returns-clause-own
returns-clause-own c =
    c.take.ensures.records ∙ sym (ap (λ q. unwrap_or q []) (queue-there c.self.inside.roster c.args.observer c.get_mut-kept.result.now c.get_mut-kept.ensures.value))
    ∙ ap (λ (o : Watchers). records_at o.queues c.args.observer) c.self.view_is

pub returns-clause-queues : goal.returns-clause-queues
returns-clause-queues c =
    let a = c.self.inside in
    let o = c.args.observer in
    let kept' : Observer = record c.get_mut-kept.result.now { passing = c.end_own.new.keys; queue = c.take.new.self } in
    queues-set a.roster o kept' ∙ ap (λ q. slice_set (queues_by a.roster) o (Some q)) c.take.ensures.emptied
    ∙ ap (λ (w : Watchers). slice_set w.queues o (Some [])) c.self.view_is

pub returns-clause-names : goal.returns-clause-names
returns-clause-names c =
    let a = c.self.inside in
    let o = c.args.observer in
    let qs = queues_by a.roster in
    let there = has_queue qs in
    let held_there = subst (λ (w : Watchers). has_queue w.queues o ≡ true) (sym c.self.view_is) c.requires.held in
    let u = at a.registrations in
    let v = at c.end_own.new.self in
    let lists = a.registrations.lists in
    let lists' = c.end_own.new.self.lists in
    let had = passing-there a.roster o c.get_mut-kept.result.now c.get_mut-kept.ensures.value in
    let ended : (k : ℕ) → v k ≡ (if among k (slice_index_or (passing_by a.roster) o []) then unless_ended (TransientOf o) (u k) else u k) = λ k.
    c.end_own.ensures.left k ∙ ap (λ ks. if among k ks then unless_ended (TransientOf o) (u k) else u k) (sym had) in
    let left = told-left u v (lasting_by a.roster) (passing_by a.roster) a.fleeting.keys there o c.self.invariant.1 ended in
    let kept' : Observer = record c.get_mut-kept.result.now { passing = c.end_own.new.keys; queue = c.take.new.self } in
    let roster' = slice_set a.roster o (Some kept') in
    let queues : queues_by roster' ≡ slice_set qs o (Some []) = queues-set a.roster o kept' ∙ ap (λ q. slice_set qs o (Some q)) c.take.ensures.emptied in
    let stand = stand-ended u v (TransientOf o) lists lists' left c.end_own.ensures.swept there c.self.invariant.0.stand in
    let kept = kept-others a.registrations qs a.pending.keys c.self.invariant.0 c.end_own.new.self c.state_law.ensures stand in
    let emptied = subst (λ q. HoldsInvariant c.end_own.new.self q a.pending.keys) (sym queues)
    (kept-emptied c.end_own.new.self qs a.pending.keys kept o held_there) in
    names-only a.registrations qs a.pending.keys c.args.self.now c.self.view_is c.end_own.new.self (queues_by roster') a.pending.keys emptied []
    (λ p _ names tells. (none-ended p u v (TransientOf o) lists lists' left c.end_own.ensures.swept names, subst (RecordsNameNone p) (sym queues) (tells-emptied p qs o held_there tells)))

pub returns-clause-made : goal.returns-clause-made
returns-clause-made c =
    let a = c.self.inside in
    let o = c.args.observer in
    let qs = queues_by a.roster in
    let held_there = subst (λ (w : Watchers). has_queue w.queues o ≡ true) (sym c.self.view_is) c.requires.held in
    let kept' : Observer = record c.get_mut-kept.result.now { passing = c.end_own.new.keys; queue = c.take.new.self } in
    let roster' = slice_set a.roster o (Some kept') in
    let queues : queues_by roster' ≡ slice_set qs o (Some []) = queues-set a.roster o kept' ∙ ap (λ q. slice_set qs o (Some q)) c.take.ensures.emptied in
    let new : Watchers = record { nodes = registered_nodes c.end_own.new.self; queues = queues_by roster'; pending = a.pending.keys } in
    same-there c.args.self.now new qs (ap (λ (w : Watchers). w.queues) c.self.view_is)
    (ap length queues ∙ length-set qs o (Some [])) (λ i. ap (λ q. has_queue q i) queues ∙ has-set qs o held_there [] i)
