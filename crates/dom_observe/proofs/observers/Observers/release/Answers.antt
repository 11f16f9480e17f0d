-- The observer's registrations go from every node, it is not pending any more, and has no queue.
use Rattle.dom_observe.proofs.{IsAwaitedLemmas.awaited-released, AgreeLemmas.agree-ended, NamedNodesLemmas.names-only, NamedNodesLemmas.none-ended, NamedNodesLemmas.tells-released, InvariantLemmas.on-registered_nodes, InvariantLemmas.found-ended, ObserverKeysLemmas.indexed-lost, QueueListLemmas.queue_within, ReleaseLemmas.taken-out, ReleaseLemmas.out-taken, ReleaseLemmas.there-taken, ReleaseLemmas.others-there, ReleaseLemmas.kept-released, RosterLemmas.has-kept, RosterLemmas.lasting-there, RosterLemmas.passing-there, RosterLemmas.length-queues, RosterLemmas.lasting-gone, RosterLemmas.passing-gone, RosterLemmas.queues-gone, HaveSourcesLemmas.sources-ended, WatchesLemmas.watches-filtered, WatchesLemmas.watches-released}
use Rattle.std.proofs.Common.{◌≡◌, ℕ, true, List, [], Option, Some, None, filter, is_some, ap, sym, ◌∙◌, subst, arith, nat_eq, slice_set}
use Rattle.dom_model.specs.Definitions.{among, left_out, Record, released_observer}
use Rattle.dom_observe.specs.{declared.registration.EndedRegistrations.TheVariants.Of, Watchers.Watchers, Watchers.Watches, Watchers.on, Registrations.at, Registrations.spares, Invariant.registered_nodes, Invariant.has_queue, Invariant.AllThere, Invariant.HoldsInvariant, Invariant.IsAwaited, Roster.lasting_by, Roster.passing_by, Roster.queues_by, QueuedNodes.RecordsNameNone}
use Rattle.std.specs.List.{list_any}
use Rattle.std.proofs.lemmas.List.{get_or-set_same, set-set}
use Rattle.dom_observe.proofs.observers.Observers.release.Goals as goal

pub get_mut-kept-requires : goal.get_mut-kept-requires
get_mut-kept-requires c = sym (has-kept c.self.inside.roster c.args.observer) ∙ subst (λ (o : Watchers). has_queue o.queues c.args.observer ≡ true) (sym c.self.view_is) c.requires.held

pub end_all-requires-clause-lasting : goal.end_all-requires-clause-lasting
end_all-requires-clause-lasting c = λ k.
    ap (among k) (sym (lasting-there c.self.inside.roster c.args.observer c.get_mut-kept.result.now c.get_mut-kept.ensures.value)) ∙ c.self.invariant.1.lasting c.args.observer k

pub end_all-requires-clause-passing : goal.end_all-requires-clause-passing
end_all-requires-clause-passing c = λ k.
    ap (among k) (sym (passing-there c.self.inside.roster c.args.observer c.get_mut-kept.result.now c.get_mut-kept.ensures.value)) ∙ c.self.invariant.1.passing c.args.observer k

pub release-requires : goal.release-requires
release-requires c =
    let a = c.self.inside in
    let o = c.args.observer in
    let held_there = subst (λ (w : Watchers). has_queue w.queues o ≡ true) (sym c.self.view_is) c.requires.held in
    let within = queue_within (queues_by a.roster) o held_there in
    ap is_some (get_or-set_same a.roster o (Some c.end_all.new.kept) None (omega (arith, within, length-queues a.roster)))

pub invariant_of-self : goal.invariant_of-self
invariant_of-self c =
    let a = c.self.inside in
    let o = c.args.observer in
    let qs = queues_by a.roster in
    let held_there = subst (λ (w : Watchers). has_queue w.queues o ≡ true) (sym c.self.view_is) c.requires.held in
    let u = at a.registrations in
    let v = at c.end_all.new.self in
    let new = c.release.new.self in
    let gone : new ≡ slice_set a.roster o None = c.release.ensures ∙ set-set a.roster o (Some c.end_all.new.kept) None in
    let queues : queues_by new ≡ slice_set qs o None = ap queues_by gone ∙ queues-gone a.roster o in
    let pending : c.shift_remove.new.self.keys ≡ left_out o a.pending.keys =
    c.shift_remove.ensures.keys ∙ taken-out o a.pending.keys (ap (list_any (nat_eq o)) (sym c.shift_remove.ensures.keys) ∙ c.shift_remove.ensures.updates.1) in
    let taken = c.swap_remove.ensures.updates.0 in
    let known : AllThere (has_queue (queues_by new)) c.swap_remove.new.self.keys =
    subst (λ q. AllThere (has_queue q) c.swap_remove.new.self.keys) (sym queues)
    (there-taken o a.fleeting.keys c.swap_remove.new.self.keys taken (has_queue qs) (has_queue (slice_set qs o None)) (others-there qs o) c.self.invariant.1.known) in (
      subst (λ ps. HoldsInvariant c.end_all.new.self (queues_by new) ps) (sym pending)
          (subst (λ q. HoldsInvariant c.end_all.new.self q (left_out o a.pending.keys)) (sym queues)
          (kept-released a.registrations qs a.pending.keys c.self.invariant.0 c.end_all.new.self o c.end_all.ensures.left c.end_all.ensures.swept c.state_law.ensures)),
      indexed-lost u v a.roster new a.fleeting.keys o c.self.invariant.1 held_there c.end_all.ensures.left (ap lasting_by gone ∙ lasting-gone a.roster o) (ap passing_by gone ∙ passing-gone a.roster o)
          c.swap_remove.new.self.keys (out-taken o a.fleeting.keys c.swap_remove.new.self.keys taken) known,
      sources-ended u v (Of o) c.end_all.ensures.left c.self.invariant.2,
      agree-ended u v (Of o) c.end_all.ensures.left c.self.invariant.3,
      subst (λ ps. IsAwaited (queues_by new) ps c.swap_remove-2.new.self.keys) (sym pending)
          (subst (λ q. IsAwaited q (left_out o a.pending.keys) c.swap_remove-2.new.self.keys) (sym queues)
          (awaited-released qs a.pending.keys a.untold.keys c.self.invariant.4 o c.swap_remove-2.new.self.keys c.swap_remove-2.ensures.updates.0)),
      omega (arith, c.self.invariant.5, c.swap_remove-2.ensures.room.0, c.shift_remove.ensures.len),
    )

pub returns-clause-released : goal.returns-clause-released
returns-clause-released c = λ x w.
    let a = c.self.inside in
    let i = c.args.observer in
    let qs = queues_by a.roster in
    let new = c.release.new.self in
    let queues : queues_by new ≡ slice_set qs i None = ap queues_by (c.release.ensures ∙ set-set a.roster i (Some c.end_all.new.kept) None) ∙ queues-gone a.roster i in
    let pending : c.shift_remove.new.self.keys ≡ left_out i a.pending.keys =
    c.shift_remove.ensures.keys ∙ taken-out i a.pending.keys (ap (list_any (nat_eq i)) (sym c.shift_remove.ensures.keys) ∙ c.shift_remove.ensures.updates.1) in
    let nodes' = registered_nodes c.end_all.new.self in
    let o : Watchers = record { nodes = registered_nodes a.registrations; queues = qs; pending = a.pending.keys } in
    let shown = subst (λ (o : Watchers). Watches o x) (sym c.self.view_is) w in
    let keep = spares (Of i) in
    let left : (n : ℕ) → on n nodes' ≡ filter keep (on n (registered_nodes a.registrations)) = λ n.
    on-registered_nodes c.end_all.new.self n
    ∙ found-ended (at a.registrations) (at c.end_all.new.self) (Of i) a.registrations.lists c.end_all.new.self.lists c.end_all.ensures.left c.end_all.ensures.swept n
    ∙ ap (filter keep) (sym (on-registered_nodes a.registrations n)) in
    let gone = watches-filtered o x shown keep nodes' left in
    subst (λ (q : List (Option (List Record))). Watches (record { nodes = nodes'; queues = q; pending = c.shift_remove.new.self.keys }) (released_observer i x)) (sym queues)
    (subst (λ ps. Watches (record { nodes = nodes'; queues = slice_set qs i None; pending = ps }) (released_observer i x)) (sym pending)
    (watches-released _ _ gone i))

pub returns-clause-names : goal.returns-clause-names
returns-clause-names c =
    let a = c.self.inside in
    let o = c.args.observer in
    let qs = queues_by a.roster in
    let u = at a.registrations in
    let v = at c.end_all.new.self in
    let lists = a.registrations.lists in
    let lists' = c.end_all.new.self.lists in
    let new = c.release.new.self in
    let queues : queues_by new ≡ slice_set qs o None = ap queues_by (c.release.ensures ∙ set-set a.roster o (Some c.end_all.new.kept) None) ∙ queues-gone a.roster o in
    let pending : c.shift_remove.new.self.keys ≡ left_out o a.pending.keys =
    c.shift_remove.ensures.keys ∙ taken-out o a.pending.keys (ap (list_any (nat_eq o)) (sym c.shift_remove.ensures.keys) ∙ c.shift_remove.ensures.updates.1) in
    let kept =
    subst (λ ps. HoldsInvariant c.end_all.new.self (queues_by new) ps) (sym pending)
    (subst (λ q. HoldsInvariant c.end_all.new.self q (left_out o a.pending.keys)) (sym queues)
    (kept-released a.registrations qs a.pending.keys c.self.invariant.0 c.end_all.new.self o c.end_all.ensures.left c.end_all.ensures.swept c.state_law.ensures)) in
    names-only a.registrations qs a.pending.keys c.args.self.now c.self.view_is c.end_all.new.self (queues_by new) c.shift_remove.new.self.keys kept []
    (λ p _ names tells. (none-ended p u v (Of o) lists lists' c.end_all.ensures.left c.end_all.ensures.swept names, subst (RecordsNameNone p) (sym queues) (tells-released p qs o tells)))

pub returns-clause-made : goal.returns-clause-made
returns-clause-made c =
    let a = c.self.inside in
    let o = c.args.observer in
    ap queues_by (c.release.ensures ∙ set-set a.roster o (Some c.end_all.new.kept) None) ∙ queues-gone a.roster o
    ∙ ap (λ (w : Watchers). slice_set w.queues o None) c.self.view_is
