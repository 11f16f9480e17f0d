-- Each pending observer is told its records; then nobody is pending, and none of those has records.
use Rattle.std.proofs.Common.{arith, ◌≡◌, ℕ, true, if◌then◌else◌, [], length, map, filter, refl, ap, sym, ◌∙◌, subst, is_none}
use Rattle.dom_model.specs.Definitions.{among, Registration, has_records, told_in}
use Rattle.dom_observe.specs.{Notification.waiting_in, Watchers.Watchers, Watchers.Watches, Watchers.on, Watchers.records_at, QueuedNodes.RecordsNameNone, Registrations.at, Registrations.passes_for, Registrations.Owned, Invariant.registered_nodes, Invariant.has_queue, Invariant.AllThere, Invariant.HaveNone, Invariant.HoldsInvariant, Roster.first_keys, Roster.second_keys, Roster.lasting_by, Roster.passing_by, Roster.queues_by, declared.registration.EndedRegistrations.TheVariants.Transient}
use Rattle.dom_observe.proofs.{ResultLemmas.at_err, IsAwaitedLemmas.awaited-queues, IsAwaitedLemmas.awaited-notified, NamedNodesLemmas.names-only, NamedNodesLemmas.none-ended, NamedNodesLemmas.same-there, IsIndexedLemmas.indexed-notified, InvariantLemmas.on-registered_nodes, InvariantLemmas.stand-alike, InvariantLemmas.stand-ended, InvariantLemmas.found-ended, InvariantLemmas.kept_queues, ObserverKeysLemmas.indexed-same, ObserverKeysLemmas.indexed-by, RosterLemmas.has-same, RosterLemmas.length-same, RegistrationTableLemmas.all_imply, GatherLemmas.waiting-told, AgreeLemmas.agree-ended, HaveSourcesLemmas.sources-ended, WatchesLemmas.watches-notified}
use Rattle.dom_observe.proofs.observers.Observers.notify.Goals as goal

pub gather-requires : goal.gather-requires
gather-requires c = c.self.invariant.0.there

pub invariant_of-self-2 : goal.invariant_of-self-2
invariant_of-self-2 c =
    let a = c.self.inside in
    let qs = queues_by a.roster in
    let qs' = queues_by c.end_transients.new.roster in
    let u = at a.registrations in
    let v = at c.end_transients.new.self in
    let lists = a.registrations.lists in
    let lists' = c.end_transients.new.self.lists in
    let same : (i : ℕ) → has_queue qs' i ≡ has_queue qs i = λ i. ap (λ q. has_queue q i) c.end_transients.ensures.queues ∙ has-same a.roster c.gather.new.roster c.gather.ensures.keys i in
    let stand = stand-ended u v Transient lists lists' c.end_transients.ensures.left c.end_transients.ensures.swept (has_queue qs) c.self.invariant.0.stand in
    let kept : HoldsInvariant c.end_transients.new.self qs' c.clear.new.self.keys = record {
      are = c.state_law.ensures;
      stand = stand-alike v (has_queue qs) (has_queue qs') lists' (λ i there. same i ∙ there) stand;
      there = subst (AllThere (has_queue qs')) (sym c.clear.ensures.empty) tt;
    } in (
      kept,
      indexed-by v c.clear-2.new.self.keys c.end_transients.new.roster (lasting_by a.roster) (passing_by c.end_transients.new.roster) (has_queue qs)
          (c.end_transients.ensures.lasting ∙ ap (map first_keys) c.gather.ensures.keys) refl (λ i there. same i ∙ there)
          (indexed-notified u v (lasting_by a.roster) (passing_by a.roster) (passing_by c.end_transients.new.roster) a.fleeting.keys c.clear-2.new.self.keys (has_queue qs) c.self.invariant.1
          c.end_transients.ensures.left c.end_transients.ensures.owned c.end_transients.ensures.none c.clear-2.ensures.empty),
      sources-ended u v Transient c.end_transients.ensures.left c.self.invariant.2,
      agree-ended u v Transient c.end_transients.ensures.left c.self.invariant.3,
      awaited-notified qs a.pending.keys a.untold.keys c.self.invariant.4 qs' c.clear.new.self.keys same (λ p. ap (λ q. records_at q p) c.end_transients.ensures.queues ∙ c.in_ok-told.ensures.emptied p),
      omega (arith, c.clear.ensures.len),
    )

pub returns-clause-told : goal.returns-clause-told
returns-clause-told c = λ x w.
    let a = c.self.inside in
    let qs = queues_by a.roster in
    let shown = subst (λ (o : Watchers). Watches o x) (sym c.self.view_is) w in
    c.in_ok-told.ensures.told
    ∙ ap (filter has_records) (waiting-told qs x shown.queues a.pending.keys)
    ∙ ap (λ ps. filter has_records (map (told_in x) ps)) shown.pending

pub returns-clause-after : goal.returns-clause-after
returns-clause-after c = λ x w.
    let a = c.self.inside in
    let qs = queues_by a.roster in
    let qs' = queues_by c.end_transients.new.roster in
    let o : Watchers = record { nodes = registered_nodes a.registrations; queues = qs; pending = a.pending.keys } in
    let shown = subst (λ (o : Watchers). Watches o x) (sym c.self.view_is) w in
    let found = λ (n : ℕ). found-ended (at a.registrations) (at c.end_transients.new.self) Transient a.registrations.lists c.end_transients.new.self.lists c.end_transients.ensures.left c.end_transients.ensures.swept n in
    watches-notified o x shown (registered_nodes c.end_transients.new.self) qs' c.clear.new.self.keys
    (λ n. on-registered_nodes c.end_transients.new.self n ∙ found n ∙ ap (filter (λ (r : Registration). is_none r.source)) (sym (on-registered_nodes a.registrations n)))
    (ap length c.end_transients.ensures.queues ∙ length-same a.roster c.gather.new.roster c.gather.ensures.keys)
    (λ i. ap (λ q. has_queue q i) c.end_transients.ensures.queues ∙ has-same a.roster c.gather.new.roster c.gather.ensures.keys i)
    (λ i. ap (λ q. records_at q i) c.end_transients.ensures.queues ∙ c.in_ok-told.ensures.emptied i) c.clear.ensures.empty

pub returns-in_err-told-clause-names : goal.returns-in_err-told-clause-names
returns-in_err-told-clause-names c =
    let a = c.self.inside in
    let qs = queues_by a.roster in
    let qs' = queues_by c.gather.new.roster in
    let kept = kept_queues a.registrations qs a.pending.keys c.self.invariant.0 qs' (λ i there. has-same a.roster c.gather.new.roster c.gather.ensures.keys i ∙ there) in
    names-only a.registrations qs a.pending.keys c.args.self.now c.self.view_is a.registrations qs' a.pending.keys kept [] (λ p _ names tells. (names, c.gather.ensures.names p tells))

pub returns-in_err-told-clause-made : goal.returns-in_err-told-clause-made
returns-in_err-told-clause-made c =
    let a = c.self.inside in
    let new : Watchers = record { nodes = registered_nodes a.registrations; queues = queues_by c.gather.new.roster; pending = a.pending.keys } in
    same-there c.args.self.now new (queues_by a.roster) (ap (λ (o : Watchers). o.queues) c.self.view_is) (length-same a.roster c.gather.new.roster c.gather.ensures.keys) (has-same a.roster c.gather.new.roster c.gather.ensures.keys)

pub returns-clause-names : goal.returns-clause-names
returns-clause-names c =
    let a = c.self.inside in
    let qs = queues_by a.roster in
    let qs' = queues_by c.end_transients.new.roster in
    let u = at a.registrations in
    let v = at c.end_transients.new.self in
    let lists = a.registrations.lists in
    let lists' = c.end_transients.new.self.lists in
    let same : (i : ℕ) → has_queue qs' i ≡ has_queue qs i = λ i. ap (λ q. has_queue q i) c.end_transients.ensures.queues ∙ has-same a.roster c.gather.new.roster c.gather.ensures.keys i in
    let stand = stand-ended u v Transient lists lists' c.end_transients.ensures.left c.end_transients.ensures.swept (has_queue qs) c.self.invariant.0.stand in
    let kept : HoldsInvariant c.end_transients.new.self qs' c.clear.new.self.keys = record {
      are = c.state_law.ensures;
      stand = stand-alike v (has_queue qs) (has_queue qs') lists' (λ i there. same i ∙ there) stand;
      there = subst (AllThere (has_queue qs')) (sym c.clear.ensures.empty) tt;
    } in
    names-only a.registrations qs a.pending.keys c.args.self.now c.self.view_is c.end_transients.new.self qs' c.clear.new.self.keys kept []
    (λ p _ names tells. (none-ended p u v Transient lists lists' c.end_transients.ensures.left c.end_transients.ensures.swept names, subst (RecordsNameNone p) (sym c.end_transients.ensures.queues) (c.gather.ensures.names p tells)))

pub returns-clause-made : goal.returns-clause-made
returns-clause-made c =
    let a = c.self.inside in
    let new : Watchers = record { nodes = registered_nodes c.end_transients.new.self; queues = queues_by c.end_transients.new.roster; pending = c.clear.new.self.keys } in
    same-there c.args.self.now new (queues_by a.roster) (ap (λ (o : Watchers). o.queues) c.self.view_is)
    (ap length c.end_transients.ensures.queues ∙ length-same a.roster c.gather.new.roster c.gather.ensures.keys)
    (λ i. ap (λ q. has_queue q i) c.end_transients.ensures.queues ∙ has-same a.roster c.gather.new.roster c.gather.ensures.keys i)

pub end_transients-requires-clause-there : goal.end_transients-requires-clause-there
end_transients-requires-clause-there c =
    let a = c.self.inside in
    all_imply (λ o. has_queue (queues_by a.roster) o ≡ true) (λ o. has_queue (queues_by c.gather.new.roster) o ≡ true) (λ i there. has-same a.roster c.gather.new.roster c.gather.ensures.keys i ∙ there) a.fleeting.keys c.self.invariant.1.known

pub end_transients-requires-clause-owned : goal.end_transients-requires-clause-owned
end_transients-requires-clause-owned c =
    subst (Owned passes_for (at c.self.inside.registrations)) (sym (ap (map second_keys) c.gather.ensures.keys)) c.self.invariant.1.passing

pub end_transients-requires-clause-all : goal.end_transients-requires-clause-all
end_transients-requires-clause-all c =
    subst (HaveNone c.self.inside.fleeting.keys) (sym (ap (map second_keys) c.gather.ensures.keys)) c.self.invariant.1.fleeting

pub invariant_of-self : goal.invariant_of-self
invariant_of-self c =
    let a = c.self.inside in
    let qs = queues_by a.roster in
    let qs' = queues_by c.gather.new.roster in (
      kept_queues a.registrations qs a.pending.keys c.self.invariant.0 qs' (λ i there. has-same a.roster c.gather.new.roster c.gather.ensures.keys i ∙ there),
      indexed-same (at a.registrations) a.fleeting.keys a.roster c.gather.new.roster c.self.invariant.1 c.gather.ensures.keys,
      c.self.invariant.2,
      c.self.invariant.3,
      awaited-queues qs a.pending.keys a.untold.keys c.self.invariant.4 qs' (λ i there. has-same a.roster c.gather.new.roster c.gather.ensures.keys i ∙ there) c.gather.ensures.empty,
      c.self.invariant.5,
    )

pub returns-clause-own : goal.returns-clause-own
returns-clause-own c = c.in_ok-told.ensures.told ∙ ap (λ (o : Watchers). waiting_in o.queues o.pending) c.self.view_is

pub returns-clause-notified : goal.returns-clause-notified
returns-clause-notified c =
    let a = c.self.inside in
    let found = λ (n : ℕ). found-ended (at a.registrations) (at c.end_transients.new.self) Transient a.registrations.lists c.end_transients.new.self.lists c.end_transients.ensures.left c.end_transients.ensures.swept n in
    record {
      pending = c.clear.ensures.empty;
      queues = λ i.
          ap (λ q. records_at q i) c.end_transients.ensures.queues
          ∙ c.in_ok-told.ensures.emptied i
          ∙ ap (λ (o : Watchers). if among i o.pending then [] else records_at o.queues i) c.self.view_is;
      nodes = λ n.
          on-registered_nodes c.end_transients.new.self n
          ∙ found n
          ∙ ap (filter (λ (r : Registration). is_none r.source)) (sym (on-registered_nodes a.registrations n))
          ∙ ap (λ (o : Watchers). filter (λ (r : Registration). is_none r.source) (on n o.nodes)) c.self.view_is;
    }

pub returns-in_err-told-clause-err : goal.returns-in_err-told-clause-err
returns-in_err-told-clause-err c =
    let a = c.self.inside in
    let same : record { nodes = registered_nodes a.registrations; queues = queues_by c.gather.new.roster; pending = a.pending.keys } ≡ c.args.self.now =
    (λ i. record { nodes = registered_nodes a.registrations; queues = queues_by (c.in_err-told.ensures.err i); pending = a.pending.keys }) ∙ c.self.view_is in
    at_err c.from_residual.result same
