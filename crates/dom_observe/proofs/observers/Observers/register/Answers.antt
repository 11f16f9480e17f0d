-- The registration gets the options, or a new one comes last.
use Rattle.std.proofs.Common.{◌≡◌, ◌≤◌, ℕ, true, not, List, [], ◌∷◌, ◌++◌, if◌then◌else◌, ◌==◌, map, filter, Option, Some, None, refl, ap, sym, ◌∙◌, subst, arith, filter_map, slice_index_or, slice_set}
use Rattle.std.specs.List.{list_any}
use Rattle.dom_model.specs.Definitions.{among, Registration, Record, registered_on, is_registered, is_transient_from, with_options, new_registration, observed}
use Rattle.dom_observe.specs.{Watchers.Watchers, Watchers.Watches, Watchers.on, WithoutRepeats.once, Registrations.Registered, Registrations.at, Registrations.is_live, Registrations.unless_ended, Registrations.AllStand, Registrations.HaveSources, Registrations.Agree, Registrations.ByOrigin, Invariant.registered_nodes, Invariant.has_queue, Invariant.HoldsInvariant, Invariant.IsIndexed, Invariant.IsAwaited, Roster.lasting_by, Roster.passing_by, Roster.queues_by, QueuedNodes.NamesNone, QueuedNodes.RecordsNameNone, declared.registration.EndedRegistrations.TheVariants.From}
use Rattle.dom_observe.proofs.{IsIndexedLemmas.from-left, IsIndexedLemmas.indexed-changed, IsIndexedLemmas.indexed-passing_ended, IsIndexedLemmas.indexed-lasting, AgreeLemmas.agree-own, AgreeLemmas.agree-again, AgreeLemmas.agree-lasting, AgreeLemmas.nothing-comes, OnceLemmas.count-once, OwnKeyLemmas.on-lasts, ResultLemmas.on_ok, ResultLemmas.by_one, ResultLemmas.both_err, ResultLemmas.by_outcome, HaveSourcesLemmas.sources-ended, HaveSourcesLemmas.sources-changed, HaveSourcesLemmas.sources-added, TallyLemmas.tally, TallyLemmas.count-filter, RegistrationTableLemmas.live_of_stands, RegistrationTableLemmas.found-added, RegistrationTableLemmas.stands-added, InvariantLemmas.on-registered_nodes, InvariantLemmas.kept-others, ObserverKeysLemmas.indexed-by, RosterLemmas.has-kept, RosterLemmas.within-lasting, RosterLemmas.within-passing, RosterLemmas.lasting-there, RosterLemmas.passing-there, RosterLemmas.lasting-set, RosterLemmas.passing-set, RosterLemmas.lasting-same, RosterLemmas.passing-same, RosterLemmas.queues-same, NamedNodesLemmas.names-only, NamedNodesLemmas.none-ended, NamedNodesLemmas.none-changed, NamedNodesLemmas.none-added, NamedNodesLemmas.same-queues, ReobserveLemmas.any_own, ReobserveLemmas.stand-again, ReobserveLemmas.found-again, WatchesLemmas.watches-observed, WatchesLemmas.watches-observed_again}
use Rattle.dom_observe.proofs.observers.Observers.register.Goals as goal

pub get-requires : goal.get-requires
get-requires c = sym (has-kept c.self.inside.roster c.args.observer) ∙ subst (λ (o : Watchers). has_queue o.queues c.args.observer ≡ true) (sym c.self.view_is) c.requires.held

pub own_key-requires-clause-either : goal.own_key-requires-clause-either
own_key-requires-clause-either c = λ key own.
    let a = c.self.inside in
    let o = c.args.observer in
    let had = c.as_slice-lasting.ensures.value ∙ sym (lasting-there a.roster o c.get.result.now c.get.ensures) in
    c.self.invariant.0.are.placed c.args.node key ∙ on-lasts o c.args.node (at a.registrations key) own ∙ sym (c.self.invariant.1.lasting o key) ∙ ap (among key) (sym had)

pub own_key-requires-clause-one : goal.own_key-requires-clause-one
own_key-requires-clause-one c = agree-own (at c.self.inside.registrations) c.self.invariant.3 c.args.observer c.args.node

pub get_mut-kept-requires : goal.get_mut-kept-requires
get_mut-kept-requires c = sym (has-kept c.self.inside.roster c.args.observer) ∙ subst (λ (o : Watchers). has_queue o.queues c.args.observer ≡ true) (sym c.self.view_is) c.requires.held

pub get_mut-kept-requires-in-None : goal.get_mut-kept-requires-in-None
get_mut-kept-requires-in-None c = sym (has-kept c.self.inside.roster c.args.observer) ∙ subst (λ (o : Watchers). has_queue o.queues c.args.observer ≡ true) (sym c.self.view_is) c.requires.held

pub end_from-requires-clause-owned : goal.end_from-requires-clause-owned
end_from-requires-clause-owned c = λ k.
    ap (among k) (sym (passing-there c.self.inside.roster c.args.observer c.get_mut-kept.result.now c.get_mut-kept.ensures.value)) ∙ c.self.invariant.1.passing c.args.observer k

pub end_from-requires-clause-ordered : goal.end_from-requires-clause-ordered
end_from-requires-clause-ordered c =
    subst (ByOrigin (at c.self.inside.registrations)) (passing-there c.self.inside.roster c.args.observer c.get_mut-kept.result.now c.get_mut-kept.ensures.value) (c.self.invariant.1.passing_ordered c.args.observer)

pub invariant_of-self : goal.invariant_of-self
invariant_of-self c =
    let a = c.self.inside in
    let had = passing-there a.roster c.args.observer c.get_mut-kept.result.now c.get_mut-kept.ensures.value in
    let ended : (k : ℕ) → at c.end_from.new.self k ≡ (if among k (slice_index_or (passing_by a.roster) c.args.observer []) then unless_ended (From c.args.observer c.args.node) (at a.registrations k) else at a.registrations k) = λ k.
    c.end_from.ensures.left k ∙ ap (λ ks. if among k ks then unless_ended (From c.args.observer c.args.node) (at a.registrations k) else at a.registrations k) (sym had) in
    let roster' = slice_set a.roster c.args.observer (Some (record c.get_mut-kept.result.now { passing = c.end_from.new.keys })) in
    let same : queues_by roster' ≡ queues_by a.roster = queues-same a.roster c.args.observer c.get_mut-kept.result.now c.get_mut-kept.ensures.value (record c.get_mut-kept.result.now { passing = c.end_from.new.keys }) refl in
    let u = at a.registrations in
    let v = at c.end_from.new.self in
    let w = at c.set_options.new.self in
    let lists = a.registrations.lists in
    let lists' = c.set_options.new.self.lists in
    let swept = λ (m : ℕ). ap (on m) c.set_options.ensures.lists ∙ c.end_from.ensures.swept m in
    let o = c.args.observer in
    let there = has_queue (queues_by a.roster) in
    let held_there = subst (λ (o : Watchers). has_queue o.queues c.args.observer ≡ true) (sym c.self.view_is) c.requires.held in
    let found_key = sym c.own_key.ensures ∙ c.in-Some.is in
    let left = from-left u v (lasting_by a.roster) (passing_by a.roster) a.fleeting.keys there o c.args.node c.self.invariant.1 ended in
    let stand = stand-again u v w lists lists' o c.args.node c.in-Some.key c.args.options.value left swept found_key c.set_options.ensures.changed c.set_options.ensures.others there c.self.invariant.0.stand in
    let passing : passing_by roster' ≡ slice_set (passing_by a.roster) o (filter (is_live v) (slice_index_or (passing_by a.roster) o [])) =
    passing-set a.roster o (record c.get_mut-kept.result.now { passing = c.end_from.new.keys }) ∙ ap (slice_set (passing_by a.roster) o) (c.end_from.ensures.keys ∙ ap (filter (is_live v)) (sym had)) in
    let lasting = lasting-same a.roster o c.get_mut-kept.result.now c.get_mut-kept.ensures.value (record c.get_mut-kept.result.now { passing = c.end_from.new.keys }) refl in (
      subst (λ qs. HoldsInvariant c.set_options.new.self qs a.pending.keys) (sym same)
          (kept-others a.registrations (queues_by a.roster) a.pending.keys c.self.invariant.0 c.set_options.new.self c.state_law.ensures stand),
      indexed-by w a.fleeting.keys roster' (lasting_by a.roster) (slice_set (passing_by a.roster) o (filter (is_live v) (slice_index_or (passing_by a.roster) o []))) there lasting passing (λ i yet. ap (λ qs. has_queue qs i) same ∙ yet)
          (indexed-changed v w (lasting_by a.roster) (slice_set (passing_by a.roster) o (filter (is_live v) (slice_index_or (passing_by a.roster) o []))) a.fleeting.keys there c.in-Some.key c.args.options.value c.set_options.ensures.changed c.set_options.ensures.others
          (indexed-passing_ended u v (lasting_by a.roster) (passing_by a.roster) a.fleeting.keys there o (From o c.args.node) c.self.invariant.1 _ (within-passing a.roster o held_there) ended refl)),
      sources-changed v w c.in-Some.key c.args.options.value c.set_options.ensures.changed c.set_options.ensures.others (sources-ended u v (From o c.args.node) left c.self.invariant.2),
      agree-again u v w lists o c.args.node c.in-Some.key c.args.options.value left found_key c.set_options.ensures.changed c.set_options.ensures.others c.self.invariant.3,
      subst (λ qs. IsAwaited qs a.pending.keys a.untold.keys) (sym same) c.self.invariant.4,
      c.self.invariant.5,
    )

pub returns-in-Some-clause-ok : goal.returns-in-Some-clause-ok
returns-in-Some-clause-ok c = λ x w.
    let a = c.self.inside in
    let had = passing-there a.roster c.args.observer c.get_mut-kept.result.now c.get_mut-kept.ensures.value in
    let ended : (k : ℕ) → at c.end_from.new.self k ≡ (if among k (slice_index_or (passing_by a.roster) c.args.observer []) then unless_ended (From c.args.observer c.args.node) (at a.registrations k) else at a.registrations k) = λ k.
    c.end_from.ensures.left k ∙ ap (λ ks. if among k ks then unless_ended (From c.args.observer c.args.node) (at a.registrations k) else at a.registrations k) (sym had) in
    let roster' = slice_set a.roster c.args.observer (Some (record c.get_mut-kept.result.now { passing = c.end_from.new.keys })) in
    let same : queues_by roster' ≡ queues_by a.roster = queues-same a.roster c.args.observer c.get_mut-kept.result.now c.get_mut-kept.ensures.value (record c.get_mut-kept.result.now { passing = c.end_from.new.keys }) refl in
    let i = c.args.observer in
    let n = c.args.node in
    let u = at a.registrations in
    let lists = a.registrations.lists in
    let o : Watchers = record { nodes = registered_nodes a.registrations; queues = queues_by a.roster; pending = a.pending.keys } in
    let shown = subst (λ (o : Watchers). Watches o x) (sym c.self.view_is) w in
    let found_key = sym c.own_key.ensures ∙ c.in-Some.is in
    let here : filter_map u (on n lists) ≡ once (registered_on n x.registrations) = sym (on-registered_nodes a.registrations n) ∙ shown.registrations n in
    let most = count-filter (is_registered i n) (λ (r : Registration). r.node == n) x.registrations in
    let all = shown.once i n in
    let less = count-once (is_registered i n) (registered_on n x.registrations) in
    let few : tally (is_registered i n) (once (registered_on n x.registrations)) ≤ 1 = omega arith in
    let once = subst (λ (rs : List Registration). tally (is_registered i n) rs ≤ 1) (sym here) few in
    let swept = λ (m : ℕ). ap (on m) c.set_options.ensures.lists ∙ c.end_from.ensures.swept m in
    let again = found-again u (at c.end_from.new.self) (at c.set_options.new.self) lists c.set_options.new.self.lists i n c.in-Some.key c.args.options.value
    (from-left (at a.registrations) (at c.end_from.new.self) (lasting_by a.roster) (passing_by a.roster) a.fleeting.keys (has_queue (queues_by a.roster)) c.args.observer c.args.node c.self.invariant.1 ended) swept found_key c.set_options.ensures.changed c.set_options.ensures.others (has_queue (queues_by a.roster)) c.self.invariant.0.stand once in
    subst (λ qs. Watches (record { nodes = registered_nodes c.set_options.new.self; queues = qs; pending = a.pending.keys }) (observed i n c.args.options.value x)) (sym same)
    (watches-observed_again o x shown i n c.args.options.value (registered_nodes c.set_options.new.self)
    (ap (list_any (is_registered i n)) (on-registered_nodes a.registrations n) ∙ any_own u i n (on n lists) (Some c.in-Some.key) found_key)
    (λ m. on-registered_nodes c.set_options.new.self m ∙ again m
    ∙ ap (λ rs. map (with_options i n c.args.options.value) (filter (λ (r : Registration). not (is_transient_from i n r)) rs)) (sym (on-registered_nodes a.registrations m))))

pub invariant_of-self-in-None : goal.invariant_of-self-in-None
invariant_of-self-in-None c =
    let a = c.self.inside in
    let kept' = record c.get_mut-kept-in-None.result.now { lasting = c.add-added.new.keys } in
    let roster' = slice_set a.roster c.args.observer (Some kept') in
    let same : queues_by roster' ≡ queues_by a.roster = queues-same a.roster c.args.observer c.get_mut-kept-in-None.result.now c.get_mut-kept-in-None.ensures.value kept' refl in
    let o = c.args.observer in
    let kept = c.get_mut-kept-in-None.result.now in
    let there = has_queue (queues_by a.roster) in
    let held_there = subst (λ (o : Watchers). has_queue o.queues c.args.observer ≡ true) (sym c.self.view_is) c.requires.held in
    let u = at a.registrations in
    let lists = a.registrations.lists in
    let lists' = c.add-added.new.self.lists in
    let no_key = sym c.own_key.ensures ∙ c.in-None.is in
    let stand : AllStand (at c.add-added.new.self) there lists' =
    by_one c.add-added.result c.add-added.ensures.ok c.add-added.ensures.err
    (λ added. stands-added u lists _ (at c.add-added.new.self) lists' added there c.self.invariant.0.stand held_there)
    (λ same_one. subst (λ r. AllStand (at r) there r.lists) (sym same_one) c.self.invariant.0.stand) in
    let passing = passing-same a.roster o kept c.get_mut-kept-in-None.ensures.value kept' refl in
    let indexed : IsIndexed (at c.add-added.new.self) (lasting_by roster') (passing_by a.roster) a.fleeting.keys there =
    by_outcome c.add-added.result c.add-added.ensures.own c.add-added.ensures.err c.add-added.ensures.err_own
    (λ key. indexed-lasting u _ (at c.add-added.new.self) _ kept.lasting.items c.add-added.new.keys.items key (lasting_by a.roster) (passing_by a.roster) a.fleeting.keys there c.self.invariant.1 refl (lasting_by roster')
    (within-lasting a.roster o held_there) (sym (lasting-there a.roster o kept c.get_mut-kept-in-None.ensures.value)) (lasting-set a.roster o kept'))
    (λ same_one own.
    subst (λ r. IsIndexed (at r) (lasting_by roster') (passing_by a.roster) a.fleeting.keys there) (sym same_one)
    (subst (λ l. IsIndexed u l (passing_by a.roster) a.fleeting.keys there) (sym (lasting-same a.roster o kept c.get_mut-kept-in-None.ensures.value kept' own)) c.self.invariant.1)) in (
      subst (λ qs. HoldsInvariant c.add-added.new.self qs a.pending.keys) (sym same)
          (kept-others a.registrations (queues_by a.roster) a.pending.keys c.self.invariant.0 c.add-added.new.self c.state_law-in-None.ensures stand),
      indexed-by (at c.add-added.new.self) a.fleeting.keys roster' (lasting_by roster') (passing_by a.roster) there refl passing (λ i yet. ap (λ qs. has_queue qs i) same ∙ yet) indexed,
      by_one c.add-added.result c.add-added.ensures.ok c.add-added.ensures.err
          (λ added. sources-added u (at c.add-added.new.self) lists _ lists' added (λ n source. let none : None ≡ Some n = source in cc none) c.self.invariant.2)
          (λ same_one. subst (λ r. HaveSources (at r)) (sym same_one) c.self.invariant.2),
      by_one c.add-added.result c.add-added.ensures.ok c.add-added.ensures.err
          (λ added. agree-lasting u (at c.add-added.new.self) lists _ lists' added c.self.invariant.3 refl
          (nothing-comes u o c.args.node lists c.self.invariant.0.are.placed c.self.invariant.2 no_key))
          (λ same_one. subst (λ r. Agree (at r)) (sym same_one) c.self.invariant.3),
      subst (λ qs. IsAwaited qs a.pending.keys a.untold.keys) (sym same) c.self.invariant.4,
      c.self.invariant.5,
    )

pub returns-in-None-clause-ok : goal.returns-in-None-clause-ok
returns-in-None-clause-ok c =
    on_ok c.add-added.result c.add-added.ensures.ok (λ added x w.
    let a = c.self.inside in
    let kept' = record c.get_mut-kept-in-None.result.now { lasting = c.add-added.new.keys } in
    let roster' = slice_set a.roster c.args.observer (Some kept') in
    let same : queues_by roster' ≡ queues_by a.roster = queues-same a.roster c.args.observer c.get_mut-kept-in-None.result.now c.get_mut-kept-in-None.ensures.value kept' refl in
    let i = c.args.observer in
    let n = c.args.node in
    let u = at a.registrations in
    let lists = a.registrations.lists in
    let o : Watchers = record { nodes = registered_nodes a.registrations; queues = queues_by a.roster; pending = a.pending.keys } in
    let shown = subst (λ (o : Watchers). Watches o x) (sym c.self.view_is) w in
    let no_key = sym c.own_key.ensures ∙ c.in-None.is in
    let live = λ (m : ℕ). live_of_stands u (has_queue (queues_by a.roster)) m (on m lists) (c.self.invariant.0.stand m) in
    subst (λ qs. Watches (record { nodes = registered_nodes c.add-added.new.self; queues = qs; pending = a.pending.keys }) (observed i n c.args.options.value x)) (sym same)
    (watches-observed o x shown i n c.args.options.value (registered_nodes c.add-added.new.self)
    (ap (list_any (is_registered i n)) (on-registered_nodes a.registrations n) ∙ any_own u i n (on n lists) None no_key)
    (λ m. on-registered_nodes c.add-added.new.self m
    ∙ found-added u lists (new_registration i n c.args.options.value) (at c.add-added.new.self) c.add-added.new.self.lists added live m
    ∙ ap (λ rs. rs ++ (if n == m then new_registration i n c.args.options.value ∷ [] else [])) (sym (on-registered_nodes a.registrations m)))))

pub returns-in-Some-clause-names : goal.returns-in-Some-clause-names
returns-in-Some-clause-names c =
    let a = c.self.inside in
    let qs = queues_by a.roster in
    let had = passing-there a.roster c.args.observer c.get_mut-kept.result.now c.get_mut-kept.ensures.value in
    let ended : (k : ℕ) → at c.end_from.new.self k ≡ (if among k (slice_index_or (passing_by a.roster) c.args.observer []) then unless_ended (From c.args.observer c.args.node) (at a.registrations k) else at a.registrations k) = λ k.
    c.end_from.ensures.left k ∙ ap (λ ks. if among k ks then unless_ended (From c.args.observer c.args.node) (at a.registrations k) else at a.registrations k) (sym had) in
    let roster' = slice_set a.roster c.args.observer (Some (record c.get_mut-kept.result.now { passing = c.end_from.new.keys })) in
    let same : queues_by roster' ≡ queues_by a.roster = queues-same a.roster c.args.observer c.get_mut-kept.result.now c.get_mut-kept.ensures.value (record c.get_mut-kept.result.now { passing = c.end_from.new.keys }) refl in
    let lists = a.registrations.lists in
    let lists' = c.set_options.new.self.lists in
    let swept = λ (m : ℕ). ap (on m) c.set_options.ensures.lists ∙ c.end_from.ensures.swept m in
    let found_key = sym c.own_key.ensures ∙ c.in-Some.is in
    let stand = stand-again (at a.registrations) (at c.end_from.new.self) (at c.set_options.new.self) lists lists' c.args.observer c.args.node c.in-Some.key c.args.options.value
    (from-left (at a.registrations) (at c.end_from.new.self) (lasting_by a.roster) (passing_by a.roster) a.fleeting.keys (has_queue (queues_by a.roster)) c.args.observer c.args.node c.self.invariant.1 ended) swept found_key c.set_options.ensures.changed c.set_options.ensures.others (has_queue qs) c.self.invariant.0.stand in
    let kept =
    subst (λ q. HoldsInvariant c.set_options.new.self q a.pending.keys) (sym same)
    (kept-others a.registrations qs a.pending.keys c.self.invariant.0 c.set_options.new.self c.state_law.ensures stand) in
    names-only a.registrations qs a.pending.keys c.args.self.now c.self.view_is c.set_options.new.self (queues_by roster') a.pending.keys kept (c.args.node ∷ [])
    (λ p _ names tells. (
      none-changed p (at c.end_from.new.self) (at c.set_options.new.self) c.in-Some.key c.args.options.value lists' c.set_options.ensures.changed c.set_options.ensures.others
          (none-ended p (at a.registrations) (at c.end_from.new.self) (From c.args.observer c.args.node) lists lists' (from-left (at a.registrations) (at c.end_from.new.self) (lasting_by a.roster) (passing_by a.roster) a.fleeting.keys (has_queue (queues_by a.roster)) c.args.observer c.args.node c.self.invariant.1 ended) swept names),
      subst (RecordsNameNone p) (sym same) tells,
    ))

pub returns-in-None-clause-names : goal.returns-in-None-clause-names
returns-in-None-clause-names c =
    let a = c.self.inside in
    let kept' = record c.get_mut-kept-in-None.result.now { lasting = c.add-added.new.keys } in
    let roster' = slice_set a.roster c.args.observer (Some kept') in
    let same : queues_by roster' ≡ queues_by a.roster = queues-same a.roster c.args.observer c.get_mut-kept-in-None.result.now c.get_mut-kept-in-None.ensures.value kept' refl in
    let u = at a.registrations in
    let v = at c.add-added.new.self in
    let qs = queues_by a.roster in
    let there = has_queue qs in
    let held_there = subst (λ (o : Watchers). has_queue o.queues c.args.observer ≡ true) (sym c.self.view_is) c.requires.held in
    let lists = a.registrations.lists in
    let lists' = c.add-added.new.self.lists in
    let live = λ (m : ℕ). live_of_stands u there m (on m lists) (c.self.invariant.0.stand m) in
    let stand : AllStand v there lists' =
    by_one c.add-added.result c.add-added.ensures.ok c.add-added.ensures.err
    (λ added. stands-added u lists _ v lists' added there c.self.invariant.0.stand held_there)
    (λ same_one. subst (λ r. AllStand (at r) there r.lists) (sym same_one) c.self.invariant.0.stand) in
    let kept =
    subst (λ q. HoldsInvariant c.add-added.new.self q a.pending.keys) (sym same)
    (kept-others a.registrations qs a.pending.keys c.self.invariant.0 c.add-added.new.self c.state_law-in-None.ensures stand) in
    names-only a.registrations qs a.pending.keys c.args.self.now c.self.view_is c.add-added.new.self (queues_by roster') a.pending.keys kept (c.args.node ∷ [])
    (λ p nameless names tells. (
      by_one c.add-added.result c.add-added.ensures.ok c.add-added.ensures.err
          (λ added. none-added p u lists (new_registration c.args.observer c.args.node c.args.options.value) v lists' added live nameless names)
          (λ same_one. subst (λ r. NamesNone p (at r) r.lists) (sym same_one) names),
      subst (RecordsNameNone p) (sym same) tells,
    ))

pub returns-in-Some-clause-made : goal.returns-in-Some-clause-made
returns-in-Some-clause-made c =
    let a = c.self.inside in
    let kept' = record c.get_mut-kept.result.now { passing = c.end_from.new.keys } in
    let new : Watchers = record { nodes = registered_nodes c.set_options.new.self; queues = queues_by (slice_set a.roster c.args.observer (Some kept')); pending = a.pending.keys } in
    same-queues c.args.self.now new (queues-same a.roster c.args.observer c.get_mut-kept.result.now c.get_mut-kept.ensures.value kept' refl ∙ ap (λ (o : Watchers). o.queues) c.self.view_is)

pub returns-in-None-clause-made : goal.returns-in-None-clause-made
returns-in-None-clause-made c =
    let a = c.self.inside in
    let kept' = record c.get_mut-kept-in-None.result.now { lasting = c.add-added.new.keys } in
    let new : Watchers = record { nodes = registered_nodes c.add-added.new.self; queues = queues_by (slice_set a.roster c.args.observer (Some kept')); pending = a.pending.keys } in
    same-queues c.args.self.now new (queues-same a.roster c.args.observer c.get_mut-kept-in-None.result.now c.get_mut-kept-in-None.ensures.value kept' refl ∙ ap (λ (o : Watchers). o.queues) c.self.view_is)

pub returns-in-None-clause-err : goal.returns-in-None-clause-err
returns-in-None-clause-err c =
    both_err c.add-added.result c.add-added.ensures.err_own c.add-added.ensures.err (λ own same_one.
    let a = c.self.inside in
    let kept' = record c.get_mut-kept-in-None.result.now { lasting = c.add-added.new.keys } in
    let same = queues-same a.roster c.args.observer c.get_mut-kept-in-None.result.now c.get_mut-kept-in-None.ensures.value kept' refl in
    let seen : Registered → List (Option (List Record)) → Watchers = λ r qs. record { nodes = registered_nodes r; queues = qs; pending = a.pending.keys } in
    (λ i. seen (same_one i) (same i)) ∙ c.self.view_is)
