-- The registrations that stand on the ancestors leave transient ones.
use Rattle.std.proofs.Common.{◌≡◌, ℕ, true, false, ◌==◌, List, [], ◌∷◌, length, refl, ap, sym, ◌∙◌, subst, arith}
use Rattle.std.specs.List.{AllByRecursion}
use Rattle.std.proofs.lemmas.Bool.{true≢false, or_parts}
use Rattle.dom_model.proofs.PlainLists.Numbers.{same_or, same, apart}
use Rattle.dom_model.specs.Definitions.{ancestors, registered_on, with_transients}
use Rattle.dom_observe.specs.{WithoutRepeats.once, Watchers.Watchers, Watchers.Watches, Watchers.on, Registrations.at, Registrations.found, Registrations.is_live, Registrations.AllLive, Registrations.HasRegistration, Invariant.registered_nodes, Invariant.has_queue, Invariant.HoldsInvariant, Invariant.IsAwaited, Roster.lasting_by, Roster.passing_by, Roster.queues_by, QueuedNodes.names_one, QueuedNodes.RecordsNameNone}
use Rattle.dom_observe.proofs.{NamedNodesLemmas.names-only, NamedNodesLemmas.same-queues, ObserverKeysLemmas.indexed-by, ResultLemmas.on_ok, ResultLemmas.on_err, ResultLemmas.at_err, RegistrationTableLemmas.live_of_stands, InvariantLemmas.on-registered_nodes, InvariantLemmas.kept-others, InvariantLemmas.all_deep, InvariantLemmas.stands_of, TransientLemmas.transients-once, TransientLemmas.none-added-there, WatchesLemmas.watches-transients, GetsTransientsLemmas.same-watchers, NoneInterestedLemmas.not_nothing, NoneInterestedLemmas.none-deep}
use Rattle.dom_observe.proofs.observers.Observers.transients.Goals as goal

none : {A : Type 0} (xs : List A) → length xs ≡ 0 → xs ≡ []
none [] h = refl
none (x ∷ xs) h = absurd (omega arith)

pub returns-then-is_empty-clause-left : goal.returns-then-is_empty-clause-left
returns-then-is_empty-clause-left g c = λ x w.
    let a = c.self.inside in
    let o : Watchers = record { nodes = registered_nodes a.registrations; queues = queues_by a.roster; pending = a.pending.keys } in
    let ns = ancestors c.args.parent c.args.tree.now.forest in
    let shown = subst (λ (o : Watchers). Watches o x) (sym c.self.view_is) w in
    let nothing : c.find_standing_deep.new.keys.items ≡ [] =
    none c.find_standing_deep.new.keys.items (
    let k = c.find_standing_deep.new.keys.ok in
    let t : (c.find_standing_deep.new.keys.len == 0) ≡ true = sym c.is_empty.ensures ∙ c.if-is_empty.true in
    elim (same_or c.find_standing_deep.new.keys.len 0) [ same e _ ↦ omega arith | apart _ f ↦ absurd (true≢false (sym t ∙ f)) ]) in
    let has : (n : ℕ) → found a.registrations (on n a.registrations.lists) ≡ once (registered_on n x.registrations) = λ n. sym (on-registered_nodes a.registrations n) ∙ shown.registrations n in
    let kept = transients-once (at a.registrations) a.registrations.lists (has_queue (queues_by a.roster)) c.self.invariant.3 c.self.invariant.0.stand x.registrations has c.args.node ns [] (sym nothing ∙ c.in_ok-find_standing_deep.ensures) in
    watches-transients o x shown c.args.node ns o.nodes
    (λ n. on-registered_nodes a.registrations n ∙ sym (none-added-there c.args.node n (found a.registrations (on n a.registrations.lists))) ∙ kept n)

pub add_transients-requires-clause-standing : goal.add_transients-requires-clause-standing
add_transients-requires-clause-standing g c =
    let a = c.self.inside in
    let live = λ (n : ℕ). live_of_stands (at a.registrations) (has_queue (queues_by a.roster)) n (on n a.registrations.lists) (c.self.invariant.0.stand n) in
    subst (AllLive (at a.registrations)) (sym (c.as_slice.ensures.value ∙ c.in_ok-find_standing_deep.ensures))
    (all_deep (at a.registrations) (λ k. is_live (at a.registrations) k ≡ true) a.registrations.lists live (ancestors c.args.parent c.args.tree.now.forest))

pub invariant_of-self : goal.invariant_of-self
invariant_of-self g c = c.self.invariant

pub invariant_of-self-2 : goal.invariant_of-self-2
invariant_of-self-2 g c =
    let a = c.self.inside in
    let there = has_queue (queues_by a.roster) in
    let bounded = subst (AllByRecursion (HasRegistration (at a.registrations) there)) (sym (c.as_slice.ensures.value ∙ c.in_ok-find_standing_deep.ensures))
    (all_deep (at a.registrations) (HasRegistration (at a.registrations) there) a.registrations.lists (λ n. stands_of (at a.registrations) there n (on n a.registrations.lists) (c.self.invariant.0.stand n)) (ancestors c.args.parent c.args.tree.now.forest)) in
    let stand = c.add_transients.ensures.all_stand there bounded c.self.invariant.0.stand in
    let roster' = c.add_transients.new.roster in
    let queues = c.add_transients.ensures.queues in (
      subst (λ q. HoldsInvariant c.add_transients.new.registrations q a.pending.keys) (sym queues)
          (kept-others a.registrations (queues_by a.roster) a.pending.keys c.self.invariant.0 c.add_transients.new.registrations c.add_transients.ensures.sound stand),
      indexed-by (at c.add_transients.new.registrations) c.add_transients.new.fleeting.keys roster' (lasting_by a.roster) (passing_by roster') there c.add_transients.ensures.lasting refl
          (λ i held_there. ap (λ q. has_queue q i) queues ∙ held_there) (c.add_transients.ensures.indexed (lasting_by a.roster) there bounded c.self.invariant.1),
      c.add_transients.ensures.sources c.self.invariant.2,
      c.add_transients.ensures.agree c.self.invariant.3,
      subst (λ q. IsAwaited q a.pending.keys a.untold.keys) (sym queues) c.self.invariant.4,
      c.self.invariant.5,
    )

pub returns-clause-left : goal.returns-clause-left
returns-clause-left g c =
    on_ok c.add_transients.result c.add_transients.ensures.ok (λ added x w.
    let a = c.self.inside in
    let ns = ancestors c.args.parent c.args.tree.now.forest in
    let o : Watchers = record { nodes = registered_nodes a.registrations; queues = queues_by a.roster; pending = a.pending.keys } in
    let shown = subst (λ (o : Watchers). Watches o x) (sym c.self.view_is) w in
    let has : (n : ℕ) → found a.registrations (on n a.registrations.lists) ≡ once (registered_on n x.registrations) = λ n. sym (on-registered_nodes a.registrations n) ∙ shown.registrations n in
    subst (λ q. Watches (record { nodes = registered_nodes c.add_transients.new.registrations; queues = q; pending = a.pending.keys }) (with_transients c.args.node ns x)) (sym c.add_transients.ensures.queues)
    (watches-transients o x shown c.args.node ns (registered_nodes c.add_transients.new.registrations)
    (λ n. on-registered_nodes c.add_transients.new.registrations n ∙ added n
    ∙ transients-once (at a.registrations) a.registrations.lists (has_queue (queues_by a.roster)) c.self.invariant.3 c.self.invariant.0.stand x.registrations has c.args.node ns c.as_slice.result.now (c.as_slice.ensures.value ∙ c.in_ok-find_standing_deep.ensures) n)))

pub returns-clause-names : goal.returns-clause-names
returns-clause-names g c =
    let a = c.self.inside in
    let qs = queues_by a.roster in
    let there = has_queue qs in
    let ns = ancestors c.args.parent c.args.tree.now.forest in
    let lists = a.registrations.lists in
    let keys = c.as_slice.ensures.value ∙ c.in_ok-find_standing_deep.ensures in
    let bounded = subst (AllByRecursion (HasRegistration (at a.registrations) there)) (sym keys)
    (all_deep (at a.registrations) (HasRegistration (at a.registrations) there) lists (λ n. stands_of (at a.registrations) there n (on n lists) (c.self.invariant.0.stand n)) ns) in
    let stand = c.add_transients.ensures.all_stand there bounded c.self.invariant.0.stand in
    let queues = c.add_transients.ensures.queues in
    let kept =
    subst (λ q. HoldsInvariant c.add_transients.new.registrations q a.pending.keys) (sym queues)
    (kept-others a.registrations qs a.pending.keys c.self.invariant.0 c.add_transients.new.registrations c.add_transients.ensures.sound stand) in
    names-only a.registrations qs a.pending.keys c.args.self.now c.self.view_is c.add_transients.new.registrations (queues_by c.add_transients.new.roster) a.pending.keys kept (c.args.node ∷ [])
    (λ p nameless names tells. (
      c.add_transients.ensures.names p (or_parts (p c.args.node) false nameless).0
          (subst (AllByRecursion (λ k. names_one p (at a.registrations k) ≡ false)) (sym keys) (all_deep (at a.registrations) (λ k. names_one p (at a.registrations k) ≡ false) lists names ns)) names,
      subst (RecordsNameNone p) (sym queues) tells,
    ))

pub returns-then-is_empty-clause-names : goal.returns-then-is_empty-clause-names
returns-then-is_empty-clause-names g c =
    let a = c.self.inside in
    names-only a.registrations (queues_by a.roster) a.pending.keys c.args.self.now c.self.view_is a.registrations (queues_by a.roster) a.pending.keys c.self.invariant.0 (c.args.node ∷ []) (λ p _ names tells. (names, tells))

pub returns-in_err-find_standing_deep-clause-names : goal.returns-in_err-find_standing_deep-clause-names
returns-in_err-find_standing_deep-clause-names g c =
    let a = c.self.inside in
    names-only a.registrations (queues_by a.roster) a.pending.keys c.args.self.now c.self.view_is a.registrations (queues_by a.roster) a.pending.keys c.self.invariant.0 (c.args.node ∷ []) (λ p _ names tells. (names, tells))

pub add_transients-requires-clause-there : goal.add_transients-requires-clause-there
add_transients-requires-clause-there g c =
    let a = c.self.inside in
    let there = has_queue (queues_by a.roster) in
    subst (AllByRecursion (HasRegistration (at a.registrations) there)) (sym (c.as_slice.ensures.value ∙ c.in_ok-find_standing_deep.ensures))
    (all_deep (at a.registrations) (HasRegistration (at a.registrations) there) a.registrations.lists (λ n. stands_of (at a.registrations) there n (on n a.registrations.lists) (c.self.invariant.0.stand n)) (ancestors c.args.parent c.args.tree.now.forest))

pub returns-clause-made : goal.returns-clause-made
returns-clause-made g c =
    let a = c.self.inside in
    let new : Watchers = record { nodes = registered_nodes c.add_transients.new.registrations; queues = queues_by c.add_transients.new.roster; pending = a.pending.keys } in
    same-queues c.args.self.now new (c.add_transients.ensures.queues ∙ ap (λ (o : Watchers). o.queues) c.self.view_is)

pub returns-clause-quiet : goal.returns-clause-quiet
returns-clause-quiet g c unnamed =
    let a = c.self.inside in
    let nothing = c.in_ok-find_standing_deep.ensures ∙ none-deep a.registrations (has_queue (queues_by a.roster)) c.self.invariant.0.stand (queues_by a.roster) a.pending.keys c.args.self.now c.self.view_is (ancestors c.args.parent c.args.tree.now.forest) unnamed in
    absurd (not_nothing c.find_standing_deep.new.keys.items c.find_standing_deep.new.keys.len (sym c.find_standing_deep.new.keys.ok.0) (sym c.is_empty.ensures ∙ c.if-is_empty.false) nothing)

pub returns-then-is_empty-clause-quiet : goal.returns-then-is_empty-clause-quiet
returns-then-is_empty-clause-quiet g c unnamed = c.self.view_is

pub returns-in_err-find_standing_deep-clause-quiet : goal.returns-in_err-find_standing_deep-clause-quiet
returns-in_err-find_standing_deep-clause-quiet g c unnamed = c.self.view_is

pub add_transients-requires-clause-stand : goal.add_transients-requires-clause-stand
add_transients-requires-clause-stand g c = c.self.invariant.0.stand

pub returns-in_err-find_standing_deep-clause-err : goal.returns-in_err-find_standing_deep-clause-err
returns-in_err-find_standing_deep-clause-err g c = at_err c.from_residual.result c.self.view_is

pub returns-clause-err : goal.returns-clause-err
returns-clause-err g c =
    on_err c.add_transients.result c.add_transients.ensures.err (λ nodes.
    let a = c.self.inside in
    let b = c.add_transients.new in
    same-watchers (registered_nodes a.registrations) (registered_nodes b.registrations) (queues_by a.roster) (queues_by b.roster) a.pending.keys a.pending.keys nodes c.add_transients.ensures.queues refl ∙ c.self.view_is)
