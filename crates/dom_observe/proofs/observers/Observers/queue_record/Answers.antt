-- Each observer that the mutation interests gets its record, and is pending.
use Rattle.std.proofs.Common.{◌≡◌, ℕ, ◌==◌, true, List, [], ◌∷◌, ◌++◌, length, filter, refl, ap, sym, ◌∙◌, subst, arith, flat_map, filter_map}
use Rattle.dom_model.specs.Definitions.{ancestors, Mutation, standing_on, registered_on, interests, observers_of, among, with_all_last}
use Rattle.dom_observe.specs.{WithoutRepeats.once, Watchers.Watchers, Watchers.Watches, Watchers.records_at, Watchers.on, Registrations.at, Invariant.registered_nodes, Invariant.has_queue, Invariant.IsAwaited, Roster.queues_by, Interested.listeners, Interested.flag_of, Interested.delivered, ObservedNodes.nodes_of_mutation, Undoing.heard_at, Undoing.IsQueued}
use Rattle.dom_observe.proofs.{IsAwaitedLemmas.awaited-queued, NamedNodesLemmas.names-only, NamedNodesLemmas.names-same, NamedNodesLemmas.same-there, InterestedLemmas.all_last-there, ObserverKeysLemmas.indexed-same, ReleaseLemmas.each-there, RosterLemmas.has-same, RosterLemmas.length-same, ResultLemmas.on_both, ResultLemmas.both_err, ResultLemmas.at_err, InvariantLemmas.on-registered_nodes, InvariantLemmas.none_in, QueueRecordLemmas.standing_on-none, QueueRecordLemmas.standing_stands, QueueRecordLemmas.kept-queued, QueueRecordLemmas.told-queued, QueueRecordLemmas.pended-queued, WatchesLemmas.watches-noted, WatchesLemmas.watches-unheard, NoneInterestedLemmas.not_nothing, NoneInterestedLemmas.none-stand, NoneInterestedLemmas.none-standing, UndoingLemmas.heard-listeners, UndoingLemmas.heard-idle, UndoingLemmas.queued-none}
use Rattle.std.proofs.lemmas.Bool.{true≢false}
use Rattle.std.specs.Map.{keys_of}
use Rattle.dom_model.proofs.PlainLists.Numbers.{same_or, same, apart}
use Rattle.dom_observe.proofs.observers.Observers.queue_record.Goals as goal

none : {A : Type 0} (xs : List A) → length xs ≡ 0 → xs ≡ []
none [] h = refl
none (x ∷ xs) h = absurd (omega arith)

pub returns-then-is_empty-clause-queued : goal.returns-then-is_empty-clause-queued
returns-then-is_empty-clause-queued g c = λ x w.
    let a = c.self.inside in
    let ns = ancestors c.args.mutation.now.target c.args.tree.now.forest in
    let m : Mutation = record (c.args.mutation.now) { standing = standing_on ns x.registrations } in
    let shown = subst (λ (o : Watchers). Watches o x) (sym c.self.view_is) w in
    let gone = none_in a.registrations (sym c.is_empty.ensures ∙ c.if-is_empty.true) x.registrations shown.registrations in
    watches-unheard c.args.self.now x w m (ap (λ rs. filter (interests m) (standing_on ns rs)) gone ∙ ap (filter (interests m)) (standing_on-none ns))

pub queue_for_interested-requires : goal.queue_for_interested-requires
queue_for_interested-requires g c =
    let a = c.self.inside in
    let qs = queues_by a.roster in
    standing_stands (at a.registrations) (has_queue qs) a.registrations.lists _ c.as_slice.result.now c.self.invariant.0.stand (c.as_slice.ensures.value ∙ c.in_ok-find_standing.ensures)

pub invariant_of-self : goal.invariant_of-self
invariant_of-self g c = c.self.invariant

pub invariant_of-self-2 : goal.invariant_of-self-2
invariant_of-self-2 g c =
    let a = c.self.inside in
    let qs = queues_by a.roster in
    let bounded = standing_stands (at a.registrations) (has_queue qs) a.registrations.lists _ c.as_slice.result.now c.self.invariant.0.stand (c.as_slice.ensures.value ∙ c.in_ok-find_standing.ensures) in (
      kept-queued a.registrations qs a.pending.keys c.self.invariant.0 (queues_by c.queue_for_interested.new.roster) c.queue_for_interested.new.pending.keys
          (has-same a.roster c.queue_for_interested.new.roster c.queue_for_interested.ensures.keys)
          (c.queue_for_interested.ensures.there (has_queue qs) bounded c.self.invariant.0.there),
      indexed-same (at a.registrations) a.fleeting.keys a.roster c.queue_for_interested.new.roster c.self.invariant.1 c.queue_for_interested.ensures.keys,
      c.self.invariant.2,
      c.self.invariant.3,
      subst (IsAwaited (queues_by c.queue_for_interested.new.roster) c.queue_for_interested.new.pending.keys) (sym c.queue_for_interested.ensures.untold)
          (awaited-queued qs a.pending.keys a.untold.keys c.self.invariant.4 (queues_by c.queue_for_interested.new.roster) c.queue_for_interested.new.pending.keys (has-same a.roster c.queue_for_interested.new.roster c.queue_for_interested.ensures.keys) c.queue_for_interested.ensures.stay c.queue_for_interested.ensures.others),
      c.queue_for_interested.ensures.room c.self.invariant.5,
    )

pub returns-clause-queued : goal.returns-clause-queued
returns-clause-queued g c =
    on_both c.queue_for_interested.result c.queue_for_interested.ensures.told c.queue_for_interested.ensures.pending (λ told pends x w.
    let a = c.self.inside in
    let m = c.args.mutation.now in
    let ns = ancestors c.args.mutation.now.target c.args.tree.now.forest in
    let u = at a.registrations in
    let lists = a.registrations.lists in
    let keys = c.as_slice.result.now in
    let qs = queues_by a.roster in
    let qs' = queues_by c.queue_for_interested.new.roster in
    let o : Watchers = record { nodes = registered_nodes a.registrations; queues = qs; pending = a.pending.keys } in
    let shown = subst (λ (o : Watchers). Watches o x) (sym c.self.view_is) w in
    let has : (n : ℕ) → filter_map u (on n lists) ≡ once (registered_on n x.registrations) = λ n. sym (on-registered_nodes a.registrations n) ∙ shown.registrations n in
    let ls = listeners u m.type m.target m.name keys in
    let target = ap (λ (k : Mutation). k.target) c.mutation.view_is in
    let is : keys ≡ flat_map (λ n. on n lists) ns = c.as_slice.ensures.value ∙ c.in_ok-find_standing.ensures ∙ ap (λ t. flat_map (λ n. on n lists) (ancestors t c.args.tree.now.forest)) target in
    let noted_as : Mutation = record (c.args.mutation.now) { standing = standing_on ns x.registrations } in
    let pended : c.queue_for_interested.new.pending.keys ≡ with_all_last a.pending.keys (observers_of noted_as) = pends ∙ pended-queued u lists x.registrations has m ns keys is ls refl a.pending.keys in
    let bounded = standing_stands u (has_queue qs) lists _ keys c.self.invariant.0.stand (c.as_slice.ensures.value ∙ c.in_ok-find_standing.ensures) in
    watches-noted o x shown noted_as qs' c.queue_for_interested.new.pending.keys
    (length-same a.roster c.queue_for_interested.new.roster c.queue_for_interested.ensures.keys)
    (has-same a.roster c.queue_for_interested.new.roster c.queue_for_interested.ensures.keys)
    (λ p. told p ∙ ap (λ rs. records_at qs p ++ rs) (told-queued u lists x.registrations has m ns keys is ls refl p))
    pended
    (λ i m. each-there (has_queue qs) c.queue_for_interested.new.pending.keys (c.queue_for_interested.ensures.there (has_queue qs) bounded c.self.invariant.0.there) i
    (ap (among i) pended ∙ all_last-there i a.pending.keys (observers_of noted_as) m)))

pub returns-then-is_empty-clause-names : goal.returns-then-is_empty-clause-names
returns-then-is_empty-clause-names g c =
    let a = c.self.inside in
    names-same a.registrations (queues_by a.roster) a.pending.keys c.self.invariant.0 c.args.self.now c.self.view_is (nodes_of_mutation c.args.mutation.now)

pub returns-clause-names : goal.returns-clause-names
returns-clause-names g c =
    let a = c.self.inside in
    let qs = queues_by a.roster in
    let qs' = queues_by c.queue_for_interested.new.roster in
    let bounded = standing_stands (at a.registrations) (has_queue qs) a.registrations.lists _ c.as_slice.result.now c.self.invariant.0.stand (c.as_slice.ensures.value ∙ c.in_ok-find_standing.ensures) in
    let kept = kept-queued a.registrations qs a.pending.keys c.self.invariant.0 qs' c.queue_for_interested.new.pending.keys
    (has-same a.roster c.queue_for_interested.new.roster c.queue_for_interested.ensures.keys)
    (c.queue_for_interested.ensures.there (has_queue qs) bounded c.self.invariant.0.there) in
    names-only a.registrations qs a.pending.keys c.args.self.now c.self.view_is a.registrations qs' c.queue_for_interested.new.pending.keys kept (nodes_of_mutation c.args.mutation.now)
    (λ p nameless names tells. (names, c.queue_for_interested.ensures.names p nameless tells))

pub returns-clause-made : goal.returns-clause-made
returns-clause-made g c =
    let a = c.self.inside in
    let new : Watchers = record { nodes = registered_nodes a.registrations; queues = queues_by c.queue_for_interested.new.roster; pending = c.queue_for_interested.new.pending.keys } in
    same-there c.args.self.now new (queues_by a.roster) (ap (λ (o : Watchers). o.queues) c.self.view_is) (length-same a.roster c.queue_for_interested.new.roster c.queue_for_interested.ensures.keys) (has-same a.roster c.queue_for_interested.new.roster c.queue_for_interested.ensures.keys)

pub returns-in_err-find_standing-clause-names : goal.returns-in_err-find_standing-clause-names
returns-in_err-find_standing-clause-names g c =
    let a = c.self.inside in
    names-only a.registrations (queues_by a.roster) a.pending.keys c.args.self.now c.self.view_is a.registrations (queues_by a.roster) a.pending.keys c.self.invariant.0 (nodes_of_mutation c.args.mutation.now) (λ p _ names tells. (names, tells))

pub returns-then-is_empty-2-clause-queued : goal.returns-then-is_empty-2-clause-queued
returns-then-is_empty-2-clause-queued g c = λ x w.
    let a = c.self.inside in
    let ns = ancestors c.args.mutation.now.target c.args.tree.now.forest in
    let m : Mutation = record (c.args.mutation.now) { standing = standing_on ns x.registrations } in
    let shown = subst (λ (o : Watchers). Watches o x) (sym c.self.view_is) w in
    let target = ap (λ (k : Mutation). k.target) c.mutation.view_is in
    let full = c.find_standing.new.keys.ok.0 in
    let t : (c.find_standing.new.keys.len == 0) ≡ true = sym c.is_empty-2.ensures ∙ c.if-is_empty-2.true in
    let nothing : c.find_standing.new.keys.items ≡ [] =
    none c.find_standing.new.keys.items (elim (same_or c.find_standing.new.keys.len 0) [ same e _ ↦ omega (arith, full, e) | apart _ f ↦ absurd (true≢false (sym t ∙ f)) ]) in
    let keys = ap (λ k. flat_map (λ n. on n a.registrations.lists) (ancestors k c.args.tree.now.forest)) (sym target) ∙ sym c.in_ok-find_standing.ensures ∙ nothing in
    let gone = none-standing a.registrations x.registrations shown.registrations ns keys in
    let o : Watchers = record { nodes = registered_nodes a.registrations; queues = queues_by a.roster; pending = a.pending.keys } in
    watches-unheard o x shown m (ap (filter (interests m)) gone)

pub returns-then-is_empty-2-clause-names : goal.returns-then-is_empty-2-clause-names
returns-then-is_empty-2-clause-names g c =
    let a = c.self.inside in
    names-only a.registrations (queues_by a.roster) a.pending.keys c.args.self.now c.self.view_is a.registrations (queues_by a.roster) a.pending.keys c.self.invariant.0 (nodes_of_mutation c.args.mutation.now) (λ p _ names tells. (names, tells))

pub returns-then-is_empty-2-clause-quiet : goal.returns-then-is_empty-2-clause-quiet
returns-then-is_empty-2-clause-quiet g c unnamed = c.self.view_is

pub returns-then-is_empty-clause-quiet : goal.returns-then-is_empty-clause-quiet
returns-then-is_empty-clause-quiet g c unnamed = refl

pub returns-in_err-find_standing-clause-quiet : goal.returns-in_err-find_standing-clause-quiet
returns-in_err-find_standing-clause-quiet g c unnamed = c.self.view_is

pub returns-clause-quiet : goal.returns-clause-quiet
returns-clause-quiet g c unnamed =
    let a = c.self.inside in
    let target = ap (λ (k : Mutation). k.target) c.mutation.view_is in
    let none-there = none-stand a.registrations (has_queue (queues_by a.roster)) c.self.invariant.0.stand (queues_by a.roster) a.pending.keys c.args.self.now c.self.view_is (ancestors c.args.mutation.now.target c.args.tree.now.forest) unnamed in
    let nothing = c.in_ok-find_standing.ensures ∙ ap (λ k. flat_map (λ n. on n a.registrations.lists) (ancestors k c.args.tree.now.forest)) target ∙ none-there in
    absurd (not_nothing c.find_standing.new.keys.items c.find_standing.new.keys.len (sym c.find_standing.new.keys.ok.0) (sym c.is_empty-2.ensures ∙ c.if-is_empty-2.false) nothing)

pub returns-in_err-find_standing-clause-err : goal.returns-in_err-find_standing-clause-err
returns-in_err-find_standing-clause-err g c = at_err c.from_residual.result c.self.view_is

pub returns-clause-err : goal.returns-clause-err
returns-clause-err g c =
    let a = c.self.inside in
    both_err c.queue_for_interested.result c.queue_for_interested.ensures.err c.queue_for_interested.ensures.err_pending (λ queues pending.
    let same : record { nodes = registered_nodes a.registrations; queues = queues_by c.queue_for_interested.new.roster; pending = c.queue_for_interested.new.pending.keys }
    ≡ record { nodes = registered_nodes a.registrations; queues = queues_by a.roster; pending = a.pending.keys } = λ i. record { nodes = registered_nodes a.registrations; queues = queues i; pending = pending i } in
    same ∙ c.self.view_is)

-- what is queued, in the observers' own words

pub returns-then-is_empty-clause-own : goal.returns-then-is_empty-clause-own
returns-then-is_empty-clause-own g c =
    let a = c.self.inside in
    let m = c.args.mutation.now in
    let ns = ancestors m.target c.args.tree.now.forest in
    let none = heard-idle a.registrations (queues_by a.roster) a.pending.keys m ns (sym c.is_empty.ensures ∙ c.if-is_empty.true) in
    queued-none ns m c.args.self.now (subst (λ (o : Watchers). heard_at ns m o ≡ []) c.self.view_is none)

pub returns-then-is_empty-2-clause-own : goal.returns-then-is_empty-2-clause-own
returns-then-is_empty-2-clause-own g c =
    let a = c.self.inside in
    let m = c.args.mutation.now in
    let ns = ancestors m.target c.args.tree.now.forest in
    let target = ap (λ (k : Mutation). k.target) c.mutation.view_is in
    let full = c.find_standing.new.keys.ok.0 in
    let t : (c.find_standing.new.keys.len == 0) ≡ true = sym c.is_empty-2.ensures ∙ c.if-is_empty-2.true in
    let nothing : c.find_standing.new.keys.items ≡ [] =
    none c.find_standing.new.keys.items (elim (same_or c.find_standing.new.keys.len 0) [ same e _ ↦ omega (arith, full, e) | apart _ f ↦ absurd (true≢false (sym t ∙ f)) ]) in
    let keys = ap (λ k. flat_map (λ n. on n a.registrations.lists) (ancestors k c.args.tree.now.forest)) (sym target) ∙ sym c.in_ok-find_standing.ensures ∙ nothing in
    let nobody = heard-listeners a.registrations (queues_by a.roster) a.pending.keys m ns ∙ ap (listeners (at a.registrations) m.type m.target m.name) keys in
    subst (λ (o : Watchers). IsQueued ns m o (record { nodes = registered_nodes a.registrations; queues = queues_by a.roster; pending = a.pending.keys })) c.self.view_is
    (queued-none ns m (record { nodes = registered_nodes a.registrations; queues = queues_by a.roster; pending = a.pending.keys }) nobody)

pub returns-clause-own : goal.returns-clause-own
returns-clause-own g c =
    on_both c.queue_for_interested.result c.queue_for_interested.ensures.told c.queue_for_interested.ensures.pending (λ told pends.
    let a = c.self.inside in
    let b = c.queue_for_interested.new in
    let m = c.args.mutation.now in
    let ns = ancestors m.target c.args.tree.now.forest in
    let target = ap (λ (k : Mutation). k.target) c.mutation.view_is in
    let is : c.as_slice.result.now ≡ flat_map (λ n. on n a.registrations.lists) ns = c.as_slice.ensures.value ∙ c.in_ok-find_standing.ensures ∙ ap (λ t. flat_map (λ n. on n a.registrations.lists) (ancestors t c.args.tree.now.forest)) target in
    let heard = ap (listeners (at a.registrations) m.type m.target m.name) is ∙ sym (heard-listeners a.registrations (queues_by a.roster) a.pending.keys m ns) in
    let new : Watchers = record { nodes = registered_nodes a.registrations; queues = queues_by b.roster; pending = b.pending.keys } in
    subst (λ (o : Watchers). IsQueued ns m o new) c.self.view_is (record {
      nodes = refl;
      made = length-same a.roster b.roster c.queue_for_interested.ensures.keys;
      there = has-same a.roster b.roster c.queue_for_interested.ensures.keys;
      records = λ p. told p ∙ ap (λ ls. records_at (queues_by a.roster) p ++ delivered m (flag_of p ls)) heard;
      pending = pends ∙ ap (λ ls. with_all_last a.pending.keys (keys_of ls)) heard;
    }))
