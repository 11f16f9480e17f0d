-- What the registrations and the queues name is what the definitions have as observed.
use Rattle.std.proofs.Common.{◌≡◌, ℕ, ◌||◌, ◌+◌, List, [], Option, ap, sym, ◌∙◌, subst, nat_eq, arith, unwrap_or}
use Rattle.std.specs.List.{list_any, IsDistinct}
use Rattle.std.proofs.lemmas.Map.Made.{keys_of-map_values}
use Rattle.dom_model.specs.Definitions.{among, inclusive_descendants, Record, Registration, queue_of, nodes_of_registration, nodes_of_record, queued_records}
use Rattle.dom_observe.specs.{Watchers.Watchers, Watchers.Watches, Registrations.found, Invariant.registered_nodes, Roster.queues_by, ObservedNodes.referred_nodes}
use Rattle.dom_observe.proofs.{NamedNodesLemmas.named-parts, KeyedNodesLemmas.any-keyed, ObservedNodesLemmas.any-flat, ObservedNodesLemmas.any-registered, ObservedNodesLemmas.queues-waiting, ObservedNodesLemmas.any-observed, IsAwaitedLemmas.awaited-names}
use Rattle.dom_observe.proofs.observers.Observers.refers.Goals as goal

pub returns-then-is_named-clause-observed : goal.returns-then-is_named-clause-observed
returns-then-is_named-clause-observed g c = λ x w.
    let a = c.self.inside in
    let p = λ (m : ℕ). among m (inclusive_descendants c.args.tree.now.forest c.args.top) in
    let one = λ (r : Registration). list_any p (nodes_of_registration r) in
    let shown = subst (λ (o : Watchers). Watches o x) (sym c.self.view_is) w in
    let distinct = subst (IsDistinct nat_eq) (sym (keys_of-map_values (found a.registrations) a.registrations.lists)) c.self.invariant.0.are.unique in
    let referred_nodes : c.is_named.result ≡ list_any one x.registrations =
    c.is_named.ensures ∙ any-keyed a.registrations (queues_by a.roster) a.pending.keys c.self.invariant.0 c.self.invariant.2 p ∙ any-registered one (registered_nodes a.registrations) x.registrations distinct shown.registrations in
    c.if-is_named.true
    ∙ sym (any-observed p x ∙ ap (λ b. b || list_any (λ (r : Record). list_any p (nodes_of_record r)) (queued_records x)) (sym referred_nodes ∙ c.if-is_named.true))

pub returns-else-is_named-clause-observed : goal.returns-else-is_named-clause-observed
returns-else-is_named-clause-observed g c = λ x w.
    let a = c.self.inside in
    let p = λ (m : ℕ). among m (inclusive_descendants c.args.tree.now.forest c.args.top) in
    let one = λ (r : Registration). list_any p (nodes_of_registration r) in
    let told = λ (r : Record). list_any p (nodes_of_record r) in
    let shown = subst (λ (o : Watchers). Watches o x) (sym c.self.view_is) w in
    let distinct = subst (IsDistinct nat_eq) (sym (keys_of-map_values (found a.registrations) a.registrations.lists)) c.self.invariant.0.are.unique in
    let referred_nodes : c.is_named.result ≡ list_any one x.registrations =
    c.is_named.ensures ∙ any-keyed a.registrations (queues_by a.roster) a.pending.keys c.self.invariant.0 c.self.invariant.2 p ∙ any-registered one (registered_nodes a.registrations) x.registrations distinct shown.registrations in
    let end : (i : ℕ) → i ≡ i + 0 = λ i. omega arith in
    let waiting = queues-waiting x x.places (queues_by a.roster) 0 shown.made (λ i. shown.queues i ∙ ap (λ k. queue_of k x) (end i)) in
    c.is_in_queues.ensures
    ∙ awaited-names (queues_by a.roster) a.pending.keys a.untold.keys c.self.invariant.4 p
    ∙ sym (any-flat told (λ (q : Option (List Record)). unwrap_or q []) (queues_by a.roster))
    ∙ ap (list_any told) (sym waiting)
    ∙ sym (any-observed p x ∙ ap (λ b. b || list_any told (queued_records x)) (sym referred_nodes ∙ c.if-is_named.false))

pub returns-then-is_named-clause-named : goal.returns-then-is_named-clause-named
returns-then-is_named-clause-named g c =
    let a = c.self.inside in
    let p = λ (m : ℕ). among m (inclusive_descendants c.args.tree.now.forest c.args.top) in
    let there = sym (c.is_named.ensures ∙ any-keyed a.registrations (queues_by a.roster) a.pending.keys c.self.invariant.0 c.self.invariant.2 p) ∙ c.if-is_named.true in
    c.if-is_named.true
    ∙ sym (ap (λ (o : Watchers). list_any p (referred_nodes o)) (sym c.self.view_is) ∙ named-parts p (record { nodes = registered_nodes a.registrations; queues = queues_by a.roster; pending = a.pending.keys })
    ∙ ap (λ b. b || list_any (λ (q : Option (List Record)). list_any (λ r. list_any p (nodes_of_record r)) (unwrap_or q [])) (queues_by a.roster)) there)

pub returns-else-is_named-clause-named : goal.returns-else-is_named-clause-named
returns-else-is_named-clause-named g c =
    let a = c.self.inside in
    let p = λ (m : ℕ). among m (inclusive_descendants c.args.tree.now.forest c.args.top) in
    let told = λ (r : Record). list_any p (nodes_of_record r) in
    let there = sym (c.is_named.ensures ∙ any-keyed a.registrations (queues_by a.roster) a.pending.keys c.self.invariant.0 c.self.invariant.2 p) ∙ c.if-is_named.false in
    c.is_in_queues.ensures
    ∙ awaited-names (queues_by a.roster) a.pending.keys a.untold.keys c.self.invariant.4 p
    ∙ sym (ap (λ (o : Watchers). list_any p (referred_nodes o)) (sym c.self.view_is) ∙ named-parts p (record { nodes = registered_nodes a.registrations; queues = queues_by a.roster; pending = a.pending.keys })
    ∙ ap (λ b. b || list_any (λ (q : Option (List Record)). list_any told (unwrap_or q [])) (queues_by a.roster)) there)
