-- The pending observers are among those that were not told, and nobody is pending; or nothing has changed.
use Rattle.std.proofs.Common.{[], length, arith, ap, sym, ◌∙◌, subst}
use Rattle.dom_observe.specs.{Invariant.has_queue, Invariant.AllThere, Invariant.HoldsInvariant, Roster.queues_by}
use Rattle.dom_observe.proofs.{IsAwaitedLemmas.awaited-taken, IsAwaitedLemmas.insert_all-last, NamedNodesLemmas.names-only, NamedNodesLemmas.names-same}
use Rattle.dom_observe.proofs.observers.Observers.take_pending.Goals as goal

pub invariant_of-self-2 : goal.invariant_of-self-2
invariant_of-self-2 c =
    let a = c.self.inside in
    let qs = queues_by a.roster in
    let kept = c.self.invariant.0 in
    let nobody : HoldsInvariant a.registrations qs c.append.new.other.keys = record {
      are = kept.are;
      stand = kept.stand;
      there = subst (AllThere (has_queue qs)) (sym c.in_ok-append.ensures.emptied) tt;
    } in (
      nobody,
      c.self.invariant.1,
      c.self.invariant.2,
      c.self.invariant.3,
      awaited-taken qs a.pending.keys a.untold.keys c.self.invariant.4 c.append.new.other.keys c.append.new.self.keys kept.there (c.in_ok-append.ensures.keys ∙ insert_all-last a.untold.keys a.pending.keys),
      omega (arith, ap length c.in_ok-append.ensures.emptied),
    )

pub returns-clause-names : goal.returns-clause-names
returns-clause-names c =
    let a = c.self.inside in
    let qs = queues_by a.roster in
    let kept = c.self.invariant.0 in
    let nobody : HoldsInvariant a.registrations qs c.append.new.other.keys = record {
      are = kept.are;
      stand = kept.stand;
      there = subst (AllThere (has_queue qs)) (sym c.in_ok-append.ensures.emptied) tt;
    } in
    names-only a.registrations qs a.pending.keys c.args.self.now c.self.view_is a.registrations qs c.append.new.other.keys nobody [] (λ p _ names tells. (names, tells))

pub returns-in_err-taken-clause-names : goal.returns-in_err-taken-clause-names
returns-in_err-taken-clause-names c =
    let a = c.self.inside in
    names-same a.registrations (queues_by a.roster) a.pending.keys c.self.invariant.0 c.args.self.now c.self.view_is []

pub returns-in_err-append-clause-names : goal.returns-in_err-append-clause-names
returns-in_err-append-clause-names c =
    let a = c.self.inside in
    let qs = queues_by a.roster in
    names-only a.registrations qs a.pending.keys c.args.self.now c.self.view_is a.registrations qs c.append.new.other.keys
    (subst (HoldsInvariant a.registrations qs) (sym c.in_err-append.ensures.other_err) c.self.invariant.0) [] (λ p _ names tells. (names, tells))
