-- Where there is no room for the options, nothing has changed.
use Rattle.std.proofs.Common.{[], ◌∷◌}
use Rattle.dom_observe.specs.Roster.{queues_by}
use Rattle.dom_observe.proofs.NamedNodesLemmas.{names-same}
use Rattle.dom_observe.proofs.observers.Observers.observe.Goals as goal

pub returns-in_err-shared-clause-names : goal.returns-in_err-shared-clause-names
returns-in_err-shared-clause-names c =
    let a = c.self.inside in
    names-same a.registrations (queues_by a.roster) a.pending.keys c.self.invariant.0 c.args.self.now c.self.view_is (c.args.node ∷ [])

pub returns-in_err-asked-clause-names : goal.returns-in_err-asked-clause-names
returns-in_err-asked-clause-names c =
    let a = c.self.inside in
    names-same a.registrations (queues_by a.roster) a.pending.keys c.self.invariant.0 c.args.self.now c.self.view_is (c.args.node ∷ [])
