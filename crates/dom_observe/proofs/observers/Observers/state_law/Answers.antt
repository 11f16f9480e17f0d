-- What is kept, seen from outside.
use Rattle.std.proofs.Common.{subst}
use Rattle.dom_observe.specs.{Roster.queues_by, Sound.AreSoundWatchers}
use Rattle.dom_observe.proofs.IsSoundLemmas.{seen-sound}
use Rattle.dom_observe.proofs.observers.Observers.state_law.Goals as goal

pub returns : goal.returns
returns c =
    let a = c.self.inside in
    subst AreSoundWatchers c.self.view_is (seen-sound a.registrations (queues_by a.roster) a.pending.keys c.self.invariant.0 c.self.invariant.2 c.self.invariant.3)
