use Rattle.std.proofs.Common.{subst}
use Rattle.dom_observe.specs.Invariant.{AreRegistered}
use Rattle.dom_observe.proofs.registrations.Registrations.state_law.Goals as goal

pub returns : goal.returns
returns c = subst AreRegistered c.self.view_is c.self.invariant
