use Rattle.std.proofs.Common.{arith}
use Rattle.std.proofs.lemmas.Grind.{common_steps}
use Rattle.dom_session.proofs.ObserverSteps.{step-release_observer}
use Rattle.dom_session.proofs.observers.release_observer.Goals as goal

pub returns : goal.returns
returns c = grind (arith, common_steps, step-release_observer)
