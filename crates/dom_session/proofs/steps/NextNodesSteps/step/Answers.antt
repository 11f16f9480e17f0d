use Rattle.std.proofs.Common.{Option, ap, ℕ}
use Rattle.dom_model.specs.Commands.Reply as model_reply
use Rattle.dom_commands.specs.Brief.{reply_of}
use Rattle.dom_session.specs.StepsInTurn.{found_node}
use Rattle.dom_session.proofs.TraversalSteps.{step-next_node}
use Rattle.dom_session.proofs.steps.NextNodesSteps.step.Goals as goal

pub returns-clause-step : goal.returns-clause-step
returns-clause-step c b =
    step-next_node c.args.world.now c.requires.shown b c.args.self.iterator c.next-found.result c.next-found.new.self (reply_of (found_node c.number_of.result)) c.requires.held
    (ap (λ (o : Option ℕ). model_reply.Done (model_reply.MaybeNumber o)) c.number_of.ensures) c.next-found.ensures.found c.next-found.ensures.moved
