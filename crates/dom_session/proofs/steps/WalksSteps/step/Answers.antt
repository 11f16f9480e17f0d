use Rattle.std.proofs.Common.{Option, ap, ℕ}
use Rattle.dom_model.specs.Commands.Reply as model_reply
use Rattle.dom_traverse.specs.Items.{moved_by}
use Rattle.dom_commands.specs.Brief.{reply_of}
use Rattle.dom_session.specs.StepsInTurn.{found_node}
use Rattle.dom_session.proofs.{TraversalSteps.step-walk, StepsInTurnLemmas.held-moved}
use Rattle.dom_session.proofs.steps.WalksSteps.step.Goals as goal

pub returns-clause-step : goal.returns-clause-step
returns-clause-step c b =
    step-walk c.args.world.now c.requires.shown b c.args.self.walker c.args.self.direction c.step-found.result c.step-found.new.self (reply_of (found_node c.number_of.result)) c.requires.held
    (ap (λ (o : Option ℕ). model_reply.Done (model_reply.MaybeNumber o)) c.number_of.ensures) c.step-found.ensures.found c.step-found.ensures.moved

pub returns-clause-held : goal.returns-clause-held
returns-clause-held c =
    held-moved c.args.world.now.walkers c.step-found.new.self c.args.self.walker (moved_by c.args.self.direction c.args.world.now.tree.forest) c.requires.held c.step-found.ensures.moved
