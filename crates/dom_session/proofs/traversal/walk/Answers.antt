use Rattle.std.proofs.Common.{sym, ◌∙◌}
use Rattle.dom_commands.specs.Brief.{reply_of}
use Rattle.dom_session.proofs.TraversalSteps.{step-walk}
use Rattle.dom_session.proofs.traversal.walk.Goals as goal

pub returns : goal.returns
returns c = record {
  step = λ b. step-walk c.args.world.now c.requires.shown b c.args.walker c.args.direction c.step-found.result c.step-found.new.self (reply_of c.brief_found.result) (sym c.holds.ensures ∙ c.if-not-holds.false) c.brief_found.ensures c.step-found.ensures.found c.step-found.ensures.moved;
}
