use Rattle.dom_model.proofs.Commands.RefusalsLeave.{refused-leaves}
use Rattle.dom_session.proofs.laws.refused_commands_leave.Goals as goal

pub returns : goal.returns
returns c = λ b w d h. refused-leaves b w d h
