use Rattle.dom_model.proofs.Commands.LinesCut.{lines-past}
use Rattle.dom_session.proofs.laws.lines_are_their_commands.Goals as goal

pub returns : goal.returns
returns c = λ table b w lines. lines-past table b w lines
