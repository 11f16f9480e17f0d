use Rattle.dom_model.proofs.Commands.{RefusalsDropped.refused-dropped, RefusalsDropped.refused_line-dropped, LinesCut.refused_bytes-dropped}
use Rattle.dom_session.proofs.laws.refused_commands_can_go.Goals as goal

pub returns : goal.returns
returns c = record {
  commands = λ b cs d ds h. refused-dropped b cs d ds h;
  lines = λ table b before line after h. refused_line-dropped table b before line after h;
  bytes = λ table b front line rest e f h. refused_bytes-dropped table b front line rest e f h;
}
