-- The limits as the bounds of the definitions.
use Rattle.dom_model.specs.Commands.Answer.{Bounds}
use Rattle.dom_session.specs.declared.session.Limits.{Limits}

abbrev pub bounds_of : Limits → Bounds
bounds_of l = record { numbers = l.numbers; line = l.line }
