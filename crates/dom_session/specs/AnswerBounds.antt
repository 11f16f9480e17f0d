-- The bounds of an answer, which knows nothing of lines.
use Rattle.std.specs.Prelude.{ℕ}
use Rattle.dom_model.specs.Commands.Answer.{Bounds}

abbrev pub numbered : ℕ → Bounds
numbered n = record { numbers = n; line = 0 }
