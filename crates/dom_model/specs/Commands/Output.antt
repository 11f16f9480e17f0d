-- Lines, and the output for a stream of bytes: the answers folded over the lines from the first world, each printed with a newline.
use Rattle.std.specs.Prelude.{ℕ, ◌==◌, Bool, true, false, if◌then◌else◌, List, [], ◌∷◌, ◌++◌, flat_map, Result, Ok, Err}
use Rattle.dom_model.specs.declared.OwnError.{OwnError}
use Rattle.dom_model.specs.Worlds.World.{World, first_world}
use Rattle.dom_model.specs.Commands.Command.{Command}
use Rattle.dom_model.specs.Commands.Reply.{Own}
use Rattle.dom_model.specs.Commands.Printed.{reply_line}
use Rattle.dom_model.specs.Commands.Table.{Row}
use Rattle.dom_model.specs.Commands.Line.{command_within}
use Rattle.dom_model.specs.Commands.Answer.{Bounds, Step, answer}

abbrev pub onto_first : ℕ → List (List ℕ) → List (List ℕ)
onto_first b [] = []
onto_first b (line ∷ lines) = (b ∷ line) ∷ lines

-- the lines whose newline is among the bytes
unfoldable pub whole_lines : List ℕ → List (List ℕ)
whole_lines [] = []
whole_lines (b ∷ bytes) = if b == 10 then [] ∷ whole_lines bytes else onto_first b (whole_lines bytes)

-- a byte ahead of the last piece, where no line began after it
abbrev pub onto_last : ℕ → List (List ℕ) → List ℕ → List ℕ
onto_last b [] piece = b ∷ piece
onto_last b (line ∷ lines) piece = piece

-- what comes after the last newline
unfoldable pub last_piece : List ℕ → List ℕ
last_piece [] = []
last_piece (b ∷ bytes) = if b == 10 then last_piece bytes else onto_last b (whole_lines bytes) (last_piece bytes)

abbrev pub line_if_any : List ℕ → List (List ℕ)
line_if_any [] = []
line_if_any (b ∷ bytes) = (b ∷ bytes) ∷ []

-- the bytes cut at each newline; a last piece that is not empty is a line
abbrev pub lines_of : List ℕ → List (List ℕ)
lines_of bytes = whole_lines bytes ++ line_if_any (last_piece bytes)

-- the step of a line: that of its command, or the refusal of its form, which leaves the world
abbrev pub step_of : Bounds → Result Command OwnError → World → Step
step_of b (Ok c) w = answer b w c
step_of b (Err e) w = record { reply = Own e; world = w }

abbrev pub line_step : List Row → Bounds → World → List ℕ → Step
line_step table b w line = step_of b (command_within table b.line line) w

-- the printed replies to a list of lines
abbrev pub replies_from : List Row → Bounds → World → List (List ℕ) → List (List ℕ)
replies_from table b w [] = []
replies_from table b w (line ∷ lines) =
    let s = line_step table b w line in reply_line s.reply ∷ replies_from table b s.world lines

-- the world after a list of lines
abbrev pub world_after : List Row → Bounds → World → List (List ℕ) → World
world_after table b w [] = w
world_after table b w (line ∷ lines) = world_after table b (line_step table b w line).world lines

-- the lines that are to be answered, once the input has ended or before
abbrev pub due_lines : List ℕ → Bool → List (List ℕ)
due_lines bytes false = whole_lines bytes
due_lines bytes true = lines_of bytes

-- the printed replies that are due
unfoldable pub due : List Row → Bounds → List ℕ → Bool → List (List ℕ)
due table b bytes ended = replies_from table b first_world (due_lines bytes ended)

abbrev pub joined : List (List ℕ) → List ℕ
joined parts = flat_map (λ part. part) parts

-- the output for a stream of bytes
abbrev pub output_of : List Row → Bounds → List ℕ → List ℕ
output_of table b bytes = joined (due table b bytes true)
