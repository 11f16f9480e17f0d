-- What a server holds, and what it writes when bytes come.
use Rattle.std.specs.Prelude.{◌≡◌, ◌≢◌, ℕ, ◌<◌, ◌≤◌, Bool, true, false, List, ◌++◌, length, Option, Result, Ok, Err, ◌⊎◌}
use Rattle.std.specs.List.{All, AllByRecursion}
use Rattle.std.specs.Io.KnownBytes.{Appends, Consumes}
use Rattle.dom_model.specs.declared.OwnError.{OwnError}
use Rattle.dom_model.specs.declared.OwnError.TheVariants.{LineTooLong}
use Rattle.dom_model.specs.Commands.Command.{Command}
use Rattle.dom_model.specs.Commands.Reply.{Reply}
use Rattle.dom_model.specs.Worlds.World.{World, first_world}
use Rattle.dom_model.specs.Commands.Answer.{Bounds, Step}
use Rattle.dom_model.specs.Commands.Table.{whole_table}
use Rattle.dom_model.specs.Commands.Line.{command_of}
use Rattle.dom_model.specs.Commands.Printed.{reply_line, out_of_memory_line}
use Rattle.dom_model.specs.Commands.Output.{joined, due, whole_lines, last_piece, lines_of, step_of, world_after}
use Rattle.dom_session.specs.Sessions.{SessionView, StandsFor}
use Rattle.dom_serve.specs.declared.fault.Fault.{Fault}
use Rattle.dom_serve.specs.declared.fault.Fault.TheVariants.{Read, Write, Memory, InputTooLong}
use Rattle.dom_serve.specs.declared.server.Server.{Server}
use Rattle.dom_serve.specs.declared.fault.Summary.{Summary}
use Rattle.dom_serve.specs.Streams.{Reading}
use Rattle.dom_serve.specs.Writes.{AppendsFront}
use Rattle.dom_serve.specs.Pieces.{ReadsPieces, is_nothing, has_end}
use Rattle.dom_serve.specs.Output.{IsCutShort, SaysOutOfMemory}

-- the command of the line that is held, of which the bytes were kept unless there were too many
abbrev pub held_command : List ℕ → Bool → Result Command OwnError
held_command kept true = Err LineTooLong
held_command kept false = command_of whole_table kept

abbrev pub held_step : Bounds → List ℕ → Bool → World → Step
held_step b kept too_long w = step_of b (held_command kept too_long) w

-- the session took the step, and this is its reply
pub record Takes (s : Step) (r : Reply) (new : SessionView) : Type 0 where
  pub reply_is : r ≡ s.reply
  pub world_is : StandsFor new s.world

-- the session took the step, and the text is its reply
pub record PrintsStep (s : Step) (text : List ℕ) (new : SessionView) : Type 0 where
  pub text_is : text ≡ reply_line s.reply
  pub world_is : StandsFor new s.world

-- the step's reply was not written whole: a front of it was, or the out-of-memory line or a front of that
abbrev pub Fails : Step → Option (List ℕ) → Option (List ℕ) → Fault → Type 0
Fails s taken taken' Read = ⊥
Fails s taken taken' Write = AppendsFront taken taken' (reply_line s.reply) ⊎ AppendsFront taken taken' out_of_memory_line
Fails s taken taken' Memory = Appends taken taken' out_of_memory_line
Fails s taken taken' InputTooLong = ⊥

-- the session took the step and its reply was written, or that failed
abbrev pub WritesReply : {T : Type 0} → Step → SessionView → Option (List ℕ) → Option (List ℕ) → Result T Fault → Type 0
WritesReply s new taken taken' (Ok _) = StandsFor new s.world × Appends taken taken' (reply_line s.reply)
WritesReply s new taken taken' (Err fault) = Fails s taken taken' fault

-- the out-of-memory line was written, or a front of it
abbrev pub SaysWant : Option (List ℕ) → Option (List ℕ) → Fault → Type 0
SaysWant taken taken' Read = ⊥
SaysWant taken taken' Write = AppendsFront taken taken' out_of_memory_line
SaysWant taken taken' Memory = Appends taken taken' out_of_memory_line
SaysWant taken taken' InputTooLong = ⊥

-- no newline is among the bytes
abbrev pub EndsNoLine : List ℕ → Type 0
EndsNoLine bytes = All (λ byte. byte ≢ 10) bytes

-- the bytes of the unfinished line were kept, or there were too many
abbrev pub HoldsPiece : ℕ → List ℕ → Bool → List ℕ → Type 0
HoldsPiece limit kept false piece = (piece ≡ kept) × (length kept ≤ limit)
HoldsPiece limit kept true piece = limit < length piece

-- what a server holds when these bytes have come
pub record IsServerAfter (b : Bounds) (bytes : List ℕ) (s : Server) : Type 0 where
  pub world : StandsFor s.session (world_after whole_table b first_world (whole_lines bytes))
  pub bounds : s.session.bounds ≡ b
  pub line : s.line ≡ b.line
  pub lines : s.lines ≡ length (whole_lines bytes)
  pub piece : HoldsPiece b.line s.kept.items s.too_long (last_piece bytes)

-- the replies that became due were written
pub record Grows (before after : List (List ℕ)) (taken taken' : Option (List ℕ)) : Type 0 where
  pub more : List (List ℕ)
  pub after_is : after ≡ before ++ more
  pub written : Appends taken taken' (joined more)

-- all that was written, of which the replies that were due before stand whole, at a fault
abbrev pub IsBroken : List (List ℕ) → Fault → List ℕ → Type 0
IsBroken after Read whole = ⊥
IsBroken after Write whole = IsCutShort after whole
IsBroken after Memory whole = SaysOutOfMemory after whole
IsBroken after InputTooLong whole = ⊥

pub record Breaks (before after : List (List ℕ)) (taken taken' : Option (List ℕ)) (fault : Fault) : Type 0 where
  pub text : List ℕ
  pub written : Appends taken taken' text
  pub broken : IsBroken after fault (joined before ++ text)

-- the server took more bytes, up to these
abbrev pub Fed : {T : Type 0} → Bounds → List ℕ → List ℕ → Server → Option (List ℕ) → Option (List ℕ) → Result T Fault → Type 0
Fed b bytes bytes' s taken taken' (Ok _) =
    IsServerAfter b bytes' s × Grows (due whole_table b bytes false) (due whole_table b bytes' false) taken taken'
Fed b bytes bytes' s taken taken' (Err fault) =
    Breaks (due whole_table b bytes false) (due whole_table b bytes' false) taken taken' fault

-- the server answered what was left at the end of these bytes
abbrev pub Finishes : {T : Type 0} → Bounds → List ℕ → Server → Option (List ℕ) → Option (List ℕ) → Result T Fault → Type 0
Finishes b bytes s taken taken' (Ok _) =
    (s.lines ≡ length (lines_of bytes)) × Grows (due whole_table b bytes false) (due whole_table b bytes true) taken taken'
Finishes b bytes s taken taken' (Err fault) =
    Breaks (due whole_table b bytes false) (due whole_table b bytes true) taken taken' fault

-- the same, with the count of lines
abbrev pub Concludes : Bounds → List ℕ → Option (List ℕ) → Option (List ℕ) → Result Summary Fault → Type 0
Concludes b bytes taken taken' (Ok summary) =
    (summary.lines ≡ length (lines_of bytes)) × Grows (due whole_table b bytes false) (due whole_table b bytes true) taken taken'
Concludes b bytes taken taken' (Err fault) =
    Breaks (due whole_table b bytes false) (due whole_table b bytes true) taken taken' fault

-- the pieces that reads gave so far, none of them the end, and that what was due for them was written
pub record IsSoFar {R : Type 0} (reading : Reading R) (b : Bounds) (turn : ℕ) (old new : R)
    (s : Server) (taken taken' : Option (List ℕ)) : Type 0 where
  pub pieces : List (List ℕ)
  pub reads : ReadsPieces reading.gives old pieces new
  pub count : length pieces ≡ turn
  pub sizes : All (λ piece. length piece ≤ 65536) pieces
  pub open_ended : has_end pieces ≡ false
  pub some : AllByRecursion (λ piece. is_nothing piece ≡ false) pieces
  pub consumed : Consumes (reading.left old) (reading.left new) (joined pieces)
  pub stands : IsServerAfter b (joined pieces) s
  pub written : Appends taken taken' (joined (due whole_table b (joined pieces) false))
