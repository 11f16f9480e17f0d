-- What a line of JSON does.
use Rattle.std.specs.Prelude.{◌≡◌, ◌⊎◌, ℕ, nat_eq, Bool, true, false, List, Option, Some, None, option_map, Result, Ok}
use Rattle.dom_model.specs.Worlds.World.{World}
use Rattle.dom_model.specs.Commands.Reply.{Reply}
use Rattle.dom_model.specs.Commands.Answer.{Step}
use Rattle.dom_model.specs.Commands.Table.{whole_table}
use Rattle.dom_model.specs.Commands.Line.{command_within}
use Rattle.dom_model.specs.Commands.Output.{step_of}
use Rattle.dom_model.specs.Commands.Printed.{reply_line}
use Rattle.dom_session.specs.Sessions.{SessionView, StandsFor, reply_view}
use Rattle.dom_c.specs.Statuses.{out_of_memory, closed_status, not_there}
use Rattle.dom_c.specs.Answers.{Ends}
use Rattle.dom_c.specs.declared.handle_state.HandleState.{HandleState}
use Rattle.dom_c.specs.declared.handle.Handle.{Handle}

-- the step of a line, as the server takes it
abbrev pub step_in : SessionView → ℕ → List ℕ → World → Step
step_in s limit line w = step_of s.bounds (command_within whole_table limit line) w

abbrev pub step_for_line : List ℕ → HandleState → Result (World → Step) ℕ
step_for_line line old = Ok (step_in old.session old.limit line)

-- unless memory was refused, the line that is kept is the one of the reply that is kept, with its newline
abbrev pub PrintsReply : Bool → Option Reply → List ℕ → Type 0
PrintsReply false (Some reply) line = line ≡ reply_line reply
PrintsReply false None line = ⊥
PrintsReply true reply line = Unit {0}

abbrev pub IsPrinted : ℕ → HandleState → Type 0
IsPrinted status k = PrintsReply (nat_eq status out_of_memory) (option_map reply_view k.reply) k.line.items

abbrev pub IsPrintedIn : ℕ → Option HandleState → Type 0
IsPrintedIn status None = Unit {0}
IsPrintedIn status (Some k) = IsPrinted status k

-- the step of a line is taken, as that of a command, but for the line that is kept
pub record TakesLine (line : List ℕ) (old new : HandleState) (status : ℕ) : Type 0 where
  pub ends : Ends new.ended (step_for_line line old) old new status
  pub bounds : new.session.bounds ≡ old.session.bounds
  pub limit : new.limit ≡ old.limit

-- a closed handle says so
abbrev pub TakesLineIn : List ℕ → Option HandleState → Option HandleState → ℕ → Type 0
TakesLineIn line None new status = (new ≡ None) × (status ≡ closed_status)
TakesLineIn line (Some old) None status = ⊥
TakesLineIn line (Some old) (Some new) status = TakesLine line old new status

pub record AnswersLine (old new : Handle) (line : List ℕ) (status : ℕ) : Type 0 where
  pub steps : TakesLineIn line old.slot.kept new.slot.kept status
  pub printed : IsPrintedIn status new.slot.kept

-- the reply to a line is the one of the step, and the session took it
pub record IsReply (reply : Reply) (old new : SessionView) (step : World → Step) : Type 0 where
  pub reply_is : (w : World) → StandsFor old w → reply ≡ (step w).reply
  pub world_is : (w : World) → StandsFor old w → StandsFor new (step w).world

-- the line that is kept is the one of this reply; where there is none, that is said
abbrev pub SaysLast : Option Reply → List ℕ → List ℕ → ℕ → Type 0
SaysLast None old new status = (new ≡ old) × (status ≡ not_there)
SaysLast (Some reply) old new status = (new ≡ reply_line reply) × (status ≡ 0)

-- the line that is kept is still the one before, since there was no memory for another
abbrev pub IsUnprinted : HandleState → HandleState → ℕ → Type 0
IsUnprinted old new status = (new.line ≡ old.line) × (status ≡ out_of_memory)

-- the last reply is said, or memory was refused, or the session had ended before
abbrev pub SaysOrEnds : Bool → HandleState → HandleState → ℕ → Type 0
SaysOrEnds true old new status = status ≡ out_of_memory
SaysOrEnds false old new status = SaysLast (option_map reply_view old.reply) old.line.items new.line.items status ⊎ IsUnprinted old new status

-- the last reply is printed; the session and the reply stay, and the session goes on if it went on
pub record PrintsLast (old new : HandleState) (status : ℕ) : Type 0 where
  pub session : new.session ≡ old.session
  pub reply : new.reply ≡ old.reply
  pub limit : new.limit ≡ old.limit
  pub ended : new.ended ≡ old.ended
  pub says : SaysOrEnds old.ended old new status

-- a closed handle says so
abbrev pub PrintsLastKept : Option HandleState → Option HandleState → ℕ → Type 0
PrintsLastKept None new status = (new ≡ None) × (status ≡ closed_status)
PrintsLastKept (Some old) None status = ⊥
PrintsLastKept (Some old) (Some new) status = PrintsLast old new status

abbrev pub PrintsLastIn : Handle → Handle → ℕ → Type 0
PrintsLastIn old new status = PrintsLastKept old.slot.kept new.slot.kept status
