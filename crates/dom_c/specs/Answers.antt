-- What a call does: its status, the reply that is kept, and the session afterwards.
use Rattle.std.specs.Prelude.{◌≡◌, ◌⊎◌, ◌||◌, ℕ, Bool, true, false, Option, Some, None, option_map, Result, Ok, Err}
use Rattle.dom_model.specs.Worlds.World.{World}
use Rattle.dom_model.specs.Commands.Command.{Command}
use Rattle.dom_model.specs.Commands.Reply as model
use Rattle.dom_model.specs.Commands.Answer.{Step, answer}
use Rattle.dom_commands.specs.declared.reply.Reply.{Reply}
use Rattle.dom_session.specs.Sessions.{SessionView, StandsFor, IsAsBefore, held_world, goes_on, is_unchanged_in, reply_view}
use Rattle.dom_c.specs.Statuses.{status_of, status_at_end, out_of_memory, closed_status}
use Rattle.dom_c.specs.declared.handle_state.HandleState.{HandleState}
use Rattle.dom_c.specs.declared.handle.Handle.{Handle}

-- For each world that the session stood for, the reply is the one of that world's step, and the session stands for its next world.
-- The status tells of that reply, and a refusal leaves the session.
pub record IsTaken (reply : model.Reply) (old new : HandleState) (step : World → Step) (status : ℕ) : Type 0 where
  pub reply_is : (w : World) → StandsFor old.session w → reply ≡ (step w).reply
  pub world_is : (w : World) → StandsFor old.session w → StandsFor new.session (step w).world
  pub status_is : status ≡ status_of reply
  pub refused : model.is_refusal reply ≡ true → new.session ≡ old.session

-- the step is taken, and its reply is kept; arguments that make no command give their own status, and change nothing
abbrev pub Goes : Result (World → Step) ℕ → Option model.Reply → HandleState → HandleState → ℕ → Type 0
Goes (Ok step) None old new status = ⊥
Goes (Ok step) (Some reply) old new status = IsTaken reply old new step status
Goes (Err malformed) reply old new status = (new ≡ old) × (status ≡ malformed)

-- memory was refused before anything had changed, and the last reply is still the one that is kept
pub record IsSpared (old new : HandleState) (status : ℕ) : Type 0 where
  pub status_is : status ≡ out_of_memory
  pub session : IsAsBefore old.session new.session
  pub reply : new.reply ≡ old.reply
  pub line : new.line ≡ old.line

-- the session has ended, now or before, and nothing more is answered; or it goes on: the step was taken, or was refused memory
abbrev pub Ends : Bool → Result (World → Step) ℕ → HandleState → HandleState → ℕ → Type 0
Ends true step old new status = status ≡ out_of_memory
Ends false step old new status = (old.ended ≡ false) × (Goes step (option_map reply_view new.reply) old new status ⊎ IsSpared old new status)

-- whether an open session goes on, also if memory is refused
abbrev pub leaves_open : SessionView → Result Command ℕ → Bool
leaves_open s (Ok c) = goes_on c || is_unchanged_in s.world c
leaves_open s (Err malformed) = true

-- the step of a command, or the status of arguments that make none
abbrev pub step_for : HandleState → Result Command ℕ → Result (World → Step) ℕ
step_for old (Ok c) = Ok (λ w. answer old.session.bounds w c)
step_for old (Err malformed) = Err malformed

pub record StepsState (c : Result Command ℕ) (old new : HandleState) (status : ℕ) : Type 0 where
  pub ends : Ends new.ended (step_for old c) old new status
  pub goes_on : leaves_open old.session c ≡ true → old.session.ended ≡ false → new.ended ≡ old.ended
  pub is_open : old.session.ended ≡ false → new.ended ≡ false → new.session.ended ≡ false
  pub bounds : new.session.bounds ≡ old.session.bounds
  pub limit : new.limit ≡ old.limit
  pub line : new.line ≡ old.line

-- a closed handle says so
abbrev pub StepsIn : Result Command ℕ → Option HandleState → Option HandleState → ℕ → Type 0
StepsIn c None new status = (new ≡ None) × (status ≡ closed_status)
StepsIn c (Some old) None status = ⊥
StepsIn c (Some old) (Some new) status = StepsState c old new status

-- what a call for a command does
abbrev pub Answers : Handle → Handle → Result Command ℕ → ℕ → Type 0
Answers old new c status = StepsIn c old.slot.kept new.slot.kept status

-- What a question that takes no memory does once the session has ended: its reply is the one of the world that is held, and is kept.
pub record IsAskedAtEnd (c : Command) (old new : HandleState) (status : ℕ) : Type 0 where
  pub reply_is : option_map reply_view new.reply ≡ Some (answer old.session.bounds (held_world old.session) c).reply
  pub status_is : status ≡ status_at_end (answer old.session.bounds (held_world old.session) c).reply
  pub session : new.session ≡ old.session
  pub ended : new.ended ≡ true
  pub limit : new.limit ≡ old.limit
  pub line : new.line ≡ old.line

-- arguments that make no question have their own status then too
abbrev pub AsksAtEnd : Result Command ℕ → HandleState → HandleState → ℕ → Type 0
AsksAtEnd (Ok c) old new status = IsAskedAtEnd c old new status
AsksAtEnd (Err malformed) old new status = (new ≡ old) × (status ≡ malformed)

-- while the session goes on, a question is taken as a command
abbrev pub AsksOrEnded : Bool → Result Command ℕ → HandleState → HandleState → ℕ → Type 0
AsksOrEnded true c old new status = AsksAtEnd c old new status
AsksOrEnded false c old new status = StepsState c old new status

-- a closed handle says so
abbrev pub AsksKept : Result Command ℕ → Option HandleState → Option HandleState → ℕ → Type 0
AsksKept c None new status = (new ≡ None) × (status ≡ closed_status)
AsksKept c (Some old) None status = ⊥
AsksKept c (Some old) (Some new) status = AsksOrEnded old.ended c old new status

-- what a call for a question that takes no memory does
abbrev pub Asks : Handle → Handle → Result Command ℕ → ℕ → Type 0
Asks old new c status = AsksKept c old.slot.kept new.slot.kept status

-- what is kept once a reply was, and once memory was wanting
abbrev pub with_reply : HandleState → Reply → HandleState
with_reply k reply = record { session = k.session; reply = Some reply; line = k.line; limit = k.limit; ended = k.ended; alloc = k.alloc }

abbrev pub at_end : HandleState → HandleState
at_end k = record { session = k.session; reply = k.reply; line = k.line; limit = k.limit; ended = true; alloc = k.alloc }
