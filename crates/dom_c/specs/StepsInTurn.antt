-- Steps of an iterator or a walker in turn: the session and the last reply afterwards, the nodes and their count that are written, and the status.
use Rattle.std.specs.Prelude.{◌≡◌, ℕ, nat_eq, if◌then◌else◌, Bool, true, false, List, length, Option, Some, None, option_map, Result, Ok, Err}
use Rattle.dom_model.specs.Worlds.World.{World}
use Rattle.dom_model.specs.Commands.Command.{Command}
use Rattle.dom_model.specs.Commands.Reply as model
use Rattle.dom_commands.specs.declared.brief.Brief.{Brief}
use Rattle.dom_commands.specs.Brief.{reply_of}
use Rattle.dom_session.specs.Sessions.{StandsFor, reply_view}
use Rattle.dom_session.specs.Neighbours.{laid_over}
use Rattle.dom_session.specs.StepsInTurn.{Steps, steps_in_turn}
use Rattle.dom_c.specs.Answers.{with_reply}
use Rattle.dom_c.specs.Statuses.{status_of, out_of_memory, closed_status}
use Rattle.dom_c.specs.declared.handle_state.HandleState.{HandleState}
use Rattle.dom_c.specs.declared.handle.Handle.{Handle}

-- the status of the last step; if there was none, nothing was refused
abbrev pub status_of_last : Option model.Reply → ℕ
status_of_last None = 0
status_of_last (Some r) = status_of r

-- the reply that is kept: to the last step, or if there was none, the one from before
abbrev pub reply_after : Option model.Reply → Option model.Reply → Option model.Reply
reply_after None before = before
reply_after (Some r) before = Some r

abbrev pub with_last_reply : HandleState → Option Brief → HandleState
with_last_reply k None = k
with_last_reply k (Some b) = with_reply k (reply_of b)

-- the count that is written, unless the call was refused
abbrev pub count_after : ℕ → ℕ → ℕ → ℕ
count_after status found before = if nat_eq status 0 then found else before

-- the steps were taken
pub record AreTaken (s : Steps) (old new : HandleState) (before after : List ℕ) (count_before count status : ℕ) : Type 0 where
  pub world_is : StandsFor new.session s.world
  pub reply_is : option_map reply_view new.reply ≡ reply_after s.last (option_map reply_view old.reply)
  pub nodes_are : after ≡ laid_over s.nodes before
  pub count_is : count ≡ count_after status (length s.nodes) count_before
  pub status_is : status ≡ status_of_last s.last

-- nothing has changed, and nothing is written
pub record IsUnwritten (old new : HandleState) (before after : List ℕ) (count_before count : ℕ) : Type 0 where
  pub session : new.session ≡ old.session
  pub nodes : after ≡ before
  pub count_is : count ≡ count_before

-- For each world that the session stood for, as many of its steps were taken as there is room for; arguments that make no command have their own status.
abbrev pub StepsAreTaken : Result Command ℕ → HandleState → HandleState → List ℕ → List ℕ → ℕ → ℕ → ℕ → Type 0
StepsAreTaken (Ok c) old new before after count_before count status =
    (w : World) → StandsFor old.session w → AreTaken (steps_in_turn old.session.bounds c (length before) w) old new before after count_before count status
StepsAreTaken (Err malformed) old new before after count_before count status = (new.reply ≡ old.reply) × (status ≡ malformed)

-- the session has ended, now or before; or it goes on
abbrev pub EndsOrSteps : Bool → Result Command ℕ → HandleState → HandleState → List ℕ → List ℕ → ℕ → ℕ → ℕ → Type 0
EndsOrSteps true c old new before after count_before count status = (new.reply ≡ old.reply) × (status ≡ out_of_memory)
EndsOrSteps false c old new before after count_before count status =
    (old.ended ≡ false) × StepsAreTaken c old new before after count_before count status

pub record TakesStepsState (c : Result Command ℕ) (old new : HandleState) (before after : List ℕ) (count_before count status : ℕ) : Type 0 where
  pub ends : EndsOrSteps new.ended c old new before after count_before count status
  -- a call that is refused, at whatever step
  pub refused : (status ≡ 0 → ⊥) → IsUnwritten old new before after count_before count
  pub goes_on : old.session.ended ≡ false → new.ended ≡ old.ended
  pub is_open : old.session.ended ≡ false → new.ended ≡ false → new.session.ended ≡ false
  pub bounds : new.session.bounds ≡ old.session.bounds
  pub limit : new.limit ≡ old.limit
  pub line : new.line ≡ old.line

-- a closed handle says so, and nothing is written
abbrev pub TakesStepsIn : Result Command ℕ → Option HandleState → Option HandleState → List ℕ → List ℕ → ℕ → ℕ → ℕ → Type 0
TakesStepsIn c None new before after count_before count status = (new ≡ None) × (after ≡ before) × (count ≡ count_before) × (status ≡ closed_status)
TakesStepsIn c (Some old) None before after count_before count status = ⊥
TakesStepsIn c (Some old) (Some new) before after count_before count status = TakesStepsState c old new before after count_before count status

-- what a call for steps in turn does
abbrev pub TakesSteps : Handle → Handle → Result Command ℕ → List ℕ → List ℕ → ℕ → ℕ → ℕ → Type 0
TakesSteps old new c before after count_before count status = TakesStepsIn c old.slot.kept new.slot.kept before after count_before count status
