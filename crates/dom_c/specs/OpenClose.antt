-- What opening and closing do.
use Rattle.std.specs.Prelude.{◌≡◌, ℕ, nat_le, ◌&&◌, true, false, [], Option, Some, None, is_some, if◌then◌else◌}
use Rattle.dom_model.specs.Worlds.World.{first_world}
use Rattle.dom_model.specs.Commands.Answer.{Bounds}
use Rattle.dom_session.specs.Sessions.{StandsFor}
use Rattle.dom_c.specs.Statuses.{out_of_memory, closed_status, already_open, bad_limits}
use Rattle.dom_c.specs.declared.handle_state.HandleState.{HandleState}
use Rattle.dom_c.specs.declared.handle.Handle.{Handle}

-- a session of these bounds over the first world, with no reply and no line yet
pub record IsNew (b : Bounds) (k : HandleState) : Type 0 where
  pub world : StandsFor k.session first_world
  pub bounds : k.session.bounds ≡ b
  pub limit : k.limit ≡ b.line
  pub goes_on : k.ended ≡ false
  pub is_open : k.session.ended ≡ false
  pub no_reply : k.reply ≡ None
  pub no_line : k.line.items ≡ []

-- the status of what could not be opened
abbrev pub unopened : Bounds → ℕ
unopened b = if nat_le 1 b.numbers && nat_le b.numbers 4294967295 && nat_le 1 b.line then out_of_memory else bad_limits

abbrev pub OpensIn : Bounds → Option HandleState → Option HandleState → ℕ → Type 0
OpensIn b (Some old) new status = (new ≡ Some old) × (status ≡ already_open)
OpensIn b None None status = status ≡ unopened b
OpensIn b None (Some new) status = IsNew b new × (status ≡ 0)

abbrev pub Opens : Handle → Handle → Bounds → ℕ → Type 0
Opens old new b status = OpensIn b old.slot.kept new.slot.kept status

-- nothing is kept, whatever there was
pub record Closes (old new : Handle) (status : ℕ) : Type 0 where
  pub empty : new.slot.kept ≡ None
  pub status_is : status ≡ (if is_some old.slot.kept then 0 else closed_status)
