-- What is told of a session's world with no command: the session stays, and so does its last answer.
use Rattle.std.specs.Prelude.{◌≡◌, ℕ, Bool, true, false, Option, Some, None}
use Rattle.dom_model.specs.Worlds.World.{World}
use Rattle.dom_session.specs.declared.in_use.Counts as found
use Rattle.dom_session.specs.InUse.{in_use_of, in_use_in}
use Rattle.dom_session.specs.Sessions.{SessionView, StandsFor, held_world}
use Rattle.dom_c.specs.Statuses.{has_ended, closed_status}
use Rattle.dom_c.specs.declared.handle_state.HandleState.{HandleState}
use Rattle.dom_c.specs.declared.handle.Handle.{Handle}
use Rattle.dom_c.specs.declared.counts.Counts.{Counts}

abbrev pub counts_out : found.Counts → Counts
counts_out u = record {
  nodes = u.nodes;
  ranges = u.ranges;
  static_ranges = u.static_ranges;
  iterators = u.iterators;
  walkers = u.walkers;
  observers = u.observers;
  registrations = u.registrations;
}

-- how many objects a world has, as C reads it
abbrev pub in_use_out : World → Counts
in_use_out w = counts_out (in_use_of w)

-- the same of what a session holds, also once it has ended
abbrev pub in_use_held : SessionView → Counts
in_use_held s = counts_out (in_use_in s.world)

-- how many nodes a world has ever made
abbrev pub made_out : World → ℕ
made_out w = w.made

-- the same of what a session holds, also once it has ended
abbrev pub made_held : SessionView → ℕ
made_held s = (held_world s).made

-- what the session's world says is written, and nothing is refused
pub record IsWorldRead {A : Type 0} (tell : World → A) (kept : HandleState) (after : A) (status : ℕ) : Type 0 where
  pub status_is : status ≡ 0
  pub written_is : (w : World) → StandsFor kept.session w → after ≡ tell w

-- the session goes on; or it has ended, and what it holds is written
abbrev pub IsWorldReadOrEnded : {A : Type 0} → Bool → (World → A) → (SessionView → A) → HandleState → A → ℕ → Type 0
IsWorldReadOrEnded true tell held kept after status = (status ≡ has_ended) × (after ≡ held kept.session)
IsWorldReadOrEnded false tell held kept after status = IsWorldRead tell kept after status

-- a closed handle says so
abbrev pub ReadsWorldKept : {A : Type 0} → (World → A) → (SessionView → A) → Option HandleState → A → A → ℕ → Type 0
ReadsWorldKept tell held None before after status = (status ≡ closed_status) × (after ≡ before)
ReadsWorldKept tell held (Some kept) before after status = IsWorldReadOrEnded kept.ended tell held kept after status

-- what a call that tells of a world writes, and its status
abbrev pub ReadsWorld : {A : Type 0} → Handle → (World → A) → (SessionView → A) → A → A → ℕ → Type 0
ReadsWorld h tell held before after status = ReadsWorldKept tell held h.slot.kept before after status
