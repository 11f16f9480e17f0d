-- What a node holds, lent with no command: the session stays, and so does its last answer.
use Rattle.std.specs.Prelude.{◌≡◌, ℕ, Bool, true, false, List, Option, Some, None, Result, Ok, Err}
use Rattle.dom_model.specs.declared.OwnError.{OwnError}
use Rattle.dom_model.specs.Forests.Attributes.{Attribute}
use Rattle.dom_model.specs.Forests.Forest.{Forest}
use Rattle.dom_model.specs.Worlds.World.{Content, World}
use Rattle.dom_session.specs.BorrowedData.{lent_as, lent_whole, label_of_node, data_in, attribute_of_node}
use Rattle.dom_session.specs.Sessions.{StandsFor, held_world}
use Rattle.dom_c.specs.Statuses.{status_of_own, not_there, has_ended, closed_status}
use Rattle.dom_c.specs.ReplyItems.{status_found, or_before}
use Rattle.dom_c.specs.Rows.{name_part}
use Rattle.dom_c.specs.declared.handle_state.HandleState.{HandleState}
use Rattle.dom_c.specs.declared.handle.Handle.{Handle}

-- a part of a node's name
abbrev pub name_out : ℕ → ℕ → Forest Content → Result (Option (List ℕ)) OwnError
name_out n part f = lent_whole (name_part part) (label_of_node f n)

abbrev pub data_out : ℕ → Forest Content → Result (Option (List ℕ)) OwnError
data_out n f = data_in f n

abbrev pub attribute_name_out : ℕ → ℕ → Forest Content → Result (Option (List ℕ)) OwnError
attribute_name_out n index f = lent_as (λ (a : Attribute). a.name) (attribute_of_node index f n)

abbrev pub attribute_value_out : ℕ → ℕ → Forest Content → Result (Option (List ℕ)) OwnError
attribute_value_out n index f = lent_as (λ (a : Attribute). a.value) (attribute_of_node index f n)

-- the status of what was looked for: it is lent, or not there, or there is no such node
abbrev pub status_of_lent : {A : Type 0} → Result (Option A) OwnError → ℕ
status_of_lent (Ok lent) = status_found lent
status_of_lent (Err e) = status_of_own e

abbrev pub lent_or_before : {A : Type 0} → Result (Option A) OwnError → A → A
lent_or_before (Ok lent) before = or_before lent before
lent_or_before (Err e) before = before

-- what the session's world has is lent; where there is none, what was there stays
pub record IsLent {A : Type 0} (find : Forest Content → Result (Option A) OwnError) (kept : HandleState) (before after : A) (status : ℕ) : Type 0 where
  pub status_is : (w : World) → StandsFor kept.session w → status ≡ status_of_lent (find w.forest)
  pub lent_is : (w : World) → StandsFor kept.session w → after ≡ lent_or_before (find w.forest) before

-- the status of what was looked for in a session that has ended
abbrev pub status_found_at_end : {A : Type 0} → Option A → ℕ
status_found_at_end None = not_there
status_found_at_end (Some a) = has_ended

abbrev pub status_of_lent_at_end : {A : Type 0} → Result (Option A) OwnError → ℕ
status_of_lent_at_end (Ok lent) = status_found_at_end lent
status_of_lent_at_end (Err e) = status_of_own e

-- the same of a session that has ended, of the world that it holds
pub record IsLentAtEnd {A : Type 0} (find : Forest Content → Result (Option A) OwnError) (kept : HandleState) (before after : A) (status : ℕ) : Type 0 where
  pub status_is : status ≡ status_of_lent_at_end (find (held_world kept.session).forest)
  pub lent_is : after ≡ lent_or_before (find (held_world kept.session).forest) before

-- the session goes on, or has ended
abbrev pub IsLentOrEnded : {A : Type 0} → Bool → (Forest Content → Result (Option A) OwnError) → HandleState → A → A → ℕ → Type 0
IsLentOrEnded true find kept before after status = IsLentAtEnd find kept before after status
IsLentOrEnded false find kept before after status = IsLent find kept before after status

-- a closed handle says so
abbrev pub LendsKept : {A : Type 0} → (Forest Content → Result (Option A) OwnError) → Option HandleState → A → A → ℕ → Type 0
LendsKept find None before after status = (status ≡ closed_status) × (after ≡ before)
LendsKept find (Some kept) before after status = IsLentOrEnded kept.ended find kept before after status

-- what a call that lends of a forest lends, and its status
abbrev pub LendsForest : {A : Type 0} → Handle → (Forest Content → Result (Option A) OwnError) → A → A → ℕ → Type 0
LendsForest h find before after status = LendsKept find h.slot.kept before after status
