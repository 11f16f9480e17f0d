-- What is read of a node with no command: the session stays, and so does its last answer.
use Rattle.std.specs.Prelude.{◌≡◌, ℕ, Bool, true, false, List, length, Option, Some, None, Result, Ok, Err}
use Rattle.dom_model.specs.declared.OwnError.{OwnError}
use Rattle.dom_model.specs.Forests.Kinds.{number_of_kind}
use Rattle.dom_model.specs.Forests.Forest.{Forest, children_of}
use Rattle.dom_model.specs.Worlds.World.{Content, World}
use Rattle.dom_session.specs.declared.neighbours.Neighbours.{Neighbours}
use Rattle.dom_session.specs.Neighbours.{links_in, first_child_in, last_child_in, child_in, child_count_in, laid_over}
use Rattle.dom_session.specs.Sessions.{StandsFor, held_world}
use Rattle.dom_c.specs.Statuses.{status_of_own, has_ended, closed_status}
use Rattle.dom_c.specs.WrittenValues.{number_or_null}
use Rattle.dom_c.specs.declared.handle_state.HandleState.{HandleState}
use Rattle.dom_c.specs.declared.handle.Handle.{Handle}
use Rattle.dom_c.specs.declared.neighbours.NodeLinks.{NodeLinks}

-- what is told of what was read, or why nothing was
abbrev pub out_as : {A B : Type 0} → (A → B) → Result A OwnError → Result B OwnError
out_as tell (Ok a) = Ok (tell a)
out_as tell (Err e) = Err e

abbrev pub node_links : Neighbours → NodeLinks
node_links l = record {
  kind = number_of_kind l.kind;
  document = l.document;
  parent = number_or_null l.parent;
  previous = number_or_null l.previous;
  next = number_or_null l.next;
  first_child = number_or_null l.first_child;
  last_child = number_or_null l.last_child;
  children = l.children;
  length = l.length;
}

abbrev pub links_out : ℕ → Forest Content → Result NodeLinks OwnError
links_out n f = out_as node_links (links_in f n)

abbrev pub first_child_out : ℕ → Forest Content → Result ℕ OwnError
first_child_out n f = out_as number_or_null (first_child_in f n)

abbrev pub last_child_out : ℕ → Forest Content → Result ℕ OwnError
last_child_out n f = out_as number_or_null (last_child_in f n)

abbrev pub child_out : ℕ → ℕ → Forest Content → Result ℕ OwnError
child_out n index f = out_as number_or_null (child_in index f n)

abbrev pub child_count_out : ℕ → Forest Content → Result ℕ OwnError
child_count_out n f = child_count_in f n

-- the numbers of the children over the front of what was there
abbrev pub children_over : ℕ → List ℕ → Forest Content → Result (List ℕ) OwnError
children_over n before f = out_as (λ _. laid_over (children_of f n) before) (child_count_in f n)

-- the status of what was read, and what is written of it
abbrev pub status_of_read : {A : Type 0} → Result A OwnError → ℕ
status_of_read (Ok a) = 0
status_of_read (Err e) = status_of_own e

abbrev pub written : {A : Type 0} → Result A OwnError → A → A
written (Ok a) before = a
written (Err e) before = before

-- what the session's world says is written; a refusal leaves what was there
pub record IsNodeRead {A : Type 0} (read : Forest Content → Result A OwnError) (kept : HandleState) (before after : A) (status : ℕ) : Type 0 where
  pub status_is : (w : World) → StandsFor kept.session w → status ≡ status_of_read (read w.forest)
  pub written_is : (w : World) → StandsFor kept.session w → after ≡ written (read w.forest) before

-- the status of what was read of a session that has ended
abbrev pub status_of_read_at_end : {A : Type 0} → Result A OwnError → ℕ
status_of_read_at_end (Ok a) = has_ended
status_of_read_at_end (Err e) = status_of_own e

-- the same of a session that has ended, of the world that it holds
pub record IsReadAtEnd {A : Type 0} (read : Forest Content → Result A OwnError) (kept : HandleState) (before after : A) (status : ℕ) : Type 0 where
  pub status_is : status ≡ status_of_read_at_end (read (held_world kept.session).forest)
  pub written_is : after ≡ written (read (held_world kept.session).forest) before

-- the session goes on, or has ended
abbrev pub IsReadOrEnded : {A : Type 0} → Bool → (Forest Content → Result A OwnError) → HandleState → A → A → ℕ → Type 0
IsReadOrEnded true read kept before after status = IsReadAtEnd read kept before after status
IsReadOrEnded false read kept before after status = IsNodeRead read kept before after status

-- a closed handle says so
abbrev pub ReadsKept : {A : Type 0} → (Forest Content → Result A OwnError) → Option HandleState → A → A → ℕ → Type 0
ReadsKept read None before after status = (status ≡ closed_status) × (after ≡ before)
ReadsKept read (Some kept) before after status = IsReadOrEnded kept.ended read kept before after status

-- what a call that reads a forest writes, and its status
abbrev pub ReadsForest : {A : Type 0} → Handle → (Forest Content → Result A OwnError) → A → A → ℕ → Type 0
ReadsForest h read before after status = ReadsKept read h.slot.kept before after status
