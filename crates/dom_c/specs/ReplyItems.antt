-- What is read of the last answer: its text, and its parts by their index.
use Rattle.std.specs.Prelude.{◌≡◌, ℕ, Bool, true, false, if◌then◌else◌, List, length, slice_get, Option, Some, None, option_map, option_and_then}
use Rattle.dom_model.specs.Commands.Reply.{Answer, Numbers, Units, MaybeUnits, Names, Rows, Records, Notified}
use Rattle.dom_session.specs.Neighbours.{laid_over}
use Rattle.dom_c.specs.Statuses.{out_of_memory, closed_status, not_there}
use Rattle.dom_c.specs.WrittenValues.{last_answer_of}
use Rattle.dom_c.specs.declared.handle_state.HandleState.{HandleState}
use Rattle.dom_c.specs.declared.handle.Handle.{Handle}

-- the part was found, or it is not there
abbrev pub status_found : {A : Type 0} → Option A → ℕ
status_found None = not_there
status_found (Some a) = 0

-- what is found in the last answer, and the status of looking for it
abbrev pub looked_up_of : {A : Type 0} → HandleState → (Answer → Option A) → Option A
looked_up_of k find = if k.ended then None else option_and_then find (last_answer_of k)

abbrev pub look_up_status_of : {A : Type 0} → HandleState → (Answer → Option A) → ℕ
look_up_status_of k find = if k.ended then out_of_memory else status_found (looked_up_of k find)

abbrev pub looked_up : {A : Type 0} → Handle → (Answer → Option A) → Option A
looked_up h find = option_and_then (λ k. looked_up_of k find) h.slot.kept

abbrev pub status_in : {A : Type 0} → Option HandleState → (Answer → Option A) → ℕ
status_in None find = closed_status
status_in (Some k) find = look_up_status_of k find

abbrev pub look_up_status : {A : Type 0} → Handle → (Answer → Option A) → ℕ
look_up_status h find = status_in h.slot.kept find

-- what is written where it was found
abbrev pub or_before : {A : Type 0} → Option A → A → A
or_before None before = before
or_before (Some a) before = a

abbrev pub reply_text : Answer → Option (List ℕ)
reply_text (Units text) = Some text
reply_text (MaybeUnits text) = text
reply_text _ = None

abbrev pub item_count : Answer → Option ℕ
item_count (Numbers ns) = Some (length ns)
item_count (Names ns) = Some (length ns)
item_count (Rows rs) = Some (length rs)
item_count (Records rs) = Some (length rs)
item_count (Notified ts) = Some (length ts)
item_count _ = None

abbrev pub listed_number : ℕ → Answer → Option ℕ
listed_number i (Numbers ns) = slice_get ns i
listed_number i _ = None

-- the numbers of an answer
abbrev pub numbers_in : Answer → Option (List ℕ)
numbers_in (Numbers ns) = Some ns
numbers_in _ = None

-- one list over the front of what was there, where there is one
abbrev pub laid_or_before : {A : Type 0} → Option (List A) → List A → List A
laid_or_before None before = before
laid_or_before (Some found) before = laid_over found before

abbrev pub name_at : ℕ → Answer → Option (List ℕ)
name_at i (Names ns) = slice_get ns i
name_at i _ = None

-- the line that was printed last, unless memory was wanting
abbrev pub line_of : HandleState → Option (List ℕ)
line_of k = if k.ended then None else Some k.line.items

abbrev pub line_lent : Handle → Option (List ℕ)
line_lent h = option_and_then line_of h.slot.kept

abbrev pub line_status_in : Option HandleState → ℕ
line_status_in None = closed_status
line_status_in (Some k) = if k.ended then out_of_memory else 0

abbrev pub line_status : Handle → ℕ
line_status h = line_status_in h.slot.kept
