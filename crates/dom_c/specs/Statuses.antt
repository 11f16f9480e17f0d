-- The statuses of calls: the standard's codes for its exceptions (Web IDL, "DOMException"), and ours from 32 on.
use Rattle.std.specs.Prelude.{ℕ, Bool, true, false}
use Rattle.dom_model.specs.declared.DomError.{DomError}
use Rattle.dom_model.specs.declared.DomError.TheVariants.{IndexSizeError, HierarchyRequestError, WrongDocumentError, InvalidCharacterError, NotFoundError, NotSupportedError, InvalidStateError, InvalidNodeTypeError, TypeError}
use Rattle.dom_model.specs.declared.OwnError.{OwnError}
use Rattle.dom_model.specs.declared.OwnError.TheVariants.{LineTooLong, BadJson, BadCommand, BadArguments, NoSuchObject, Limit, InUse}
use Rattle.dom_model.specs.Commands.Reply.{Reply, Done, Dom, Own}

abbrev pub status_of_dom : DomError → ℕ
status_of_dom IndexSizeError = 1
status_of_dom HierarchyRequestError = 3
status_of_dom WrongDocumentError = 4
status_of_dom InvalidCharacterError = 5
status_of_dom NotFoundError = 8
status_of_dom NotSupportedError = 9
status_of_dom InvalidStateError = 11
status_of_dom InvalidNodeTypeError = 24
-- the standard has no code for it
status_of_dom TypeError = 32

abbrev pub status_of_own : OwnError → ℕ
status_of_own NoSuchObject = 33
status_of_own Limit = 34
status_of_own InUse = 35
status_of_own LineTooLong = 36
status_of_own BadJson = 37
status_of_own BadCommand = 38
status_of_own BadArguments = 39

-- the status of a reply
abbrev pub status_of : Reply → ℕ
status_of (Done a) = 0
status_of (Dom e) = status_of_dom e
status_of (Own e) = status_of_own e

abbrev pub out_of_memory : ℕ
out_of_memory = 48

abbrev pub closed_status : ℕ
closed_status = 49

abbrev pub already_open : ℕ
already_open = 50

abbrev pub bad_limits : ℕ
bad_limits = 51

-- arguments that make no command
abbrev pub not_utf8 : ℕ
not_utf8 = 52

abbrev pub bad_lengths : ℕ
bad_lengths = 53

abbrev pub bad_choice : ℕ
bad_choice = 54

-- the last answer, or the node, has no such part
abbrev pub not_there : ℕ
not_there = 55

-- the session has ended, and the answer is of what it holds
abbrev pub has_ended : ℕ
has_ended = 56

-- the status of what was found
abbrev pub found_at : Bool → ℕ
found_at true = has_ended
found_at false = 0

-- the status of a reply of a session that has ended
abbrev pub status_at_end : Reply → ℕ
status_at_end (Done a) = has_ended
status_at_end (Dom e) = status_of_dom e
status_at_end (Own e) = status_of_own e
