-- The names and codes of refusals. Web IDL, "DOMException"; the code of TypeError, and the refusals of this profile, are ours.
use Rattle.std.specs.Prelude.{ℕ, List, codes}
use Rattle.dom_model.specs.declared.DomError.{DomError}
use Rattle.dom_model.specs.declared.DomError.TheVariants.{IndexSizeError, HierarchyRequestError, WrongDocumentError, InvalidCharacterError, NotFoundError, NotSupportedError, InvalidStateError, InvalidNodeTypeError, TypeError}
use Rattle.dom_model.specs.declared.OwnError.{OwnError}
use Rattle.dom_model.specs.declared.OwnError.TheVariants.{LineTooLong, BadJson, BadCommand, BadArguments, NoSuchObject, Limit, InUse}

-- name
abbrev pub name_of_error : DomError → List ℕ
name_of_error IndexSizeError = codes "IndexSizeError"
name_of_error HierarchyRequestError = codes "HierarchyRequestError"
name_of_error WrongDocumentError = codes "WrongDocumentError"
name_of_error InvalidCharacterError = codes "InvalidCharacterError"
name_of_error NotFoundError = codes "NotFoundError"
name_of_error NotSupportedError = codes "NotSupportedError"
name_of_error InvalidStateError = codes "InvalidStateError"
name_of_error InvalidNodeTypeError = codes "InvalidNodeTypeError"
name_of_error TypeError = codes "TypeError"

-- code; TypeError is no DOMException, and its 0 is ours
abbrev pub code_of_error : DomError → ℕ
code_of_error IndexSizeError = 1
code_of_error HierarchyRequestError = 3
code_of_error WrongDocumentError = 4
code_of_error InvalidCharacterError = 5
code_of_error NotFoundError = 8
code_of_error NotSupportedError = 9
code_of_error InvalidStateError = 11
code_of_error InvalidNodeTypeError = 24
code_of_error TypeError = 0

-- ours
abbrev pub name_of_own : OwnError → List ℕ
name_of_own LineTooLong = codes "line-too-long"
name_of_own BadJson = codes "bad-json"
name_of_own BadCommand = codes "bad-command"
name_of_own BadArguments = codes "bad-arguments"
name_of_own NoSuchObject = codes "no-such-object"
name_of_own Limit = codes "limit"
name_of_own InUse = codes "in-use"
