use Rattle.std.proofs.Common.{tests, rules}
use Rattle.dom_kinds.proofs.error.DomErrorException.name.Goals as goal

pub returns-in-IndexSizeError : goal.returns-in-IndexSizeError
returns-in-IndexSizeError c = search (tests, rules)

pub returns-in-HierarchyRequestError : goal.returns-in-HierarchyRequestError
returns-in-HierarchyRequestError c = search (tests, rules)

pub returns-in-WrongDocumentError : goal.returns-in-WrongDocumentError
returns-in-WrongDocumentError c = search (tests, rules)

pub returns-in-InvalidCharacterError : goal.returns-in-InvalidCharacterError
returns-in-InvalidCharacterError c = search (tests, rules)

pub returns-in-NotFoundError : goal.returns-in-NotFoundError
returns-in-NotFoundError c = search (tests, rules)

pub returns-in-NotSupportedError : goal.returns-in-NotSupportedError
returns-in-NotSupportedError c = search (tests, rules)

pub returns-in-InvalidStateError : goal.returns-in-InvalidStateError
returns-in-InvalidStateError c = search (tests, rules)

pub returns-in-InvalidNodeTypeError : goal.returns-in-InvalidNodeTypeError
returns-in-InvalidNodeTypeError c = search (tests, rules)

pub returns-in-TypeError : goal.returns-in-TypeError
returns-in-TypeError c = search (tests, rules)
