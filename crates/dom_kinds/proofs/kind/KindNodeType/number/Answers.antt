use Rattle.std.proofs.Common.{tests, rules}
use Rattle.dom_kinds.proofs.kind.KindNodeType.number.Goals as goal

pub returns-in-Element : goal.returns-in-Element
returns-in-Element c = search (tests, rules)

pub returns-in-Text : goal.returns-in-Text
returns-in-Text c = search (tests, rules)

pub returns-in-ProcessingInstruction : goal.returns-in-ProcessingInstruction
returns-in-ProcessingInstruction c = search (tests, rules)

pub returns-in-Comment : goal.returns-in-Comment
returns-in-Comment c = search (tests, rules)

pub returns-in-Document : goal.returns-in-Document
returns-in-Document c = search (tests, rules)

pub returns-in-DocumentType : goal.returns-in-DocumentType
returns-in-DocumentType c = search (tests, rules)

pub returns-in-DocumentFragment : goal.returns-in-DocumentFragment
returns-in-DocumentFragment c = search (tests, rules)
