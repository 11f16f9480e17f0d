use Rattle.std.proofs.Common.{tests, rules}
use Rattle.dom_tree.proofs.tree.Tree.length.Goals as goal

pub returns-in-DocumentType : goal.returns-in-DocumentType
returns-in-DocumentType g c = search (tests, rules)

pub returns-in-Text : goal.returns-in-Text
returns-in-Text g c = search (tests, rules)

pub returns-in-Element : goal.returns-in-Element
returns-in-Element g c = search (tests, rules)
