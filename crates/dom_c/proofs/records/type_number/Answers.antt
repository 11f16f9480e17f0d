use Rattle.std.proofs.Common.{tests, rules}
use Rattle.dom_c.proofs.records.type_number.Goals as goal

pub returns-in-Attributes : goal.returns-in-Attributes
returns-in-Attributes c = search (tests, rules)

pub returns-in-CharacterData : goal.returns-in-CharacterData
returns-in-CharacterData c = search (tests, rules)

pub returns-in-ChildList : goal.returns-in-ChildList
returns-in-ChildList c = search (tests, rules)
