use Rattle.std.proofs.Common.{tests, rules}
use Rattle.dom_traverse.proofs.judge.Judge.judge.Goals as goal

pub returns-then-shows : goal.returns-then-shows
returns-then-shows g c = search (tests, rules)

pub returns-else-shows : goal.returns-else-shows
returns-else-shows g c = search (tests, rules)
