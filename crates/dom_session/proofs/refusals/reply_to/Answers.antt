use Rattle.std.proofs.Common.{tests, rules}
use Rattle.dom_session.proofs.refusals.reply_to.Goals as goal

pub returns-in-Dom : goal.returns-in-Dom
returns-in-Dom c = search (tests, rules)

pub returns-in-Memory : goal.returns-in-Memory
returns-in-Memory c = search (tests, rules)
