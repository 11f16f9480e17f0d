use Rattle.std.proofs.Common.{tests, rules}
use Rattle.dom_serve.proofs.ByLineLemmas.{line-if}
use Rattle.dom_serve.proofs.replies.reply_text.Goals as goal

pub returns-in-Ok-clause-prints : goal.returns-in-Ok-clause-prints
returns-in-Ok-clause-prints c = search (tests, rules)

pub returns-in-Ok-clause-bounds : goal.returns-in-Ok-clause-bounds
returns-in-Ok-clause-bounds c = search (tests, rules)

pub returns-in-Err-clause-prints : goal.returns-in-Err-clause-prints
returns-in-Err-clause-prints c = search (tests, rules)

pub returns-in-Err-clause-bounds : goal.returns-in-Err-clause-bounds
returns-in-Err-clause-bounds c = search (tests, rules)

pub returns-in-Ok-clause-line : goal.returns-in-Ok-clause-line
returns-in-Ok-clause-line c = line-if (λ x. x.items) c.write_reply.result _ c.write_reply.ensures
