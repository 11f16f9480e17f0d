use Rattle.std.proofs.Common.{◌≡◌, false, ap, Err, tests, rules}
use Rattle.dom_session.specs.declared.session.OutOfMemory.{OutOfMemory}
use Rattle.dom_c.proofs.Spared.{takes_line-spared}
use Rattle.dom_c.proofs.handle_state.HandleState.answer_line.Goals as goal

pub returns-then-self-clause-steps : goal.returns-then-self-clause-steps
returns-then-self-clause-steps c = search (tests, rules)

pub returns-then-self-clause-printed : goal.returns-then-self-clause-printed
returns-then-self-clause-printed c = search (tests, rules)

pub returns-in-Err-Refused-clause-steps : goal.returns-in-Err-Refused-clause-steps
returns-in-Err-Refused-clause-steps c =
    let on : c.args.self.now.ended ≡ false = cc in
    takes_line-spared c.args.line.now c.args.self.now c.reply_to.new.session on
    (c.in-Err-Refused.ensures.same (ap (λ (e : OutOfMemory). Err e) c.in-Err-Refused.field-0-is)) c.reply_to.ensures.bounds

pub returns-clause-steps : goal.returns-clause-steps
returns-clause-steps c = search (tests, rules)
