use Rattle.std.proofs.Common.{◌≡◌, true, false, ap, Ok, Err}
use Rattle.dom_session.specs.declared.session.OutOfMemory.{OutOfMemory}
use Rattle.dom_session.proofs.GoingOn.{either-way}
use Rattle.dom_session.specs.Sessions.{command_view, goes_on, is_unchanged_in}
use Rattle.dom_c.proofs.Spared.{not_ended, had_ended, steps-after_end, steps-taken, steps-spared, steps-ended}
use Rattle.dom_c.proofs.handle_state.HandleState.apply.Goals as goal

pub returns-then-self : goal.returns-then-self
returns-then-self c =
    let ended : c.args.self.now.ended ≡ true = cc in
    steps-after_end (Ok (command_view c.args.command)) c.args.self.now ended

pub returns-in-Ok : goal.returns-in-Ok
returns-in-Ok c =
    let on : c.args.self.now.ended ≡ false = cc in
    rw (c.keep.ensures.kept, c.keep.ensures.status)
    (steps-taken (command_view c.args.command) c.args.self.now c.apply.new.self c.in-Ok.reply on c.in-Ok.ensures.answers c.in-Ok.ensures.refused c.in-Ok.ensures.open c.apply.ensures.bounds)

pub returns-in-Err-Refused : goal.returns-in-Err-Refused
returns-in-Err-Refused c =
    let on : c.args.self.now.ended ≡ false = cc in
    steps-spared (Ok (command_view c.args.command)) c.args.self.now c.apply.new.self on
    (c.in-Err-Refused.ensures.same (ap (λ (e : OutOfMemory). Err e) c.in-Err-Refused.field-0-is)) c.apply.ensures.bounds

pub returns-in-Err-Ended : goal.returns-in-Err-Ended
returns-in-Err-Ended c =
    let old = c.args.self.now.session in
    let command = command_view c.args.command in
    let ended = c.in-Err-Ended.ensures.ended (ap (λ (e : OutOfMemory). Err e) c.in-Err-Ended.field-0-is) in
    rw (c.end.ensures.kept, c.end.ensures.status)
    (steps-ended (Ok (command_view c.args.command)) c.args.self.now c.apply.new.self c.apply.ensures.bounds
    (λ going is_open. absurd (either-way (goes_on command) (is_unchanged_in old.world command) going
    (λ goes. not_ended old c.apply.new.self (c.in-Err-Ended.ensures.all_or_nothing goes) is_open ended)
    (λ unchanged. had_ended old c.apply.new.self (c.in-Err-Ended.ensures.edits unchanged) is_open ended))))
