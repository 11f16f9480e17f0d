use Rattle.std.proofs.Common.{◌≡◌, true, false, ap, Ok, Err}
use Rattle.dom_commands.specs.{Views.editing_view, Brief.reply_of}
use Rattle.dom_session.specs.{declared.session.OutOfMemory.OutOfMemory}
use Rattle.dom_session.proofs.GoingOn.{ending-editing, either-way}
use Rattle.dom_session.specs.Sessions.{goes_on, is_unchanged_in}
use Rattle.dom_c.proofs.Spared.{had_ended, steps-after_end, steps-taken, steps-spared, steps-ended}
use Rattle.dom_c.proofs.handle_state.HandleState.edit.Goals as goal

pub returns-then-self : goal.returns-then-self
returns-then-self c =
    let ended : c.args.self.now.ended ≡ true = cc in
    steps-after_end (Ok (editing_view c.args.command)) c.args.self.now ended

pub returns-in-Ok : goal.returns-in-Ok
returns-in-Ok c =
    let on : c.args.self.now.ended ≡ false = cc in
    rw (c.note.ensures.kept, c.note.ensures.status)
    (steps-taken (editing_view c.args.command) c.args.self.now c.edit.new.self (reply_of c.in-Ok.reply) on c.in-Ok.ensures.answers c.in-Ok.ensures.refused c.in-Ok.ensures.open c.edit.ensures.bounds)

pub returns-in-Err-Refused : goal.returns-in-Err-Refused
returns-in-Err-Refused c =
    let on : c.args.self.now.ended ≡ false = cc in
    steps-spared (Ok (editing_view c.args.command)) c.args.self.now c.edit.new.self on
    (c.in-Err-Refused.ensures.same (ap (λ (e : OutOfMemory). Err e) c.in-Err-Refused.field-0-is)) c.edit.ensures.bounds

pub returns-in-Err-Ended : goal.returns-in-Err-Ended
returns-in-Err-Ended c =
    let old = c.args.self.now.session in
    let command = editing_view c.args.command in
    let ended = c.in-Err-Ended.ensures.ended (ap (λ (e : OutOfMemory). Err e) c.in-Err-Ended.field-0-is) in
    rw (c.end.ensures.kept, c.end.ensures.status)
    (steps-ended (Ok command) c.args.self.now c.edit.new.self c.edit.ensures.bounds
    (λ going is_open. absurd (either-way (goes_on command) (is_unchanged_in old.world command) going
    (λ goes. cc (goes, ending-editing c.args.command))
    (λ unchanged. had_ended old c.edit.new.self (c.in-Err-Ended.ensures.edits unchanged) is_open ended))))
