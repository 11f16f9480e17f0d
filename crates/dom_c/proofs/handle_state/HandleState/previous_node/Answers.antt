use Rattle.std.proofs.Common.{◌≡◌, true, false, Ok}
use Rattle.dom_model.specs.Definitions.{PreviousNode}
use Rattle.dom_commands.specs.Brief.{reply_of}
use Rattle.dom_c.proofs.Spared.{had_ended, steps-after_end, steps-taken, steps-ended}
use Rattle.dom_c.proofs.handle_state.HandleState.previous_node.Goals as goal

pub returns-then-self : goal.returns-then-self
returns-then-self c =
    let ended : c.args.self.now.ended ≡ true = cc in
    steps-after_end (Ok (PreviousNode c.args.iterator)) c.args.self.now ended

pub returns-in-Ok : goal.returns-in-Ok
returns-in-Ok c =
    let on : c.args.self.now.ended ≡ false = cc in
    rw (c.note.ensures.kept, c.note.ensures.status)
    (steps-taken (PreviousNode c.args.iterator) c.args.self.now c.previous_node.new.self (reply_of c.in-Ok.reply) on c.in-Ok.ensures.answers c.in-Ok.ensures.refused c.in-Ok.ensures.open c.previous_node.ensures.bounds)

pub returns-in-Err : goal.returns-in-Err
returns-in-Err c =
    rw (c.end.ensures.kept, c.end.ensures.status)
    (steps-ended (Ok (PreviousNode c.args.iterator)) c.args.self.now c.previous_node.new.self c.previous_node.ensures.bounds
    (λ _ is_open. absurd (had_ended c.args.self.now.session c.previous_node.new.self c.in-Err.ensures.left is_open c.in-Err.ensures.ended)))
