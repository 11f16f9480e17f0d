use Rattle.std.proofs.Common.{◌≡◌, ℕ, true, false, Ok, ap, ◌∙◌}
use Rattle.dom_model.specs.Definitions.{Walk}
use Rattle.dom_c.specs.StepsInTurn.{count_after}
use Rattle.dom_c.proofs.StepsInTurnLemmas.{none-after_end, none-ended, steps-are-taken}
use Rattle.dom_c.proofs.handle_state.HandleState.walk_into.Goals as goal

pub returns-then-self : goal.returns-then-self
returns-then-self c =
    let ended : c.args.self.now.ended ≡ true = cc in
    none-after_end (Ok (Walk c.args.walker c.args.direction)) c.args.self.now c.args.nodes.now c.args.count.now ended

pub returns-in-Ok : goal.returns-in-Ok
returns-in-Ok c =
    let on : c.args.self.now.ended ≡ false = cc in
    rw (c.note_steps.ensures.kept, c.note_steps.ensures.status)
    (steps-are-taken (Walk c.args.walker c.args.direction) c.args.self.now c.walk_into.new.self c.args.nodes.now c.walk_into.new.into c.args.count.now c.in-Ok.made.count c.note_steps.new.count on c.in-Ok.ensures.open c.walk_into.ensures.bounds c.in-Ok.made.last
    (c.note_steps.ensures.count ∙ ap (λ (n : ℕ). count_after n c.in-Ok.made.count c.args.count.now) c.note_steps.ensures.status) c.in-Ok.ensures.answers c.in-Ok.ensures.refused)

pub returns-in-Err : goal.returns-in-Err
returns-in-Err c =
    rw (c.end.ensures.kept, c.end.ensures.status)
    (none-ended (Ok (Walk c.args.walker c.args.direction)) c.args.self.now c.walk_into.new.self c.args.nodes.now c.walk_into.new.into c.args.count.now c.in-Err.ensures.left c.in-Err.ensures.ended c.in-Err.ensures.unwritten)
