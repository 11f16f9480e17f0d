use Rattle.std.proofs.Common.{inr, subst}
use Rattle.domserve.specs.Messages.{SaysLine}
use Rattle.domserve.proofs.program.say_hint.Goals as goal

pub returns-then-is_terminal : goal.returns-then-is_terminal
returns-then-is_terminal g c =
    inr (c.if-is_terminal.true, subst (λ text. SaysLine g.E.Sink.writing text c.args.errors.now c.say_line.new.errors) c.as_bytes.ensures.value c.say_line.ensures)
