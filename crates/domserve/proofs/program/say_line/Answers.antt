use Rattle.domserve.proofs.SaysFaultLemmas.{line-cut, line-whole}
use Rattle.domserve.proofs.program.say_line.Goals as goal

pub returns-in-Err : goal.returns-in-Err
returns-in-Err g c =
    line-cut g.E.Sink.writing c.args.errors.now c.write_line.new.writer c.args.text.now c.in-Err.ensures.written c.in-Err.ensures.writer

pub returns : goal.returns
returns g c =
    line-whole g.E.Sink.writing c.args.errors.now c.write_line.new.writer c.write_line-2.new.writer c.args.text.now c.write_line-2.result
    c.in_default.ensures.written c.in_default.ensures.writer c.write_line-2.ensures.written c.write_line-2.ensures.writer c.write_line-2.ensures.passed
