use Rattle.std.proofs.Common.{subst, sym}
use Rattle.dom_serve.specs.ByLine.{IsLine, PassesLine, CutsLine}
use Rattle.dom_serve.proofs.IsCalledLemmas.{IsCalled-one, IsCalled-failed}
use Rattle.dom_serve.proofs.replies.answer.Goals as goal

pub returns-in-Ok-write_line-clause-by_line : goal.returns-in-Ok-write_line-clause-by_line
returns-in-Ok-write_line-clause-by_line g c =
    IsCalled-one (PassesLine g.W.Sink.writing) (CutsLine g.W.Sink.writing) c.args.writer.now c.write_line.new.writer
    (c.deref.result.now, subst IsLine (sym c.deref.ensures.value) c.in-Ok.ensures.line, c.in-Ok-write_line.ensures.written, c.in-Ok-write_line.ensures.passed)

pub returns-in-Ok-clause-by_line : goal.returns-in-Ok-clause-by_line
returns-in-Ok-clause-by_line g c =
    IsCalled-failed (PassesLine g.W.Sink.writing) (CutsLine g.W.Sink.writing) c.args.writer.now c.write_line.new.writer
    (c.deref.result.now, subst IsLine (sym c.deref.ensures.value) c.in-Ok.ensures.line, c.in-Err-write_line.ensures.written)
