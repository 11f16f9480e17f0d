use Rattle.dom_serve.specs.ByLine.{PassesLine, CutsLine}
use Rattle.dom_serve.proofs.IsCalledLemmas.{IsCalled-one, IsCalled-failed}
use Rattle.dom_serve.proofs.line_output.write_out_of_memory.Goals as goal

pub returns-in-Ok-clause-by_line : goal.returns-in-Ok-clause-by_line
returns-in-Ok-clause-by_line g c =
    IsCalled-one (PassesLine g.W.Sink.writing) (CutsLine g.W.Sink.writing) c.args.writer.now c.write_line.new.writer
    (c.out_of_memory_text.result.now, c.out_of_memory_text.ensures.line, c.in-Ok.ensures.written, c.in-Ok.ensures.passed)

pub returns-in-Err-clause-by_line : goal.returns-in-Err-clause-by_line
returns-in-Err-clause-by_line g c =
    IsCalled-failed (PassesLine g.W.Sink.writing) (CutsLine g.W.Sink.writing) c.args.writer.now c.write_line.new.writer
    (c.out_of_memory_text.result.now, c.out_of_memory_text.ensures.line, c.in-Err.ensures.written)
