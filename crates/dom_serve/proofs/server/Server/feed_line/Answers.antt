use Rattle.std.proofs.Common.{◌++◌}
use Rattle.std.proofs.lemmas.Result.{err_from_is_err_and}
use Rattle.dom_serve.specs.{ByLine.PassesLine, ByLine.CutsLine, Output.is_write_fault}
use Rattle.dom_serve.proofs.{IsCalledLemmas.IsCalled-more, FedLemmas.Breaks-early, FedLemmas.Fed-more}
use Rattle.dom_serve.proofs.server.Server.feed_line.Goals as goal

pub returns-in_err-keep-clause-fed : goal.returns-in_err-keep-clause-fed
returns-in_err-keep-clause-fed g c = λ b bytes h.
    let p = err_from_is_err_and c.from_residual.result c.from_residual.ensures.1 in
    rw (p.1, p.2) (Breaks-early b bytes _ _ _ _ _ (c.in_err-keep.ensures.fed b bytes h))

pub returns-clause-fed : goal.returns-clause-fed
returns-clause-fed g c = λ b bytes h.
    let p = c.in_ok-keep.ensures.fed b bytes h in
    Fed-more b bytes (bytes ++ c.args.rest.now) _ c.end_line.new.self _ _ _ c.end_line.result p.1 (c.end_line.ensures.fed b _ p.0)

pub returns-clause-writer : goal.returns-clause-writer
returns-clause-writer g c =
    IsCalled-more g.W.Sink.writing.works g.W.Sink.writing.fails (is_write_fault c.end_line.result) c.args.writer.now c.keep.new.writer c.end_line.new.writer c.in_ok-keep.ensures.writer c.end_line.ensures.writer

pub returns-clause-by_line : goal.returns-clause-by_line
returns-clause-by_line g c =
    IsCalled-more (PassesLine g.W.Sink.writing) (CutsLine g.W.Sink.writing) (is_write_fault c.end_line.result) c.args.writer.now c.keep.new.writer c.end_line.new.writer c.in_ok-keep.ensures.by_line c.end_line.ensures.by_line
