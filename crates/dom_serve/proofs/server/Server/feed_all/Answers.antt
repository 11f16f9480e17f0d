use Rattle.std.proofs.Common.{◌∷◌, [], ◌++◌, false, arith, length-append, refl}
use Rattle.std.proofs.lemmas.Result.{err_from_is_err_and}
use Rattle.dom_serve.specs.{ByLine.PassesLine, ByLine.CutsLine, Output.is_write, Output.is_write_fault}
use Rattle.dom_serve.proofs.{IsCalledLemmas.IsCalled-more, IsCalledLemmas.HasAnswered-more, FedLemmas.line_ahead, FedLemmas.Fed-line, FedLemmas.Breaks-line, FedLemmas.Fed-rest}
use Rattle.dom_serve.proofs.server.Server.feed_all.Goals as goal

pub loop-line-preserved : goal.loop-line-preserved
loop-line-preserved g c = record {
  passed = HasAnswered-more g.W.Sink.writing c.args.writer.now c.loop-line.writer c.feed_line.new.writer c.args.self.now.lines c.loop-line.self.lines c.feed_line.new.self.lines
      c.loop-line.invariant.passed (c.in_ok-feed_line.ensures.passed refl);
  by_line = IsCalled-more (PassesLine g.W.Sink.writing) (CutsLine g.W.Sink.writing) false c.args.writer.now c.loop-line.writer c.feed_line.new.writer c.loop-line.invariant.by_line c.in_ok-feed_line.ensures.by_line;
  writer = IsCalled-more g.W.Sink.writing.works g.W.Sink.writing.fails false c.args.writer.now c.loop-line.writer c.feed_line.new.writer c.loop-line.invariant.writer c.in_ok-feed_line.ensures.writer;
  front = c.loop-line.invariant.front ++ c.in-Some.line.now ++ 10 ∷ [];
  whole = line_ahead _ _ _ _ _ c.loop-line.invariant.whole c.in-Some.ensures.1;
  lines = simp length-append (omega (arith, c.in_ok-feed_line.ensures.lines));
  so_far = λ b bytes h.
      let p = c.loop-line.invariant.so_far b bytes h in
      Fed-line b bytes c.loop-line.invariant.front c.in-Some.line.now c.feed_line.new.self _ _ _ p.1 (c.in_ok-feed_line.ensures.fed b _ p.0);
}

pub returns-in_err-feed_line-clause-fed : goal.returns-in_err-feed_line-clause-fed
returns-in_err-feed_line-clause-fed g c = λ b bytes h.
    let p = err_from_is_err_and c.from_residual.result c.from_residual.ensures.1 in
    let q = c.loop-line.invariant.so_far b bytes h in
    rw (p.1, p.2) (Breaks-line b bytes c.args.piece.now c.loop-line.invariant.front c.loop-line.rest.now c.in-Some.line.now c.in-Some.after.now _ _ _ _ c.loop-line.invariant.whole
    c.in-Some.ensures.1 q.1 (c.in_err-feed_line.ensures.fed b _ q.0))

pub returns-in_err-feed_line-clause-writer : goal.returns-in_err-feed_line-clause-writer
returns-in_err-feed_line-clause-writer g c =
    let p = err_from_is_err_and c.from_residual.result c.from_residual.ensures.1 in
    rw (p.1, p.2) (IsCalled-more g.W.Sink.writing.works g.W.Sink.writing.fails (is_write c.in_err-feed_line.field-0.0) c.args.writer.now c.loop-line.writer c.feed_line.new.writer c.loop-line.invariant.writer c.in_err-feed_line.ensures.writer)

pub returns-in_err-feed_line-clause-by_line : goal.returns-in_err-feed_line-clause-by_line
returns-in_err-feed_line-clause-by_line g c =
    let p = err_from_is_err_and c.from_residual.result c.from_residual.ensures.1 in
    rw (p.1, p.2) (IsCalled-more (PassesLine g.W.Sink.writing) (CutsLine g.W.Sink.writing) (is_write c.in_err-feed_line.field-0.0) c.args.writer.now c.loop-line.writer c.feed_line.new.writer c.loop-line.invariant.by_line c.in_err-feed_line.ensures.by_line)

pub returns-clause-fed : goal.returns-clause-fed
returns-clause-fed g c = λ b bytes h.
    let p = c.loop-line.invariant.so_far b bytes h in
    Fed-rest b bytes c.args.piece.now c.loop-line.invariant.front c.loop-line.rest.now c.keep.new.self _ _ _ c.keep.result c.loop-line.invariant.whole p.1 (c.keep.ensures.fed b _ p.0)

pub returns-clause-writer : goal.returns-clause-writer
returns-clause-writer g c =
    IsCalled-more g.W.Sink.writing.works g.W.Sink.writing.fails (is_write_fault c.keep.result) c.args.writer.now c.loop-line.writer c.keep.new.writer c.loop-line.invariant.writer c.keep.ensures.writer

pub returns-clause-by_line : goal.returns-clause-by_line
returns-clause-by_line g c =
    IsCalled-more (PassesLine g.W.Sink.writing) (CutsLine g.W.Sink.writing) (is_write_fault c.keep.result) c.args.writer.now c.loop-line.writer c.keep.new.writer c.loop-line.invariant.by_line c.keep.ensures.by_line
