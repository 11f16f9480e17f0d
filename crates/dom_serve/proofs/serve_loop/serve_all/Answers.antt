use Rattle.std.proofs.Common.{◌≡◌, false, length, arith, refl, tests, rules}
use Rattle.dom_serve.specs.{ByLine.PassesLine, ByLine.CutsLine, Output.is_write, Output.is_write_fault}
use Rattle.dom_serve.proofs.{IsCalledLemmas.IsCalled-none, IsCalledLemmas.IsCalled-more, IsCalledLemmas.HasAnswered-none, IsCalledLemmas.HasAnswered-more, IsCalledLemmas.HasAnswered-passed, IsCalledLemmas.HasAnswered-asked, ServesPiecesLemmas.so_far-none, ServesPiecesLemmas.so_far-more, ServesPiecesLemmas.told-read, ServesPiecesLemmas.told-too_long, ServesPiecesLemmas.told-concluded, ServesPiecesLemmas.told-fed, ServesPiecesLemmas.some-read, ServesPiecesLemmas.most-read, ServesPiecesLemmas.lines-more}
use Rattle.dom_serve.proofs.serve_loop.serve_all.Goals as goal

pub loop-turn-init : goal.loop-turn-init
loop-turn-init g c = record {
  passed = HasAnswered-none g.W.Sink.writing c.args.writer.now 0 c.args.server.now.lines c.requires.lines;
  by_line = IsCalled-none (PassesLine g.W.Sink.writing) (CutsLine g.W.Sink.writing) c.args.writer.now;
  writer = IsCalled-none g.W.Sink.writing.works g.W.Sink.writing.fails c.args.writer.now;
  lines = omega arith;
  size = c.requires.size;
  so_far = λ b h. so_far-none g.R.Source.reading b _ _ _ h;
}

pub read_piece-requires : goal.read_piece-requires
read_piece-requires g c = record {
  passed = HasAnswered-asked g.W.Sink.writing c.args.writer.now c.loop-turn.writer c.loop-turn.server.lines c.loop-turn.invariant.passed;
}

pub returns-in-Ok-eq0-clause-told : goal.returns-in-Ok-eq0-clause-told
returns-in-Ok-eq0-clause-told g c = λ b h.
    let p = c.loop-turn.invariant.so_far b h in
    told-concluded g.R.Source.reading b c.args.turns c.loop-turn._turn _ _ _ c.loop-turn.server _ _ _ c.conclude.result c.in-Ok-eq0.field-0 c.read_piece.new.buffer p c.loop-turn-test.true
    c.in-Ok-eq0.field-0-test c.in-Ok-eq0.ensures.gives c.in-Ok-eq0.ensures.bytes.0 (c.conclude.ensures.concludes b _ p.stands)

pub returns-in-Ok-eq0-clause-passed : goal.returns-in-Ok-eq0-clause-passed
returns-in-Ok-eq0-clause-passed g c = λ e.
    HasAnswered-passed g.W.Sink.writing c.args.writer.now c.conclude.new.writer 0 c.conclude.new.server.lines
    (HasAnswered-more g.W.Sink.writing c.args.writer.now c.loop-turn.writer c.conclude.new.writer 0 c.loop-turn.server.lines c.conclude.new.server.lines
    c.loop-turn.invariant.passed (c.conclude.ensures.passed e))

pub returns-in-Ok-eq0-clause-writer : goal.returns-in-Ok-eq0-clause-writer
returns-in-Ok-eq0-clause-writer g c =
    IsCalled-more g.W.Sink.writing.works g.W.Sink.writing.fails (is_write_fault c.conclude.result) c.args.writer.now c.loop-turn.writer c.conclude.new.writer c.loop-turn.invariant.writer
    c.conclude.ensures.writer

pub returns-in-Ok-eq0-clause-by_line : goal.returns-in-Ok-eq0-clause-by_line
returns-in-Ok-eq0-clause-by_line g c =
    IsCalled-more (PassesLine g.W.Sink.writing) (CutsLine g.W.Sink.writing) (is_write_fault c.conclude.result) c.args.writer.now c.loop-turn.writer c.conclude.new.writer c.loop-turn.invariant.by_line
    c.conclude.ensures.by_line

pub returns-in-Err-feed_all-clause-told : goal.returns-in-Err-feed_all-clause-told
returns-in-Err-feed_all-clause-told g c = λ b h.
    let p = c.loop-turn.invariant.so_far b h in
    told-fed g.R.Source.reading b c.args.turns c.loop-turn._turn _ _ _ c.loop-turn.server _ _ _ _ c.in-Err-feed_all.fault p c.loop-turn-test.true
    (some-read _ _ c.in-Ok.ensures.count c.in-Ok.n-test.1) (most-read c.in-Ok.n c.read_piece.new.buffer (omega (arith, c.read_piece.auto.buffer, c.loop-turn.invariant.size)))
    c.in-Ok.ensures.gives c.in-Ok.ensures.bytes.0 (c.in-Err-feed_all.ensures.fed b _ p.stands)

pub returns-in-Err-feed_all-clause-passed : goal.returns-in-Err-feed_all-clause-passed
returns-in-Err-feed_all-clause-passed g c = λ e.
    HasAnswered-passed g.W.Sink.writing c.args.writer.now c.feed_all.new.writer 0 c.feed_all.new.self.lines
    (HasAnswered-more g.W.Sink.writing c.args.writer.now c.loop-turn.writer c.feed_all.new.writer 0 c.loop-turn.server.lines c.feed_all.new.self.lines
    c.loop-turn.invariant.passed (c.in-Err-feed_all.ensures.passed e))

pub returns-in-Err-feed_all-clause-writer : goal.returns-in-Err-feed_all-clause-writer
returns-in-Err-feed_all-clause-writer g c =
    IsCalled-more g.W.Sink.writing.works g.W.Sink.writing.fails (is_write c.in-Err-feed_all.fault) c.args.writer.now c.loop-turn.writer c.feed_all.new.writer c.loop-turn.invariant.writer
    c.in-Err-feed_all.ensures.writer

pub returns-in-Err-feed_all-clause-by_line : goal.returns-in-Err-feed_all-clause-by_line
returns-in-Err-feed_all-clause-by_line g c =
    IsCalled-more (PassesLine g.W.Sink.writing) (CutsLine g.W.Sink.writing) (is_write c.in-Err-feed_all.fault) c.args.writer.now c.loop-turn.writer c.feed_all.new.writer c.loop-turn.invariant.by_line
    c.in-Err-feed_all.ensures.by_line

pub returns-in-Err-clause-passed : goal.returns-in-Err-clause-passed
returns-in-Err-clause-passed g c = λ e.
    HasAnswered-passed g.W.Sink.writing c.args.writer.now c.loop-turn.writer 0 c.loop-turn.server.lines c.loop-turn.invariant.passed

pub returns-clause-passed : goal.returns-clause-passed
returns-clause-passed g c = λ e.
    HasAnswered-passed g.W.Sink.writing c.args.writer.now c.loop-turn.writer 0 c.loop-turn.server.lines c.loop-turn.invariant.passed

pub loop-turn-preserved : goal.loop-turn-preserved
loop-turn-preserved g c =
    let size : length c.read_piece.new.buffer ≡ 65536 = omega (arith, c.read_piece.auto.buffer, c.loop-turn.invariant.size) in
    record {
      passed = HasAnswered-more g.W.Sink.writing c.args.writer.now c.loop-turn.writer c.feed_all.new.writer 0 c.loop-turn.server.lines c.feed_all.new.self.lines
          c.loop-turn.invariant.passed (c.in_default.ensures.passed refl);
      by_line = IsCalled-more (PassesLine g.W.Sink.writing) (CutsLine g.W.Sink.writing) false c.args.writer.now c.loop-turn.writer c.feed_all.new.writer c.loop-turn.invariant.by_line c.in_default.ensures.by_line;
      writer = IsCalled-more g.W.Sink.writing.works g.W.Sink.writing.fails false c.args.writer.now c.loop-turn.writer c.feed_all.new.writer c.loop-turn.invariant.writer c.in_default.ensures.writer;
      lines = lines-more c.loop-turn._turn _ _ c.in-Ok.n c.read_piece.new.buffer c.loop-turn.invariant.lines size c.in_default.ensures.lines;
      size = size;
      so_far = λ b h.
          let p = c.loop-turn.invariant.so_far b h in
          so_far-more g.R.Source.reading b c.loop-turn._turn _ _ _ c.loop-turn.server _ _ _ _ _ p c.in-Ok.ensures.gives c.in-Ok.ensures.bytes.0
          (some-read _ _ c.in-Ok.ensures.count c.in-Ok.n-test.1) (most-read c.in-Ok.n c.read_piece.new.buffer size) (c.in_default.ensures.fed b _ p.stands);
    }

pub returns-in-Ok-eq0-clause-at_end : goal.returns-in-Ok-eq0-clause-at_end
returns-in-Ok-eq0-clause-at_end g c = search (tests, rules)

pub returns-in-Err-feed_all-clause-at_end : goal.returns-in-Err-feed_all-clause-at_end
returns-in-Err-feed_all-clause-at_end g c = search (tests, rules)

pub returns-in-Err-clause-told : goal.returns-in-Err-clause-told
returns-in-Err-clause-told g c = λ b h.
    let p = c.loop-turn.invariant.so_far b h in
    told-read g.R.Source.reading b c.args.turns c.loop-turn._turn _ _ _ c.loop-turn.server _ _ p c.loop-turn-test.true c.in-Err.ensures.bytes c.in-Err.ensures.fails

pub returns-in-Err-clause-at_end : goal.returns-in-Err-clause-at_end
returns-in-Err-clause-at_end g c = search (tests, rules)

pub returns-in-Err-clause-writer : goal.returns-in-Err-clause-writer
returns-in-Err-clause-writer g c = search (tests, rules)

pub returns-in-Err-clause-by_line : goal.returns-in-Err-clause-by_line
returns-in-Err-clause-by_line g c = search (tests, rules)

pub returns-clause-told : goal.returns-clause-told
returns-clause-told g c = λ b h.
    let p = c.loop-turn.invariant.so_far b h in
    told-too_long g.R.Source.reading b c.loop-turn._turn c.args.turns _ _ c.loop-turn.server _ _ p (omega (arith, c.loop-turn-test.false, c.loop-turn.auto._turn-end))

pub returns-clause-at_end : goal.returns-clause-at_end
returns-clause-at_end g c = search (tests, rules)

pub returns-clause-writer : goal.returns-clause-writer
returns-clause-writer g c = search (tests, rules)

pub returns-clause-by_line : goal.returns-clause-by_line
returns-clause-by_line g c = search (tests, rules)
