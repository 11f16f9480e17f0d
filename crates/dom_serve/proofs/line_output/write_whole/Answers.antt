use Rattle.std.proofs.Common.{true, false, tests, rules, arith}
use Rattle.std.proofs.lemmas.Grind.{common_steps}
use Rattle.dom_serve.proofs.{AppendsLemmas.within, AppendsLemmas.Appends-more, AppendsLemmas.AppendsFront-kept, IsCalledLemmas.IsCalled-one, IsCalledLemmas.IsCalled-failed, IsCalledLemmas.IsCalled-more}
use Rattle.dom_serve.proofs.line_output.write_whole.Goals as goal

pub loop-at-preserved : goal.loop-at-preserved
loop-at-preserved g c = record {
  bound = within c.args.bytes.now c.loop-at.at c.in-Ok.n c.loop-at.invariant.bound c.in-Ok.ensures.count;
  written = Appends-more _ _ _ c.args.bytes.now c.loop-at.at c.in-Ok.n c.loop-at.invariant.written c.in-Ok.ensures.bytes;
  writer = IsCalled-more g.W.Sink.writing.works g.W.Sink.writing.fails false c.args.writer.now c.loop-at.writer c.write.new.self c.loop-at.invariant.writer
      (IsCalled-one g.W.Sink.writing.works g.W.Sink.writing.fails c.loop-at.writer c.write.new.self c.in-Ok.ensures.works);
}

pub returns-in-Err-clause-written : goal.returns-in-Err-clause-written
returns-in-Err-clause-written g c = AppendsFront-kept _ _ _ c.args.bytes.now c.loop-at.at c.loop-at.invariant.written c.in-Err.ensures.bytes

pub returns-in-Err-clause-writer : goal.returns-in-Err-clause-writer
returns-in-Err-clause-writer g c =
    IsCalled-more g.W.Sink.writing.works g.W.Sink.writing.fails true c.args.writer.now c.loop-at.writer c.write.new.self c.loop-at.invariant.writer
    (IsCalled-failed g.W.Sink.writing.works g.W.Sink.writing.fails c.loop-at.writer c.write.new.self c.in-Err.ensures.fails)

pub returns-clause-written : goal.returns-clause-written
returns-clause-written g c = grind (arith, common_steps)

pub returns-clause-writer : goal.returns-clause-writer
returns-clause-writer g c = search (tests, rules)
