use Rattle.std.proofs.Common.{tests, rules}
use Rattle.dom_serve.proofs.IsCalledLemmas.{IsCalled-last}
use Rattle.dom_serve.proofs.line_output.write_line.Goals as goal

pub returns-in-Ok-clause-writer : goal.returns-in-Ok-clause-writer
returns-in-Ok-clause-writer g c =
    IsCalled-last g.W.Sink.writing.works g.W.Sink.writing.fails c.flush.result c.args.writer.now c.write_whole.new.writer c.flush.new.self c.in-Ok.ensures.writer c.flush.ensures.works c.flush.ensures.fails

pub returns-in-Ok-clause-written : goal.returns-in-Ok-clause-written
returns-in-Ok-clause-written g c = search (tests, rules)

pub returns-in-Ok-clause-passed : goal.returns-in-Ok-clause-passed
returns-in-Ok-clause-passed g c = search (tests, rules)

pub returns-in-Err-clause-written : goal.returns-in-Err-clause-written
returns-in-Err-clause-written g c = search (tests, rules)

pub returns-in-Err-clause-passed : goal.returns-in-Err-clause-passed
returns-in-Err-clause-passed g c = search (tests, rules)

pub returns-in-Err-clause-writer : goal.returns-in-Err-clause-writer
returns-in-Err-clause-writer g c = search (tests, rules)
