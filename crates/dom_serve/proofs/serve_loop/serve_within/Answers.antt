use Rattle.std.proofs.Common.{inr}
use Rattle.dom_session.specs.Sessions.{bounds_of}
use Rattle.dom_serve.proofs.ServesPiecesLemmas.{told-none}
use Rattle.dom_serve.proofs.serve_loop.serve_within.Goals as goal

pub returns-in-Ok : goal.returns-in-Ok
returns-in-Ok g c = record {
  told = c.serve_all.ensures.told (bounds_of c.args.limits) c.in-Ok.ensures.stands;
  at_end = c.serve_all.ensures.at_end;
  passed_on = c.serve_all.ensures.passed;
  by_line = c.serve_all.ensures.by_line;
  asked = c.serve_all.ensures.writer;
}

pub returns-in-Err : goal.returns-in-Err
returns-in-Err g c = record {
  told = told-none g.R.Source.reading (bounds_of c.args.limits) c.args.turns c.args.reader.now (g.W.Sink.writing.taken c.args.writer.now)
      (g.W.Sink.writing.taken c.write_out_of_memory.new.writer) c.write_out_of_memory.result c.write_out_of_memory.ensures.written;
  at_end = tt;
  passed_on = λ e. inr (c.write_out_of_memory.ensures.passed e);
  by_line = c.write_out_of_memory.ensures.by_line;
  asked = c.write_out_of_memory.ensures.writer;
}
