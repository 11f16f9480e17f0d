use Rattle.std.proofs.Common.{◌≡◌, ◌*◌, ◌≤◌, false, [], length}
use Rattle.dom_model.specs.Definitions.{Bounds}
use Rattle.dom_serve.specs.{Calls.HasAnswered, Calls.IsWritten, ByLine.IsWrittenByLine, Server.IsServerAfter, Server.IsSoFar}
use Rattle.dom_serve.proofs.serve_loop.serve_all.Given as goal

abbrev pub invariant-loop-turn : goal.invariant-loop-turn
invariant-loop-turn g l = record {
  passed : HasAnswered g.W.Sink.writing l.fn.writer 0 l.writer l.server.lines;
  by_line : IsWrittenByLine g.W.Sink.writing false l.fn.writer l.writer;
  writer : IsWritten g.W.Sink.writing false l.fn.writer l.writer;
  lines : l.server.lines ≤ 65536 * l._turn;
  size : length l.buffer ≡ 65536;
  so_far : (b : Bounds) → IsServerAfter b [] l.fn.server
      → IsSoFar g.R.Source.reading b l._turn l.fn.reader l.reader l.server (g.W.Sink.writing.taken l.fn.writer) (g.W.Sink.writing.taken l.writer);
}
