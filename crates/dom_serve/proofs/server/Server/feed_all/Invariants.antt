use Rattle.std.proofs.Common.{◌≡◌, ℕ, ◌+◌, ◌≤◌, false, List, ◌++◌, length}
use Rattle.dom_model.specs.Definitions.{Bounds}
use Rattle.dom_model.specs.{Commands.Table.whole_table, Commands.Output.due}
use Rattle.dom_serve.specs.{Calls.HasAnswered, Calls.IsWritten, ByLine.IsWrittenByLine, Server.IsServerAfter, Server.Grows}
use Rattle.dom_serve.proofs.server.Server.feed_all.Given as goal

abbrev pub invariant-loop-line : goal.invariant-loop-line
invariant-loop-line g l = record {
  passed : HasAnswered g.W.Sink.writing l.fn.writer l.fn.self.lines l.writer l.self.lines;
  by_line : IsWrittenByLine g.W.Sink.writing false l.fn.writer l.writer;
  writer : IsWritten g.W.Sink.writing false l.fn.writer l.writer;
  front : List ℕ;
  whole : l.piece ≡ front ++ l.rest;
  lines : l.self.lines ≤ l.fn.self.lines + length front;
  so_far : (b : Bounds) (bytes : List ℕ) → IsServerAfter b bytes l.fn.self → IsServerAfter b (bytes ++ front) l.self
      × Grows (due whole_table b bytes false) (due whole_table b (bytes ++ front) false) (g.W.Sink.writing.taken l.fn.writer) (g.W.Sink.writing.taken l.writer);
}

abbrev pub decreases-loop-line : goal.decreases-loop-line
decreases-loop-line g l = length l.rest
