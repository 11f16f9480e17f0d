use Rattle.std.proofs.Common.{◌≤◌, ◌-◌, false, length, take}
use Rattle.std.specs.Io.KnownBytes.{Appends}
use Rattle.dom_serve.specs.Calls.{IsWritten}
use Rattle.dom_serve.proofs.line_output.write_whole.Given as goal

abbrev pub invariant-loop-at : goal.invariant-loop-at
invariant-loop-at g l = record {
  bound : l.at ≤ length l.bytes;
  written : Appends (g.W.Sink.writing.taken l.fn.writer) (g.W.Sink.writing.taken l.writer) (take l.at l.bytes);
  writer : IsWritten g.W.Sink.writing false l.fn.writer l.writer;
}

abbrev pub decreases-loop-at : goal.decreases-loop-at
decreases-loop-at g l = length l.bytes - l.at
