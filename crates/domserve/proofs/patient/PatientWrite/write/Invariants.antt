use Rattle.std.specs.Io.KnownBytes.{Keeps}
use Rattle.domserve.proofs.patient.PatientWrite.write.Given as goal

abbrev pub invariant-loop-calls : goal.invariant-loop-calls
invariant-loop-calls g l = Keeps (g.W.Write.contents l.fn.self.inner) (g.W.Write.contents l.self.inner)
