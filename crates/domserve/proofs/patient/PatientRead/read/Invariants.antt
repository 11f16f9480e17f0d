use Rattle.std.specs.Io.KnownBytes.{Keeps}
use Rattle.domserve.proofs.patient.PatientRead.read.Given as goal

abbrev pub invariant-loop-calls : goal.invariant-loop-calls
invariant-loop-calls g l = Keeps (g.R.Read.remaining l.fn.self.inner) (g.R.Read.remaining l.self.inner)
