use Rattle.std.proofs.Common.{inl, inr, sym, refl, ◌∙◌}
use Rattle.dom_serve.specs.declared.fault.Fault.TheVariants.{Write}
use Rattle.domserve.proofs.FaultLemmas.{failed-write, not-zero}
use Rattle.domserve.proofs.program.helped.Goals as goal

pub returns-in-Err-clause-range : goal.returns-in-Err-clause-range
returns-in-Err-clause-range g c = inr (failed-write c.last_error.result c.faulted.result c.faulted.ensures.status)

pub returns-in-Err-clause-passed : goal.returns-in-Err-clause-passed
returns-in-Err-clause-passed g c = λ other. absurd (other (failed-write c.last_error.result c.faulted.result c.faulted.ensures.status))

pub returns-in-Ok-clause-writer : goal.returns-in-Ok-clause-writer
returns-in-Ok-clause-writer g c = inl c.in-Ok.ensures.writer

pub returns-in-Err-clause-writer : goal.returns-in-Err-clause-writer
returns-in-Err-clause-writer g c =
    inr (failed-write c.last_error.result c.faulted.result c.faulted.ensures.status, c.in-Err.ensures.writer)

pub returns-in-Err-clause-silent : goal.returns-in-Err-clause-silent
returns-in-Err-clause-silent g c = λ zero. absurd (not-zero Write c.last_error.result (sym c.faulted.ensures.status ∙ zero))

pub returns-in-Ok-clause-told : goal.returns-in-Ok-clause-told
returns-in-Ok-clause-told g c = λ other. absurd (other refl)
