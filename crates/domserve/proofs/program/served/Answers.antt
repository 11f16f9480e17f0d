use Rattle.std.proofs.Common.{◌∙◌, ap, inl, refl, subst, sym}
use Rattle.dom_serve.specs.Calls.{HasPassedOn, IsRead, IsWritten}
use Rattle.domserve.specs.{Messages.SaysFault, Statuses.fault_exit_status}
use Rattle.domserve.proofs.FaultLemmas.{reader-told, writer-told, passed-told, range-told, not-zero}
use Rattle.domserve.proofs.program.served.Goals as goal

pub returns-in-Err-clause-range : goal.returns-in-Err-clause-range
returns-in-Err-clause-range g c = range-told c.in-Err.fault c.reason_of-reason.result c.faulted.result c.faulted.ensures.status

pub returns-in-Err-clause-passed : goal.returns-in-Err-clause-passed
returns-in-Err-clause-passed g c =
    passed-told c.in-Err.fault c.reason_of-reason.result c.faulted.result (HasPassedOn g.W.Sink.writing c.args.writer.now c.serve.new.writer) c.faulted.ensures.status
    c.in-Err.ensures.serves.passed_on

pub returns-in-Ok-clause-reader : goal.returns-in-Ok-clause-reader
returns-in-Ok-clause-reader g c = let t = c.in-Ok.ensures.serves.told in inl (t.pieces, t.last, t.reads, t.ends)

pub returns-in-Err-clause-reader : goal.returns-in-Err-clause-reader
returns-in-Err-clause-reader g c =
    let t = c.in-Err.ensures.serves.told in
    reader-told c.in-Err.fault c.reason_of-reason.result c.faulted.result (λ failed. IsRead g.R.Source.reading failed c.args.reader.now c.serve.new.reader)
    c.faulted.ensures.status (t.pieces, t.last, t.reads, t.ends)

pub returns-in-Ok-clause-writer : goal.returns-in-Ok-clause-writer
returns-in-Ok-clause-writer g c = inl c.in-Ok.ensures.serves.asked

pub returns-in-Err-clause-writer : goal.returns-in-Err-clause-writer
returns-in-Err-clause-writer g c =
    writer-told c.in-Err.fault c.reason_of-reason.result c.faulted.result (λ failed. IsWritten g.W.Sink.writing failed c.args.writer.now c.serve.new.writer)
    c.faulted.ensures.status c.in-Err.ensures.serves.asked

pub returns-in-Err-clause-silent : goal.returns-in-Err-clause-silent
returns-in-Err-clause-silent g c = λ zero. absurd (not-zero c.in-Err.fault c.reason_of-reason.result (sym c.faulted.ensures.status ∙ zero))

pub returns-in-Ok-clause-told : goal.returns-in-Ok-clause-told
returns-in-Ok-clause-told g c = λ other. absurd (other refl)

pub returns-in-Err-clause-told : goal.returns-in-Err-clause-told
returns-in-Err-clause-told g c = λ other. record {
  fault = c.in-Err.fault;
  status_is = c.faulted.ensures.status ∙ ap (fault_exit_status c.in-Err.fault) c.reason_of-reason.ensures;
  says = subst (SaysFault g.E.Sink.writing c.args.errors.now c.faulted.new.errors c.in-Err.fault) c.reason_of-reason.ensures c.faulted.ensures.says;
  comes = c.in-Err.ensures.serves;
}
