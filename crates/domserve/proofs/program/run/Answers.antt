use Rattle.std.proofs.Common.{inl, map, refl, subst, sym}
use Rattle.dom_options.specs.CommandLine.{TellsOf, faults_in}
use Rattle.dom_serve.specs.declared.fault.Fault.TheVariants.{Memory, Write}
use Rattle.domserve.specs.{declared.program.TheConstants.HINT, Messages.MayHint, Statuses.ServesUpTo, Statuses.by_serving, Statuses.by_helping, Statuses.by_want_ahead}
use Rattle.domserve.proofs.program.run.Goals as goal

pub returns-in-Ok-clause-silent : goal.returns-in-Ok-clause-silent
returns-in-Ok-clause-silent g c = λ zero.
    subst (MayHint g.E.Sink.writing c.args.is_terminal HINT.now c.args.errors.now) (sym (c.served.ensures.silent zero)) c.say_hint.ensures

pub returns-in-Ok-clause-told : goal.returns-in-Ok-clause-told
returns-in-Ok-clause-told g c = λ other mistaken.
    let t = c.served.ensures.told other in
    let serves = subst (λ b. ServesUpTo g.R.Source.reading g.W.Sink.writing b c.args.reader.now c.served.new.reader c.args.writer.now c.served.new.writer t.fault)
    c.in-Ok.ensures.asked t.comes in
    record {
      fault = t.fault;
      status_is = t.status_is;
      says = (c.say_hint.new.errors, c.say_hint.ensures, t.says);
      comes = by_serving t.fault c.in-Ok.ensures.taken serves;
    }

pub returns-in-Err-Help-clause-silent : goal.returns-in-Err-Help-clause-silent
returns-in-Err-Help-clause-silent g c = λ zero. inl (c.helped.ensures.silent zero)

pub returns-in-Err-Help-clause-told : goal.returns-in-Err-Help-clause-told
returns-in-Err-Help-clause-told g c = λ other mistaken.
    let t = c.helped.ensures.told other in
    let asked = subst (TellsOf (faults_in (map g.S.AsStr.text c.args.words.now))) c.in-Err-Help.field-0-is c.in-Err-Help.ensures.told in
    record { fault = Write; status_is = t.0; says = (c.args.errors.now, inl refl, t.1); comes = by_helping Write asked refl t.2 }

pub returns-in-Err-Mistake-clause-told : goal.returns-in-Err-Mistake-clause-told
returns-in-Err-Mistake-clause-told g c = λ other mistaken. absurd (mistaken refl)

pub returns-in-Err-Memory-clause-told : goal.returns-in-Err-Memory-clause-told
returns-in-Err-Memory-clause-told g c = λ other mistaken. record {
  fault = Memory;
  status_is = c.without_memory.ensures.status;
  says = (c.args.errors.now, inl refl, c.without_memory.ensures.says);
  comes = by_want_ahead refl refl;
}
