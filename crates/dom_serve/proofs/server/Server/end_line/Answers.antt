use Rattle.std.proofs.Common.{refl}
use Rattle.dom_serve.proofs.FedLemmas.{Breaks-answered, Stands-answered}
use Rattle.dom_serve.proofs.server.Server.end_line.Goals as goal

pub returns-in-Err-clause-fed : goal.returns-in-Err-clause-fed
returns-in-Err-clause-fed g c = λ b bytes h.
    Breaks-answered b bytes c.args.self.now c.deref.result.now _ _ c.in-Err.fault h c.deref.ensures.value c.in-Err.ensures.answers

pub returns-clause-fed : goal.returns-clause-fed
returns-clause-fed g c = λ b bytes h.
    Stands-answered b bytes c.args.self.now _ c.deref.result.now _ _ h c.deref.ensures.value c.in_default.ensures.answers
    c.in_default.ensures.bounds refl refl c.clear.ensures.items refl
