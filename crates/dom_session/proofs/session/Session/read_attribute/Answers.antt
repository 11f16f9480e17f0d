use Rattle.dom_session.specs.SessionBounds.{bounds_of}
use Rattle.dom_session.proofs.session.Session.read_attribute.Goals as goal

pub returns-clause-answers : goal.returns-clause-answers
returns-clause-answers c =
    let step = c.has_attribute.ensures.step (bounds_of c.self.inside.limits) in
    rw (← c.self.view_is) (λ w s. record { reply_is = step.reply_is w s; world_is = step.world_is w s })

pub returns-clause-own : goal.returns-clause-own
returns-clause-own c = rw (← c.self.view_is) (c.has_attribute.ensures.own (bounds_of c.self.inside.limits))
