use Rattle.std.proofs.Common.{◌≡◌, ap}
use Rattle.dom_edit.specs.declared.world.World.{World}
use Rattle.dom_session.specs.{SessionViews.SessionView, SessionBounds.bounds_of}
use Rattle.dom_session.proofs.session.Session.read.Goals as goal

pub invariant_of-self : goal.invariant_of-self
invariant_of-self c = rw c.read.ensures.unchanged c.self.invariant

pub returns-clause-answers : goal.returns-clause-answers
returns-clause-answers c =
    let step = c.read.ensures.step (bounds_of c.self.inside.limits) in
    rw (← c.self.view_is) (λ w s. record { reply_is = step.reply_is w s; world_is = step.world_is w s })

pub returns-clause-own : goal.returns-clause-own
returns-clause-own c = rw (← c.self.view_is) (c.read.ensures.own (bounds_of c.self.inside.limits))

pub returns-clause-unchanged : goal.returns-clause-unchanged
returns-clause-unchanged c =
    let with_world : World → SessionView = λ v. record { world = v; bounds = bounds_of c.self.inside.limits; ended = c.self.inside.ended } in
    rw (← c.self.view_is) (ap with_world c.read.ensures.unchanged)
