use Rattle.std.proofs.Common.{refl}
use Rattle.dom_model.specs.Definitions.{HasAttribute}
use Rattle.dom_session.specs.{SessionViews.SessionView, SessionBounds.bounds_of, AnswerBounds.numbered}
use Rattle.dom_session.proofs.IsStepLemmas.{IsAnswered-by}
use Rattle.dom_session.proofs.session.Session.has_attribute.Goals as goal

pub returns-clause-answers : goal.returns-clause-answers
returns-clause-answers c =
    let held : SessionView = record { world = c.self.inside.world; bounds = bounds_of c.self.inside.limits; ended = c.self.inside.ended } in
    rw (← c.self.view_is)
    (IsAnswered-by held held
    (HasAttribute c.args.element c.args.name.now) c.has_attribute.result (λ w. refl) (c.has_attribute.ensures.step (numbered c.self.inside.limits.numbers)))
