use Rattle.std.proofs.Common.{◌≡◌, false, refl, ap}
use Rattle.dom_model.specs.Definitions.{PreviousNode}
use Rattle.dom_edit.specs.declared.world.World.{World}
use Rattle.dom_commands.specs.{Brief.reply_of}
use Rattle.dom_session.specs.{SessionViews.SessionView, SessionBounds.bounds_of, AnswerBounds.numbered}
use Rattle.dom_session.proofs.IsStepLemmas.{IsShown-step, IsAnswered-by}
use Rattle.dom_session.proofs.session.Session.previous_node.Goals as goal

pub invariant_of-self : goal.invariant_of-self
invariant_of-self c =
    let on : c.self.inside.ended ≡ false = cc in
    let shown = IsShown-step c.self.inside.world c.previous_node.new.world (numbered c.self.inside.limits.numbers) (PreviousNode c.args.iterator) (reply_of c.previous_node.result) (c.self.invariant.1 on) (c.previous_node.ensures.step (numbered c.self.inside.limits.numbers)) in
    (c.self.invariant.0, λ _. shown, shown.shows.whole)

pub returns-clause-answers : goal.returns-clause-answers
returns-clause-answers c =
    rw (← c.self.view_is)
    (IsAnswered-by (record { world = c.self.inside.world; bounds = bounds_of c.self.inside.limits; ended = c.self.inside.ended })
    (record { world = c.previous_node.new.world; bounds = bounds_of c.self.inside.limits; ended = c.self.inside.ended })
    (PreviousNode c.args.iterator) (reply_of c.previous_node.result) (λ w. refl) (c.previous_node.ensures.step (numbered c.self.inside.limits.numbers)))

pub returns-clause-refused : goal.returns-clause-refused
returns-clause-refused c r =
    let with_world : World → SessionView = λ v. record { world = v; bounds = bounds_of c.self.inside.limits; ended = c.self.inside.ended } in
    rw (← c.self.view_is)
    (ap with_world ((c.previous_node.ensures.step (numbered c.self.inside.limits.numbers)).refused r))
