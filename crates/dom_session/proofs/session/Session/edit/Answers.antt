use Rattle.std.proofs.Common.{◌≡◌, false, ap}
use Rattle.dom_edit.specs.declared.world.World.{World}
use Rattle.dom_commands.specs.{Brief.reply_of, Views.editing_view}
use Rattle.dom_session.specs.{SessionViews.SessionView, SessionBounds.bounds_of, AnswerBounds.numbered}
use Rattle.dom_session.proofs.IsStepLemmas.{IsShown-step, IsAnswered-editing}
use Rattle.dom_session.proofs.session.Session.edit.Goals as goal

pub invariant_of-self : goal.invariant_of-self
invariant_of-self c =
    let on : c.self.inside.ended ≡ false = cc in
    let shown = IsShown-step c.self.inside.world c.edit_tree.new.world (numbered c.self.inside.limits.numbers) (editing_view c.args.command) (reply_of c.in-Ok.reply) (c.self.invariant.1 on) (c.in-Ok.ensures.step (numbered c.self.inside.limits.numbers)) in
    (c.self.invariant.0, λ _. shown, shown.shows.whole)

pub returns-clause-answers : goal.returns-clause-answers
returns-clause-answers c =
    rw (← c.self.view_is)
    (IsAnswered-editing (record { world = c.self.inside.world; bounds = bounds_of c.self.inside.limits; ended = c.self.inside.ended })
    (record { world = c.edit_tree.new.world; bounds = bounds_of c.self.inside.limits; ended = c.self.inside.ended })
    c.args.command (reply_of c.in-Ok.reply) (c.in-Ok.ensures.step (numbered c.self.inside.limits.numbers)))

pub returns-clause-refused : goal.returns-clause-refused
returns-clause-refused c r =
    let with_world : World → SessionView = λ v. record { world = v; bounds = bounds_of c.self.inside.limits; ended = c.self.inside.ended } in
    rw (← c.self.view_is)
    (ap with_world ((c.in-Ok.ensures.step (numbered c.self.inside.limits.numbers)).refused r))
