use Rattle.std.proofs.Common.{◌≡◌, false, refl}
use Rattle.dom_model.specs.Definitions.{CreateText}
use Rattle.dom_commands.specs.{Brief.reply_of}
use Rattle.dom_session.specs.{SessionBounds.bounds_of, AnswerBounds.numbered}
use Rattle.dom_session.proofs.{IsStepLemmas.IsShown-step, IsStepLemmas.IsAnswered-by, KeepsWholeWorldLemmas.left_open, GoingOn.as_before, GoingOn.as_before-world, GoingOn.shown_as}
use Rattle.dom_session.proofs.session.Session.create_text.Goals as goal

pub invariant_of-self : goal.invariant_of-self
invariant_of-self c =
    let on : c.self.inside.ended ≡ false = cc in
    let shown = shown_as c.self.inside.world c.create_text.new.world c.in_default.ensures.as_it_was (c.self.invariant.1 on) in
    (c.self.invariant.0, λ _. shown, shown.shows.whole)

pub invariant_of-self-2 : goal.invariant_of-self-2
invariant_of-self-2 c =
    let on : c.self.inside.ended ≡ false = cc in
    let shown = IsShown-step c.self.inside.world c.create_text.new.world (numbered c.self.inside.limits.numbers) (CreateText c.args.document c.args.text) (reply_of c.in-Ok.reply) (c.self.invariant.1 on) c.in-Ok.ensures.step in
    (c.self.invariant.0, λ _. shown, shown.shows.whole)

pub returns-clause-answers : goal.returns-clause-answers
returns-clause-answers c =
    rw (← c.self.view_is)
    (IsAnswered-by (record { world = c.self.inside.world; bounds = bounds_of c.self.inside.limits; ended = c.self.inside.ended })
    (record { world = c.create_text.new.world; bounds = bounds_of c.self.inside.limits; ended = c.self.inside.ended })
    (CreateText c.args.document c.args.text) (reply_of c.in-Ok.reply) (λ w. refl) c.in-Ok.ensures.step)

pub returns-in_default-clause-left : goal.returns-in_default-clause-left
returns-in_default-clause-left c =
    let on : c.self.inside.ended ≡ false = cc in
    rw (← c.self.view_is) (left_open (record { world = c.self.inside.world; bounds = bounds_of c.self.inside.limits; ended = c.self.inside.ended }) (record { world = c.create_text.new.world; bounds = bounds_of c.self.inside.limits; ended = c.self.inside.ended }) on c.in_default.ensures.left)

pub returns-in_default-clause-same : goal.returns-in_default-clause-same
returns-in_default-clause-same c =
    rw (← c.self.view_is) (λ _. as_before-world c.self.inside.world c.create_text.new.world (bounds_of c.self.inside.limits) c.self.inside.ended c.in_default.ensures.as_it_was)

pub returns-in_default-clause-made : goal.returns-in_default-clause-made
returns-in_default-clause-made c =
    rw (← c.self.view_is) (as_before-world c.self.inside.world c.create_text.new.world (bounds_of c.self.inside.limits) c.self.inside.ended c.in_default.ensures.as_it_was)

pub returns-then-self-clause-made : goal.returns-then-self-clause-made
returns-then-self-clause-made c = as_before c.args.self.now
