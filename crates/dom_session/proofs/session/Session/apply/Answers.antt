use Rattle.std.proofs.Common.{◌≡◌, ◌∙◌, true, false, ap, sym, subst, tests, rules}
use Rattle.dom_edit.specs.{declared.world.World.World, Whole.IsWhole, Whole.IsShown}
use Rattle.dom_commands.specs.{Views.command_view}
use Rattle.dom_session.specs.{SessionBounds.bounds_of, AnswerBounds.numbered, GoingOn.goes_on, SessionViews.IsStep, OutOfMemory.KeepsWholeWorld, OutOfMemory.IsAsItWas}
use Rattle.dom_session.proofs.{IsStepLemmas.IsShown-step, IsStepLemmas.IsAnswered-step, KeepsWholeWorldLemmas.kept_whole, KeepsWholeWorldLemmas.left_ended, KeepsWholeWorldLemmas.left_open, GoingOn.as_before, GoingOn.as_before-world, GoingOn.as_it_was-same, GoingOn.shown_as, GoingOn.going-asked}
use Rattle.dom_session.proofs.session.Session.apply.Goals as goal

pub invariant_of-self-in-Ok : goal.invariant_of-self-in-Ok
invariant_of-self-in-Ok c =
    let on : c.self.inside.ended ≡ false = cc in
    let shown = IsShown-step c.self.inside.world c.answered.new.world (numbered c.self.inside.limits.numbers) (command_view c.args.command) c.in-Ok.reply (c.self.invariant.1 on) (subst (λ (v : World). IsStep v c.answered.new.world (numbered c.self.inside.limits.numbers) (command_view c.args.command) c.in-Ok.reply) c.make_room.ensures c.in-Ok.ensures.step) in
    (c.self.invariant.0, λ _. shown, shown.shows.whole)

pub invariant_of-self-then-stays_open : goal.invariant_of-self-then-stays_open
invariant_of-self-then-stays_open c =
    let on : c.self.inside.ended ≡ false = cc in
    let going : goes_on (command_view c.args.command) ≡ true = cc in
    let shown = shown_as c.self.inside.world c.answered.new.world (subst (λ (v : World). IsAsItWas v c.answered.new.world) c.make_room.ensures (c.in-Err.ensures.goes_on going)) (c.self.invariant.1 on) in
    (c.self.invariant.0, λ _. shown, shown.shows.whole)

pub returns-in-Ok-clause-answers : goal.returns-in-Ok-clause-answers
returns-in-Ok-clause-answers c =
    rw (← c.self.view_is)
    (IsAnswered-step (record { world = c.self.inside.world; bounds = bounds_of c.self.inside.limits; ended = c.self.inside.ended })
    (record { world = c.answered.new.world; bounds = bounds_of c.self.inside.limits; ended = c.self.inside.ended })
    c.args.command c.in-Ok.reply (subst (λ (v : World). IsStep v c.answered.new.world (numbered c.self.inside.limits.numbers) (command_view c.args.command) c.in-Ok.reply) c.make_room.ensures c.in-Ok.ensures.step))

pub returns-then-self-clause-answers : goal.returns-then-self-clause-answers
returns-then-self-clause-answers c = search (tests, rules)

pub returns-then-self-clause-refused : goal.returns-then-self-clause-refused
returns-then-self-clause-refused c = search (tests, rules)

pub returns-then-self-clause-open : goal.returns-then-self-clause-open
returns-then-self-clause-open c = search (tests, rules)

pub returns-then-self-clause-ended : goal.returns-then-self-clause-ended
returns-then-self-clause-ended c = search (tests, rules)

pub returns-then-self-clause-left : goal.returns-then-self-clause-left
returns-then-self-clause-left c =
    rw (← c.self.view_is)
    (left_ended (record { world = c.self.inside.world; bounds = bounds_of c.self.inside.limits; ended = c.self.inside.ended }) c.self.invariant.2)

pub returns-in-Ok-clause-left : goal.returns-in-Ok-clause-left
returns-in-Ok-clause-left c = tt

pub returns-else-is_unchanged-clause-left : goal.returns-else-is_unchanged-clause-left
returns-else-is_unchanged-clause-left c =
    let on : c.self.inside.ended ≡ false = cc in
    rw (← c.self.view_is)
    (left_open (record { world = c.self.inside.world; bounds = bounds_of c.self.inside.limits; ended = c.self.inside.ended })
    (record { world = c.answered.new.world; bounds = bounds_of c.self.inside.limits; ended = true })
    on (subst (λ (v : World). KeepsWholeWorld v c.answered.new.world) c.make_room.ensures c.in-Err.ensures.left))

pub returns-then-self-clause-stays_ended : goal.returns-then-self-clause-stays_ended
returns-then-self-clause-stays_ended c = search (tests, rules)

pub returns-then-self-clause-bounds : goal.returns-then-self-clause-bounds
returns-then-self-clause-bounds c = search (tests, rules)

pub returns-in-Ok-clause-refused : goal.returns-in-Ok-clause-refused
returns-in-Ok-clause-refused c = search (tests, rules)

pub returns-in-Ok-clause-open : goal.returns-in-Ok-clause-open
returns-in-Ok-clause-open c = search (tests, rules)

pub returns-in-Ok-clause-ended : goal.returns-in-Ok-clause-ended
returns-in-Ok-clause-ended c = search (tests, rules)

pub returns-in-Ok-clause-stays_ended : goal.returns-in-Ok-clause-stays_ended
returns-in-Ok-clause-stays_ended c = search (tests, rules)

pub returns-in-Ok-clause-bounds : goal.returns-in-Ok-clause-bounds
returns-in-Ok-clause-bounds c = search (tests, rules)

pub returns-then-stays_open-clause-left : goal.returns-then-stays_open-clause-left
returns-then-stays_open-clause-left c =
    let on : c.self.inside.ended ≡ false = cc in
    rw (← c.self.view_is) (left_open (record { world = c.self.inside.world; bounds = bounds_of c.self.inside.limits; ended = c.self.inside.ended }) (record { world = c.answered.new.world; bounds = bounds_of c.self.inside.limits; ended = c.self.inside.ended }) on (subst (λ (v : World). KeepsWholeWorld v c.answered.new.world) c.make_room.ensures c.in-Err.ensures.left))

pub returns-then-stays_open-clause-same : goal.returns-then-stays_open-clause-same
returns-then-stays_open-clause-same c =
    let going : goes_on (command_view c.args.command) ≡ true = cc in
    rw (← c.self.view_is) (λ _. as_before-world c.self.inside.world c.answered.new.world (bounds_of c.self.inside.limits) c.self.inside.ended (subst (λ (v : World). IsAsItWas v c.answered.new.world) c.make_room.ensures (c.in-Err.ensures.goes_on going)))

pub returns-then-stays_open-clause-asked : goal.returns-then-stays_open-clause-asked
returns-then-stays_open-clause-asked c =
    rw (← c.self.view_is) (λ asked. ap (λ (v : World). record { world = v; bounds = bounds_of c.self.inside.limits; ended = c.self.inside.ended }) (c.in-Err.ensures.asked asked ∙ c.make_room.ensures))

pub returns-then-stays_open-clause-all_or_nothing : goal.returns-then-stays_open-clause-all_or_nothing
returns-then-stays_open-clause-all_or_nothing c =
    rw (← c.self.view_is) (λ going. as_before-world c.self.inside.world c.answered.new.world (bounds_of c.self.inside.limits) c.self.inside.ended (subst (λ (v : World). IsAsItWas v c.answered.new.world) c.make_room.ensures (c.in-Err.ensures.goes_on going)))

pub returns-else-is_unchanged-clause-asked : goal.returns-else-is_unchanged-clause-asked
returns-else-is_unchanged-clause-asked c asked = absurd (cc (going-asked (command_view c.args.command) asked))

pub returns-else-is_unchanged-clause-all_or_nothing : goal.returns-else-is_unchanged-clause-all_or_nothing
returns-else-is_unchanged-clause-all_or_nothing c going = absurd (cc going)

pub returns-then-self-clause-all_or_nothing : goal.returns-then-self-clause-all_or_nothing
returns-then-self-clause-all_or_nothing c _ = as_before c.args.self.now

pub answered-requires-clause-shown : goal.answered-requires-clause-shown
answered-requires-clause-shown c =
    let on : c.self.inside.ended ≡ false = cc in
    subst IsShown (sym c.make_room.ensures) (c.self.invariant.1 on)

pub invariant_of-self : goal.invariant_of-self
invariant_of-self c =
    let on : c.self.inside.ended ≡ false = cc in
    let back = sym c.make_room.ensures in
    (c.self.invariant.0, λ _. subst IsShown back (c.self.invariant.1 on), subst IsWhole back c.self.invariant.2)

pub returns-then-is_err-clause-same : goal.returns-then-is_err-clause-same
returns-then-is_err-clause-same c =
    rw (← c.self.view_is)
    (λ _. as_before-world c.self.inside.world c.make_room.new.world (bounds_of c.self.inside.limits) c.self.inside.ended (as_it_was-same c.self.inside.world c.make_room.new.world c.make_room.ensures))

pub returns-then-is_err-clause-left : goal.returns-then-is_err-clause-left
returns-then-is_err-clause-left c =
    let on : c.self.inside.ended ≡ false = cc in
    rw (← c.self.view_is)
    (left_open (record { world = c.self.inside.world; bounds = bounds_of c.self.inside.limits; ended = c.self.inside.ended })
    (record { world = c.make_room.new.world; bounds = bounds_of c.self.inside.limits; ended = c.self.inside.ended })
    on (subst (λ (v : World). KeepsWholeWorld c.self.inside.world v) (sym c.make_room.ensures) (kept_whole c.self.inside.world c.self.invariant.2)))

pub returns-then-is_err-clause-asked : goal.returns-then-is_err-clause-asked
returns-then-is_err-clause-asked c =
    rw (← c.self.view_is) (λ _. ap (λ (v : World). record { world = v; bounds = bounds_of c.self.inside.limits; ended = c.self.inside.ended }) c.make_room.ensures)

pub returns-then-is_err-clause-all_or_nothing : goal.returns-then-is_err-clause-all_or_nothing
returns-then-is_err-clause-all_or_nothing c =
    rw (← c.self.view_is)
    (λ _. as_before-world c.self.inside.world c.make_room.new.world (bounds_of c.self.inside.limits) c.self.inside.ended (as_it_was-same c.self.inside.world c.make_room.new.world c.make_room.ensures))

pub returns-then-is_err-clause-unchanged : goal.returns-then-is_err-clause-unchanged
returns-then-is_err-clause-unchanged c =
    rw (← c.self.view_is) (λ _ _. ap (λ (v : World). record { world = v; bounds = bounds_of c.self.inside.limits; ended = c.self.inside.ended }) c.make_room.ensures)

pub returns-then-stays_open-clause-unchanged : goal.returns-then-stays_open-clause-unchanged
returns-then-stays_open-clause-unchanged c ending = absurd (cc ending)
