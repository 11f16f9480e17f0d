-- Each step is the world's, and leads to a world that is shown.
use Rattle.std.proofs.Common.{◌≡◌, true, false, arith, refl, sym, subst, ◌∙◌}
use Rattle.std.proofs.lemmas.Bool.{false≢true}
use Rattle.std.proofs.lemmas.List.{length-set}
use Rattle.dom_model.specs.Definitions.{is_refusal}
use Rattle.dom_commands.specs.{declared.brief.Brief.Brief, Brief.reply_of, Views.reply_view}
use Rattle.dom_session.proofs.IsStepLemmas.{IsShown-step}
use Rattle.dom_session.proofs.StepsInTurnLemmas.{stepping-first, stepping-next, made-refused, made-ended, made-full, any_bounds}
use Rattle.dom_session.specs.StepsInTurn.{found_node, last_view}
use Rattle.dom_session.proofs.steps.make_steps.Goals as goal

pub loop-count-init : goal.loop-count-init
loop-count-init g c = record {
  shown = c.requires;
  held = sym c.is_held.ensures.held ∙ c.if-not-is_held.false;
  within = omega arith;
  found = λ x e. absurd (cc e);
  stepping = λ b w s. stepping-first b (g.S.Steps.command_of c.args.steps) w c.args.into.now c.args.world.now s;
}

pub loop-count-preserved : goal.loop-count-preserved
loop-count-preserved g c =
    let l = c.loop-count in
    let cmd = g.S.Steps.command_of c.args.steps in
    let r = reply_of (found_node c.step-found.result) in
    record {
      shown = IsShown-step l.world c.step-found.new.world any_bounds cmd r l.invariant.shown (c.step-found.ensures.step any_bounds);
      held = c.step-found.ensures.held;
      within = rw (length-set l.into l.count c.in-Some.node) (omega (arith, c.loop-count-test.true));
      found = λ x e.
          let same : found_node c.step-found.result ≡ x = cc e in
          subst (λ (q : Brief). is_refusal (reply_view (reply_of q)) ≡ false) same refl;
      stepping = λ b w s. stepping-next b cmd w c.args.into.now l.world l.into l.count (last_view l.last) (l.invariant.stepping b w s) c.step-found.new.world r c.in-Some.node (c.step-found.ensures.step b) c.in-Some.is c.loop-count-test.true;
    }

pub returns-then-not-is_held-clause-made : goal.returns-then-not-is_held-clause-made
returns-then-not-is_held-clause-made g c b w s =
    made-refused b (g.S.Steps.command_of c.args.steps) w c.args.into.now c.args.world.now s (c.is_held.ensures.none c.if-not-is_held.true b)

pub returns-in_default-clause-made : goal.returns-in_default-clause-made
returns-in_default-clause-made g c b w s =
    let l = c.loop-count in
    made-ended b (g.S.Steps.command_of c.args.steps) w c.args.into.now l.world l.into l.count (last_view l.last) (l.invariant.stepping b w s) (c.is_held.ensures.taken c.if-not-is_held.false b w s) c.step-found.new.world (found_node c.step-found.result) (c.step-found.ensures.step b) c.in_default.is c.loop-count-test.true

pub returns-in_default-clause-refused : goal.returns-in_default-clause-refused
returns-in_default-clause-refused g c x e refused =
    let same : found_node c.step-found.result ≡ x = cc e in
    let said : false ≡ true = subst (λ (q : Brief). is_refusal (reply_view (reply_of q)) ≡ true) (sym same) refused in
    absurd (false≢true said)

pub returns-in_default-clause-shown : goal.returns-in_default-clause-shown
returns-in_default-clause-shown g c =
    let l = c.loop-count in
    IsShown-step l.world c.step-found.new.world any_bounds (g.S.Steps.command_of c.args.steps) (reply_of (found_node c.step-found.result)) l.invariant.shown (c.step-found.ensures.step any_bounds)

pub returns-clause-made : goal.returns-clause-made
returns-clause-made g c b w s =
    let l = c.loop-count in
    made-full b (g.S.Steps.command_of c.args.steps) w c.args.into.now l.world l.into l.count (last_view l.last) (l.invariant.stepping b w s) (c.is_held.ensures.taken c.if-not-is_held.false b w s) l.last refl (omega (arith, l.invariant.within, c.loop-count-test.false))

pub returns-clause-refused : goal.returns-clause-refused
returns-clause-refused g c x e refused = absurd (false≢true (sym (c.loop-count.invariant.found x e) ∙ refused))
