use Rattle.std.proofs.Common.{◌≡◌, Bool, ap, sym, ◌∙◌, refl, [], ◌∷◌}
use Rattle.dom_model.specs.Definitions.{HasAttribute, Step, is_kind, no_node, wrong_kind, answers, has_attribute}
use Rattle.dom_model.specs.declared.Kind.TheVariants.{Element}
use Rattle.dom_edit.specs.Whole.{unwatched}
use Rattle.dom_commands.specs.{declared.reply.Answer.TheVariants.Flag, declared.reply.Reply.TheVariants.Done, Views.reply_view}
use Rattle.dom_session.proofs.{GuardedLemmas.step-stays, GuardedLemmas.guarded-none, GuardedLemmas.guarded-some, NodeData.answer-has_attribute, OtherKinds.step-other_kind}
use Rattle.dom_model.specs.Commands.Reply as model_reply
use Rattle.dom_session.proofs.attributes.has_attribute.Goals as goal

pub returns-clause-step : goal.returns-clause-step
returns-clause-step c b =
    let v = c.args.world.now in
    step-stays b (HasAttribute c.args.element c.args.name.now) (Done (Flag c.has_in.result)) v
    (λ w shown. answer-has_attribute v b w shown c.args.element c.args.name.now c.has_in.result (sym c.in_default.ensures) c.has_in.ensures)

pub returns-clause-own : goal.returns-clause-own
returns-clause-own c b =
    let w = unwatched c.args.world.now in
    let e = c.args.element in
    let s : Step = answers (model_reply.Flag (has_attribute w e c.args.name.now)) w in
    sym (ap (λ (t : Step). t.reply) (guarded-none (no_node e w ∷ wrong_kind (is_kind Element) e w ∷ []) [] w s (sym c.in_default.ensures))
    ∙ ap (λ (x : Bool). model_reply.Done (model_reply.Flag x)) (sym c.has_in.ensures))

pub returns-in-Some-clause-step : goal.returns-in-Some-clause-step
returns-in-Some-clause-step c b =
    step-other_kind c.args.world.now b (HasAttribute c.args.element c.args.name.now) (is_kind Element) c.args.element c.in-Some.reply []
    (λ w. answers (model_reply.Flag (has_attribute w c.args.element c.args.name.now)) w) (λ w. refl) c.in-Some.ensures

pub returns-in-Some-clause-own : goal.returns-in-Some-clause-own
returns-in-Some-clause-own c b =
    let w = unwatched c.args.world.now in
    let e = c.args.element in
    let s : Step = answers (model_reply.Flag (has_attribute w e c.args.name.now)) w in
    sym (ap (λ (t : Step). t.reply) (guarded-some (no_node e w ∷ wrong_kind (is_kind Element) e w ∷ []) [] w s (reply_view c.in-Some.reply) (sym c.in-Some.ensures)))
