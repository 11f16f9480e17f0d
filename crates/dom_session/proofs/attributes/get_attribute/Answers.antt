use Rattle.std.proofs.Common.{sym, refl, []}
use Rattle.dom_model.specs.Definitions.{GetAttribute, is_kind, answers, content_in, entry_in, attribute_value}
use Rattle.dom_model.specs.declared.Kind.TheVariants.{Element}
use Rattle.dom_commands.specs.{declared.reply.Answer.TheVariants.MaybeUnits, declared.reply.Reply.TheVariants.Done}
use Rattle.dom_session.proofs.{GuardedLemmas.step-stays, NodeData.answer-get_attribute, OtherKinds.step-other_kind}
use Rattle.dom_model.specs.Commands.Reply as model_reply
use Rattle.dom_session.proofs.attributes.get_attribute.Goals as goal

pub returns : goal.returns
returns c b =
    let v = c.args.world.now in
    step-stays b (GetAttribute c.args.element c.args.name.now) (Done (MaybeUnits c.in_ok-value.value)) v
    (λ w shown. answer-get_attribute v b w shown c.args.element c.args.name.now c.in_ok-value.value (sym c.in_default.ensures) c.in_ok-value.ensures)

pub returns-in-Some : goal.returns-in-Some
returns-in-Some c b =
    step-other_kind c.args.world.now b (GetAttribute c.args.element c.args.name.now) (is_kind Element) c.args.element c.in-Some.reply []
    (λ w. answers (model_reply.MaybeUnits (attribute_value c.args.name.now (content_in (entry_in w.forest c.args.element)).attributes)) w) (λ w. refl) c.in-Some.ensures
