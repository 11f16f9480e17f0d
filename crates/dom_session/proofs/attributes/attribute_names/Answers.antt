use Rattle.std.proofs.Common.{sym, map, string_bytes, ap, ◌∙◌, refl, []}
use Rattle.dom_model.specs.Definitions.{attribute_names, Content, AttributeNames, is_kind, answers, content_in, entry_in}
use Rattle.dom_model.specs.declared.Kind.TheVariants.{Element}
use Rattle.dom_commands.specs.{declared.reply.Answer.TheVariants.Names, declared.reply.Reply.TheVariants.Done}
use Rattle.dom_session.proofs.{GuardedLemmas.step-stays, NodeData.answer-attribute_names, OtherKinds.step-other_kind}
use Rattle.dom_model.specs.Commands.Reply as model_reply
use Rattle.dom_session.proofs.attributes.attribute_names.Goals as goal

pub returns : goal.returns
returns c b =
    let v = c.args.world.now in
    step-stays b (AttributeNames c.args.element) (Done (Names c.in_ok-names.names)) v
    (λ w shown. answer-attribute_names v b w shown c.args.element (map string_bytes c.in_ok-names.names.items) (sym c.in_default.ensures) (c.in_ok-names.ensures ∙ ap (λ (b : Content). attribute_names b.attributes) c.content_in.ensures))

pub returns-in-Some : goal.returns-in-Some
returns-in-Some c b =
    step-other_kind c.args.world.now b (AttributeNames c.args.element) (is_kind Element) c.args.element c.in-Some.reply []
    (λ w. answers (model_reply.Names (attribute_names (content_in (entry_in w.forest c.args.element)).attributes)) w) (λ w. refl) c.in-Some.ensures
