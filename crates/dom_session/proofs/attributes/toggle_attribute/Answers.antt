use Rattle.std.proofs.Common.{◌≡◌, true, refl, sym, string_bytes, [], ◌∷◌}
use Rattle.dom_model.specs.Definitions.{is_attribute_name, toggle_attribute, has_attribute, is_toggled_on, ToggleAttribute, is_kind, bad_name}
use Rattle.dom_model.specs.declared.Kind.TheVariants.{Element}
use Rattle.dom_commands.specs.{declared.reply.Answer.TheVariants.Flag, declared.reply.Reply.TheVariants.Done}
use Rattle.dom_session.proofs.{GuardedLemmas.step-follows, NodeData.answer-toggle_attribute, OtherKinds.step-other_kind}
use Rattle.dom_model.specs.Commands.Reply as model_reply
use Rattle.dom_session.proofs.attributes.toggle_attribute.Goals as goal

pub returns : goal.returns
returns c =
    let v = c.args.world.now in
    let name = string_bytes c.args.name in
    let valid : is_attribute_name name ≡ true = cc in
    record {
      step = λ b. step-follows b (ToggleAttribute c.args.element name c.args.force) (Done (Flag c.in_ok-present.present)) v c.toggle_attribute.new.world (toggle_attribute c.args.element name c.args.force) refl
          (λ w shown. answer-toggle_attribute v b w shown c.args.element name c.args.force c.in_ok-present.present (sym c.in_default.ensures) valid c.in_ok-present.ensures.answer)
          c.in_ok-present.ensures.toggled c.toggle_attribute.ensures.whole;
      left = tt;
      unchanged = tt;
    }

pub returns-in-Some-clause-step : goal.returns-in-Some-clause-step
returns-in-Some-clause-step c b =
    step-other_kind c.args.world.now b (ToggleAttribute c.args.element (string_bytes c.args.name) c.args.force) (is_kind Element) c.args.element c.in-Some.reply (bad_name (is_attribute_name (string_bytes c.args.name)) ∷ [])
    (λ w. record { reply = model_reply.Done (model_reply.Flag (is_toggled_on c.args.force (has_attribute w c.args.element (string_bytes c.args.name)))); world = toggle_attribute c.args.element (string_bytes c.args.name) c.args.force w }) (λ w. refl) c.in-Some.ensures
