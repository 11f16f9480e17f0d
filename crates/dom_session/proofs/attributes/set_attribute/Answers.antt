use Rattle.std.proofs.Common.{◌≡◌, true, refl, sym, string_bytes, [], ◌∷◌}
use Rattle.dom_model.specs.Definitions.{is_attribute_name, set_attribute, SetAttribute, is_kind, bad_name, does}
use Rattle.dom_model.specs.declared.Kind.TheVariants.{Element}
use Rattle.dom_commands.specs.{declared.brief.Brief.TheVariants.Nothing, declared.reply.Reply.TheVariants.Brief}
use Rattle.dom_session.proofs.{GuardedLemmas.step-follows, NodeData.answer-set_attribute, OtherKinds.step-other_kind}
use Rattle.dom_session.proofs.attributes.set_attribute.Goals as goal

pub returns : goal.returns
returns c =
    let v = c.args.world.now in
    let name = string_bytes c.args.name in
    let valid : is_attribute_name name ≡ true = cc in
    record {
      step = λ b. step-follows b (SetAttribute c.args.element name c.args.value) (Brief Nothing) v c.set_attribute.new.world (set_attribute c.args.element name c.args.value) refl
          (λ w shown. answer-set_attribute v b w shown c.args.element name c.args.value (sym c.in_default.ensures) valid)
          c.in_ok-set_attribute.ensures.set c.set_attribute.ensures.whole;
      left = tt;
      unchanged = tt;
    }

pub returns-in-Some-clause-step : goal.returns-in-Some-clause-step
returns-in-Some-clause-step c b =
    step-other_kind c.args.world.now b (SetAttribute c.args.element (string_bytes c.args.name) c.args.value) (is_kind Element) c.args.element c.in-Some.reply (bad_name (is_attribute_name (string_bytes c.args.name)) ∷ [])
    (λ w. does (set_attribute c.args.element (string_bytes c.args.name) c.args.value w)) (λ w. refl) c.in-Some.ensures
