use Rattle.std.proofs.Common.{refl, sym, []}
use Rattle.dom_model.specs.Definitions.{remove_attribute, RemoveAttribute, is_kind, does}
use Rattle.dom_model.specs.declared.Kind.TheVariants.{Element}
use Rattle.dom_commands.specs.{declared.brief.Brief.TheVariants.Nothing, declared.reply.Reply.TheVariants.Brief}
use Rattle.dom_session.proofs.{GuardedLemmas.step-follows, NodeData.answer-remove_attribute, OtherKinds.step-other_kind}
use Rattle.dom_session.proofs.attributes.remove_attribute.Goals as goal

pub returns : goal.returns
returns c =
    let v = c.args.world.now in
    record {
      step = λ b. step-follows b (RemoveAttribute c.args.element c.args.name.now) (Brief Nothing) v c.remove_attribute.new.world (remove_attribute c.args.element c.args.name.now) refl
          (λ w shown. answer-remove_attribute v b w shown c.args.element c.args.name.now (sym c.in_default.ensures))
          c.in_ok-remove_attribute.ensures.removed c.remove_attribute.ensures.whole;
      left = tt;
      unchanged = tt;
    }

pub returns-in-Some-clause-step : goal.returns-in-Some-clause-step
returns-in-Some-clause-step c b =
    step-other_kind c.args.world.now b (RemoveAttribute c.args.element c.args.name.now) (is_kind Element) c.args.element c.in-Some.reply []
    (λ w. does (remove_attribute c.args.element c.args.name.now w)) (λ w. refl) c.in-Some.ensures
