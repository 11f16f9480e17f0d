use Rattle.std.proofs.Common.{refl, sym}
use Rattle.dom_model.specs.Definitions.{set_data, SetData}
use Rattle.dom_commands.specs.{declared.brief.Brief.TheVariants.Nothing, declared.reply.Reply.TheVariants.Brief}
use Rattle.dom_session.proofs.{GuardedLemmas.step-follows, NodeData.answer-set_data}
use Rattle.dom_session.proofs.character_data.set_data.Goals as goal

pub returns : goal.returns
returns c =
    let v = c.args.world.now in
    record {
      step = λ b. step-follows b (SetData c.args.node c.args.text.now) (Brief Nothing) v c.set_data.new.world (set_data c.args.node c.args.text.now) refl
          (λ w shown. answer-set_data v b w shown c.args.node c.args.text.now (sym c.in_default.ensures))
          c.in_ok-set_data.ensures.set c.set_data.ensures.whole;
      left = tt;
      unchanged = tt;
    }
