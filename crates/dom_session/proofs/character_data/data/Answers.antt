use Rattle.std.proofs.Common.{sym, ◌∙◌}
use Rattle.dom_model.specs.Definitions.{GetData}
use Rattle.dom_commands.specs.{declared.reply.Answer.TheVariants.Units, declared.reply.Reply.TheVariants.Done}
use Rattle.dom_session.proofs.{GuardedLemmas.step-stays, NodeData.answer-data}
use Rattle.dom_session.proofs.character_data.data.Goals as goal

pub returns : goal.returns
returns c b =
    let v = c.args.world.now in
    step-stays b (GetData c.args.node) (Done (Units c.in_ok-text.text)) v
    (λ w shown. answer-data v b w shown c.args.node c.in_ok-text.text (sym c.in_default.ensures) (c.in_ok-text.ensures ∙ c.data_in.ensures))
