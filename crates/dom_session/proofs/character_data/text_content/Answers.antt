use Rattle.std.proofs.Common.{◌≡◌, true, is_some}
use Rattle.dom_model.specs.Definitions.{entry_in, TextContent}
use Rattle.dom_commands.specs.{declared.reply.Answer.TheVariants.MaybeUnits, declared.reply.Reply.TheVariants.Done}
use Rattle.dom_session.proofs.{GuardedLemmas.step-stays, NodeData.answer-text_content}
use Rattle.dom_session.proofs.character_data.text_content.Goals as goal

pub returns : goal.returns
returns c b =
    let v = c.args.world.now in
    let held : is_some (entry_in v.tree.forest c.args.node) ≡ true = cc in
    step-stays b (TextContent c.args.node) (Done (MaybeUnits c.in_ok-text.text)) v
    (λ w shown. answer-text_content v b w shown c.args.node c.in_ok-text.text held c.in_ok-text.ensures)
