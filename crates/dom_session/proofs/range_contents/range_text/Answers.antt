use Rattle.std.proofs.Common.{◌≡◌, true, is_some}
use Rattle.dom_model.specs.Definitions.{RangeText}
use Rattle.dom_ranges.specs.Tables.{range_in}
use Rattle.dom_commands.specs.{declared.reply.Answer.TheVariants.Units, declared.reply.Reply.TheVariants.Done}
use Rattle.dom_session.proofs.{GuardedLemmas.step-stays, ContentsAnswers.answer-range_text}
use Rattle.dom_session.proofs.range_contents.range_text.Goals as goal

pub returns : goal.returns
returns c b =
    let v = c.args.world.now in
    let live : is_some (range_in v.ranges c.args.range) ≡ true = cc in
    step-stays b (RangeText c.args.range) (Done (Units c.in_ok-text.text)) v
    (λ w shown. answer-range_text v b w shown c.args.range c.in_ok-text.text live c.in_ok-text.ensures.text)
