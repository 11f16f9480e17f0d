use Rattle.std.proofs.Common.{◌≡◌, true, refl, is_some}
use Rattle.dom_model.specs.Definitions.{delete_contents, DeleteContents}
use Rattle.dom_ranges.specs.Tables.{range_in}
use Rattle.dom_commands.specs.{declared.brief.Brief.TheVariants.Nothing, declared.reply.Reply.TheVariants.Brief}
use Rattle.dom_session.proofs.{GuardedLemmas.step-follows, ContentsAnswers.answer-delete_contents}
use Rattle.dom_session.proofs.range_contents.delete_contents.Goals as goal

pub returns : goal.returns
returns c =
    let v = c.args.world.now in
    let live : is_some (range_in v.ranges c.args.range) ≡ true = cc in
    record {
      step = λ b. step-follows b (DeleteContents c.args.range) (Brief Nothing) v c.delete_contents.new.world (delete_contents c.args.range) refl
          (λ w shown. answer-delete_contents v b w shown c.args.range live)
          c.in_ok-delete_contents.ensures.deleted c.delete_contents.ensures.whole;
      left = tt;
    }
