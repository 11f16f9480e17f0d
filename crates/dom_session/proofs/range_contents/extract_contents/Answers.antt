use Rattle.std.proofs.Common.{◌≡◌, ◌+◌, ◌*◌, nat_lt, true, false, Some, None, refl, ◌∙◌, is_some}
use Rattle.dom_model.specs.Definitions.{size, check_extract, extract, ExtractContents}
use Rattle.dom_ranges.specs.Tables.{range_in}
use Rattle.dom_edit.specs.Whole.{unwatched}
use Rattle.dom_commands.specs.{declared.brief.Brief.TheVariants.Number, declared.reply.Reply.TheVariants.Brief}
use Rattle.dom_session.specs.{AnswerBounds.numbered}
use Rattle.dom_session.proofs.{GuardedLemmas.step-follows, GuardedLemmas.step-refused, ContentsAnswers.room-extract, ContentsAnswers.answer-extract_contents, KeepsWholeWorldLemmas.kept_labels}
use Rattle.dom_session.proofs.range_contents.extract_contents.Goals as goal
use Rattle.dom_data.proofs.ResultLemmas.{on_err}

pub extract-requires-clause-room : goal.extract-requires-clause-room
extract-requires-clause-room c =
    let v = c.args.world.now in
    let room : nat_lt c.args.numbers (v.tree.made + (2 * size v.tree.forest + 8)) ≡ false = cc in
    λ _. room-extract v c.args.numbers c.requires.numbers room c.args.range

pub returns-in-Ok : goal.returns-in-Ok
returns-in-Ok c =
    let v = c.args.world.now in
    let live : is_some (range_in v.ranges c.args.range) ≡ true = cc in
    let room : nat_lt c.args.numbers (v.tree.made + (2 * size v.tree.forest + 8)) ≡ false = cc in
    record {
      step = rw (c.number.ensures ∙ c.in-Ok.ensures.extracted.number) (step-follows (numbered c.args.numbers) (ExtractContents c.args.range) (Brief (Number v.tree.made)) v c.extract.new.world (extract c.args.range) refl
          (λ w shown. answer-extract_contents v (numbered c.args.numbers) w shown c.args.range live room None c.in-Ok.ensures.allowed)
          c.in-Ok.ensures.extracted.extracted c.extract.ensures.whole);
      left = tt;
    }

pub returns-in-Err : goal.returns-in-Err
returns-in-Err c =
    let v = c.args.world.now in
    let live : is_some (range_in v.ranges c.args.range) ≡ true = cc in
    let room : nat_lt c.args.numbers (v.tree.made + (2 * size v.tree.forest + 8)) ≡ false = cc in
    record {
      step = step-refused v c.extract.new.world (ExtractContents c.args.range) c.in-Err.refusal (check_extract c.args.range (unwatched v)) c.reply_to.result c.reply_to.ensures c.in-Err.ensures.refused (numbered c.args.numbers)
          (λ e named w shown. answer-extract_contents v (numbered c.args.numbers) w shown c.args.range live room (Some e) named);
      left = on_err c.reply_to.result (kept_labels v c.extract.new.world c.extract.ensures.kept c.extract.ensures.whole);
    }
