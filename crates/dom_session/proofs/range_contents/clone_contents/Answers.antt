use Rattle.std.proofs.Common.{◌≡◌, ◌+◌, ◌*◌, nat_lt, true, false, Some, None, refl, ◌∙◌, is_some}
use Rattle.dom_model.specs.Definitions.{size, check_extract, clone_contents, CloneContents}
use Rattle.dom_ranges.specs.Tables.{range_in}
use Rattle.dom_edit.specs.Whole.{unwatched}
use Rattle.dom_commands.specs.{declared.brief.Brief.TheVariants.Number, declared.reply.Reply.TheVariants.Brief}
use Rattle.dom_session.specs.{AnswerBounds.numbered}
use Rattle.dom_session.proofs.{GuardedLemmas.step-follows, GuardedLemmas.step-refused, ContentsAnswers.room-clone_contents, ContentsAnswers.answer-clone_contents, KeepsWholeWorldLemmas.kept_labels}
use Rattle.dom_session.proofs.range_contents.clone_contents.Goals as goal
use Rattle.dom_data.proofs.ResultLemmas.{on_err}

pub clone_contents-requires-clause-room : goal.clone_contents-requires-clause-room
clone_contents-requires-clause-room c =
    let v = c.args.world.now in
    let room : nat_lt c.args.numbers (v.tree.made + (2 * size v.tree.forest + 8)) ≡ false = cc in
    λ _. room-clone_contents v c.args.numbers c.requires.numbers room c.args.range c.requires.shown.shows.whole

pub returns-in-Ok : goal.returns-in-Ok
returns-in-Ok c =
    let v = c.args.world.now in
    let live : is_some (range_in v.ranges c.args.range) ≡ true = cc in
    let room : nat_lt c.args.numbers (v.tree.made + (2 * size v.tree.forest + 8)) ≡ false = cc in
    record {
      step = rw (c.number.ensures ∙ c.in-Ok.ensures.number) (step-follows (numbered c.args.numbers) (CloneContents c.args.range) (Brief (Number v.tree.made)) v c.clone_contents.new.world (clone_contents c.args.range) refl
          (λ w shown. answer-clone_contents v (numbered c.args.numbers) w shown c.args.range live room None c.in-Ok.ensures.allowed)
          c.in-Ok.ensures.cloned c.clone_contents.ensures.whole);
      left = tt;
    }

pub returns-in-Err : goal.returns-in-Err
returns-in-Err c =
    let v = c.args.world.now in
    let live : is_some (range_in v.ranges c.args.range) ≡ true = cc in
    let room : nat_lt c.args.numbers (v.tree.made + (2 * size v.tree.forest + 8)) ≡ false = cc in
    record {
      step = step-refused v c.clone_contents.new.world (CloneContents c.args.range) c.in-Err.refusal (check_extract c.args.range (unwatched v)) c.reply_to.result c.reply_to.ensures c.in-Err.ensures.refused (numbered c.args.numbers)
          (λ e named w shown. answer-clone_contents v (numbered c.args.numbers) w shown c.args.range live room (Some e) named);
      left = on_err c.reply_to.result (kept_labels v c.clone_contents.new.world c.clone_contents.ensures.kept c.clone_contents.ensures.whole);
    }
