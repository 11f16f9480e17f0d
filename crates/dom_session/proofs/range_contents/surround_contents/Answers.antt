use Rattle.std.proofs.Common.{◌≡◌, ◌+◌, ◌*◌, nat_lt, true, false, refl, is_some}
use Rattle.dom_model.specs.Definitions.{entry_in, size, surround, check_whole_surround, SurroundContents}
use Rattle.dom_ranges.specs.Tables.{range_in}
use Rattle.dom_edit.specs.Whole.{unwatched}
use Rattle.dom_wrap.specs.Outcomes.{world_after_outcome}
use Rattle.dom_commands.specs.{declared.brief.Brief.TheVariants.Nothing, declared.reply.Reply.TheVariants.Brief}
use Rattle.dom_session.specs.{AnswerBounds.numbered}
use Rattle.dom_session.proofs.{GuardedLemmas.step-follows, GuardedLemmas.step-refused, ContentsAnswers.room-surround, ContentsAnswers.answer-surround, ContentsAnswers.refused-surround, KeepsWholeWorldLemmas.kept_labels}
use Rattle.dom_session.proofs.range_contents.surround_contents.Goals as goal
use Rattle.dom_data.proofs.ResultLemmas.{on_err}

pub surround-requires-clause-room : goal.surround-requires-clause-room
surround-requires-clause-room c =
    let v = c.args.world.now in
    let room : nat_lt c.args.numbers (v.tree.made + (2 * size v.tree.forest + 8)) ≡ false = cc in
    room-surround v c.args.numbers c.requires.numbers room c.args.range c.args.node

pub returns-in-Ok : goal.returns-in-Ok
returns-in-Ok c =
    let v = c.args.world.now in
    let r = c.args.range in
    let n = c.args.node in
    let live : is_some (range_in v.ranges r) ≡ true = cc in
    let held : is_some (entry_in v.tree.forest n) ≡ true = cc in
    let room : nat_lt c.args.numbers (v.tree.made + (2 * size v.tree.forest + 8)) ≡ false = cc in
    record {
      step = step-follows (numbered c.args.numbers) (SurroundContents r n) (Brief Nothing) v c.surround.new.world (λ w. world_after_outcome (surround r n w) w) refl
          (λ w shown. answer-surround v (numbered c.args.numbers) w shown r n live held room c.in-Ok.ensures.allowed)
          c.in-Ok.ensures.surrounded c.surround.ensures.whole;
      left = tt;
    }

pub returns-in-Err : goal.returns-in-Err
returns-in-Err c =
    let v = c.args.world.now in
    let r = c.args.range in
    let n = c.args.node in
    let live : is_some (range_in v.ranges r) ≡ true = cc in
    let held : is_some (entry_in v.tree.forest n) ≡ true = cc in
    let room : nat_lt c.args.numbers (v.tree.made + (2 * size v.tree.forest + 8)) ≡ false = cc in
    record {
      step = step-refused v c.surround.new.world (SurroundContents r n) c.in-Err.refusal (check_whole_surround r n (unwatched v)) c.reply_to.result c.reply_to.ensures c.in-Err.ensures.refused (numbered c.args.numbers)
          (λ e named w shown. refused-surround v (numbered c.args.numbers) w shown r n live held e room named);
      left = on_err c.reply_to.result (kept_labels v c.surround.new.world c.surround.ensures.kept c.surround.ensures.whole);
    }
