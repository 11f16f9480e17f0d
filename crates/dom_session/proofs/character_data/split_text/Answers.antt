use Rattle.std.proofs.Common.{◌≡◌, ◌+◌, nat_lt, false, Some, None, refl, sym, ◌∙◌, arith}
use Rattle.std.proofs.lemmas.Bool.Decides.{nat_tests}
use Rattle.dom_model.specs.Definitions.{check_offset, split, SplitText}
use Rattle.dom_edit.specs.Whole.{unwatched}
use Rattle.dom_commands.specs.{declared.brief.Brief.TheVariants.Number, declared.reply.Reply.TheVariants.Brief, Views.reply_view}
use Rattle.dom_session.specs.{AnswerBounds.numbered}
use Rattle.dom_session.proofs.{GuardedLemmas.step-follows, GuardedLemmas.step-stays, GuardedLemmas.step-refused, NodeData.answer-split_text, NodeData.refused-split_text, KeepsWholeWorldLemmas.kept_labels}
use Rattle.dom_session.proofs.character_data.split_text.Goals as goal
use Rattle.dom_data.proofs.ResultLemmas.{on_err}

pub returns-in-Ok : goal.returns-in-Ok
returns-in-Ok c =
    let v = c.args.world.now in
    let room : nat_lt c.args.numbers (v.tree.made + 1) ≡ false = grind (arith, nat_tests) in
    record {
      step = rw (c.number.ensures ∙ c.in-Ok.ensures.number) (step-follows (numbered c.args.numbers) (SplitText c.args.text c.args.offset) (Brief (Number v.tree.made)) v c.split.new.world (split c.args.text c.args.offset) refl
          (λ w shown. answer-split_text v (numbered c.args.numbers) w shown c.args.text c.args.offset None (sym c.in_default.ensures) room c.in-Ok.ensures.allowed)
          c.in-Ok.ensures.split c.split.ensures.whole);
      left = tt;
    }

pub returns-in-Err : goal.returns-in-Err
returns-in-Err c =
    let v = c.args.world.now in
    let n = c.args.text in
    let room : nat_lt c.args.numbers (v.tree.made + 1) ≡ false = grind (arith, nat_tests) in
    record {
      step = step-refused v c.split.new.world (SplitText n c.args.offset) c.in-Err.refusal (check_offset (unwatched v) n c.args.offset) c.reply_to.result c.reply_to.ensures c.in-Err.ensures.refused (numbered c.args.numbers)
          (λ e named w shown. answer-split_text v (numbered c.args.numbers) w shown n c.args.offset (Some e) (sym c.in_default.ensures) room named);
      left = on_err c.reply_to.result (kept_labels v c.split.new.world c.split.ensures.kept c.split.ensures.whole);
    }

pub returns-in-Some : goal.returns-in-Some
returns-in-Some c =
    let v = c.args.world.now in
    record {
      step = step-stays (numbered c.args.numbers) (SplitText c.args.text c.args.offset) c.in-Some.reply v
          (λ w shown. refused-split_text v (numbered c.args.numbers) w shown c.args.text c.args.offset (reply_view c.in-Some.reply) (sym c.in-Some.ensures));
      left = tt;
    }
