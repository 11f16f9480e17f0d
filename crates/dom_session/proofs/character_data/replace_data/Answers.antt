use Rattle.std.proofs.Common.{refl, sym, Some, None, []}
use Rattle.dom_model.specs.Definitions.{check_offset, replace_data, ReplaceData, is_character_data, does, checked}
use Rattle.dom_edit.specs.Whole.{unwatched}
use Rattle.dom_commands.specs.{declared.brief.Brief.TheVariants.Nothing, declared.reply.Reply.TheVariants.Brief}
use Rattle.dom_session.proofs.{GuardedLemmas.step-follows, GuardedLemmas.steps-refused, NodeData.answer-replace_data, KeepsWholeWorldLemmas.kept_numbers, OtherKinds.step-other_kind}
use Rattle.dom_session.proofs.character_data.replace_data.Goals as goal
use Rattle.dom_data.proofs.ResultLemmas.{on_err}

pub returns-in-Ok : goal.returns-in-Ok
returns-in-Ok c =
    let v = c.args.world.now in
    record {
      step = λ b. step-follows b (ReplaceData c.args.node c.args.offset c.args.count c.args.text.now) (Brief Nothing) v c.replace_data.new.world (replace_data c.args.node c.args.offset c.args.count c.args.text.now) refl
          (λ w shown. answer-replace_data v b w shown c.args.node c.args.offset c.args.count c.args.text.now None (sym c.in_default.ensures) c.in-Ok.ensures.allowed)
          c.in-Ok.ensures.replaced c.replace_data.ensures.whole;
      left = tt;
      unchanged = tt;
    }

pub returns-in-Err : goal.returns-in-Err
returns-in-Err c =
    let v = c.args.world.now in
    let n = c.args.node in
    record {
      step = steps-refused v c.replace_data.new.world (ReplaceData n c.args.offset c.args.count c.args.text.now) c.in-Err.refusal (check_offset (unwatched v) n c.args.offset) c.reply_to.result c.reply_to.ensures c.in-Err.ensures.refused
          (λ b e named w shown. answer-replace_data v b w shown n c.args.offset c.args.count c.args.text.now (Some e) (sym c.in_default.ensures) named);
      left = on_err c.reply_to.result (kept_numbers v c.replace_data.new.world c.replace_data.ensures.kept c.replace_data.ensures.whole);
      unchanged = on_err c.reply_to.result c.in-Err.ensures.unchanged;
    }

pub returns-in-Some-clause-step : goal.returns-in-Some-clause-step
returns-in-Some-clause-step c b =
    step-other_kind c.args.world.now b (ReplaceData c.args.node c.args.offset c.args.count c.args.text.now) is_character_data c.args.node c.in-Some.reply []
    (λ w. checked (check_offset w c.args.node c.args.offset) w (does (replace_data c.args.node c.args.offset c.args.count c.args.text.now w))) (λ w. refl) c.in-Some.ensures
