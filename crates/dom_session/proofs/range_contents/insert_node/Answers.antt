use Rattle.std.proofs.Common.{◌≡◌, ◌+◌, ◌<◌, nat_lt, true, false, refl, arith, is_some}
use Rattle.std.proofs.lemmas.Bool.Decides.{nat_tests}
use Rattle.dom_model.specs.Definitions.{entry_in, insert_node, refusal_in, InsertNode}
use Rattle.dom_ranges.specs.Tables.{range_in}
use Rattle.dom_edit.specs.Whole.{unwatched}
use Rattle.dom_wrap.specs.Outcomes.{world_after_outcome}
use Rattle.dom_commands.specs.{declared.brief.Brief.TheVariants.Nothing, declared.reply.Reply.TheVariants.Brief}
use Rattle.dom_session.specs.{AnswerBounds.numbered}
use Rattle.dom_session.proofs.{GuardedLemmas.step-follows, GuardedLemmas.step-refused, ContentsAnswers.answer-insert_node, ContentsAnswers.refused-insert_node, KeepsWholeWorldLemmas.kept_labels}
use Rattle.dom_session.proofs.range_contents.insert_node.Goals as goal
use Rattle.dom_data.proofs.ResultLemmas.{on_err}

pub returns-in-Ok : goal.returns-in-Ok
returns-in-Ok c =
    let v = c.args.world.now in
    let r = c.args.range in
    let n = c.args.node in
    let live : is_some (range_in v.ranges r) ≡ true = cc in
    let held : is_some (entry_in v.tree.forest n) ≡ true = cc in
    let room : nat_lt c.args.numbers (v.tree.made + 1) ≡ false = grind (arith, nat_tests) in
    record {
      step = step-follows (numbered c.args.numbers) (InsertNode r n) (Brief Nothing) v c.insert_node.new.world (λ w. world_after_outcome (insert_node r n w) w) refl
          (λ w shown. answer-insert_node v (numbered c.args.numbers) w shown r n live held room c.in-Ok.ensures.allowed)
          c.in-Ok.ensures.inserted c.insert_node.ensures.whole;
      left = tt;
    }

pub returns-in-Err : goal.returns-in-Err
returns-in-Err c =
    let v = c.args.world.now in
    let r = c.args.range in
    let n = c.args.node in
    let live : is_some (range_in v.ranges r) ≡ true = cc in
    let held : is_some (entry_in v.tree.forest n) ≡ true = cc in
    let room : nat_lt c.args.numbers (v.tree.made + 1) ≡ false = grind (arith, nat_tests) in
    record {
      step = step-refused v c.insert_node.new.world (InsertNode r n) c.in-Err.refusal (refusal_in (insert_node r n (unwatched v))) c.reply_to.result c.reply_to.ensures c.in-Err.ensures.refused (numbered c.args.numbers)
          (λ e named w shown. refused-insert_node v (numbered c.args.numbers) w shown r n live held e room named);
      left = on_err c.reply_to.result (kept_labels v c.insert_node.new.world c.insert_node.ensures.kept c.insert_node.ensures.whole);
    }

pub insert_node-requires-clause-room : goal.insert_node-requires-clause-room
insert_node-requires-clause-room c =
    let room : c.args.world.now.tree.made < 4294967295 = grind (arith, nat_tests) in
    λ _. λ range e text. room
