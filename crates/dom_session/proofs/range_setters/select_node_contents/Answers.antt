use Rattle.std.proofs.Common.{◌≡◌, true, Some, refl, sym, ◌∙◌, is_some, slice_set}
use Rattle.dom_model.specs.Definitions.{entry_in, unit_count, contents_of, check_contents, SelectNodeContents}
use Rattle.dom_ranges.specs.Tables.{range_in}
use Rattle.dom_commands.specs.{declared.brief.Brief.TheVariants.Nothing, declared.brief.Brief.TheVariants.Dom, declared.reply.Reply.TheVariants.Brief}
use Rattle.dom_session.proofs.{RangeTableLemmas.step-ranges, RangeTableLemmas.step-refused, RangeFacts.node-covered, RangeAnswers.passed, RangeAnswers.told, RangeAnswers.answer-select_node_contents, RangeAnswers.refusal-select_node_contents}
use Rattle.dom_session.proofs.range_setters.select_node_contents.Goals as goal

pub select_contents-requires-clause-covered : goal.select_contents-requires-clause-covered
select_contents-requires-clause-covered c = node-covered c.args.world.now c.requires.shown.shows.whole c.args.node cc

pub returns-in-Ok : goal.returns-in-Ok
returns-in-Ok c =
    let old = c.args.world.now in
    let f = old.tree.forest in
    let r = c.args.range in
    let n = c.args.node in
    let live : is_some (range_in old.ranges r) ≡ true = cc in
    let there : is_some (entry_in f n) ≡ true = cc in
    let check = passed (check_contents f n) c.in-Ok.field-0 (sym c.in-Ok.is ∙ c.select_contents.ensures.refusal) in
    record {
      step = λ b. step-ranges b (SelectNodeContents r n) (Brief Nothing) old c.select_contents.new.self (slice_set old.ranges.ranges r (Some (contents_of unit_count f n))) refl c.requires.shown c.in-Ok.ensures.set
          (λ w shown. answer-select_node_contents old b w shown r n live there check);
    }

pub returns-in-Err : goal.returns-in-Err
returns-in-Err c =
    let old = c.args.world.now in
    let f = old.tree.forest in
    let r = c.args.range in
    let n = c.args.node in
    let live : is_some (range_in old.ranges r) ≡ true = cc in
    let there : is_some (entry_in f n) ≡ true = cc in
    let check = told (check_contents f n) c.in-Err.error (sym c.in-Err.is ∙ c.select_contents.ensures.refusal) in
    record {
      step = λ b. step-refused b (SelectNodeContents r n) (Brief (Dom c.in-Err.error)) old c.select_contents.new.self c.in-Err.ensures.unchanged
          (λ w shown. refusal-select_node_contents old b w shown r n live there c.in-Err.error check);
    }
