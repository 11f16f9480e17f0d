use Rattle.std.proofs.Common.{◌≡◌, true, refl, sym, ◌∙◌, arith, is_some}
use Rattle.std.proofs.lemmas.Grind.{common_steps}
use Rattle.dom_model.specs.Definitions.{entry_in, unit_count, Point, end_set, check_point, SetEnd}
use Rattle.dom_ranges.specs.Tables.{range_in}
use Rattle.dom_commands.specs.{declared.brief.Brief.TheVariants.Nothing, declared.brief.Brief.TheVariants.Dom, declared.reply.Reply.TheVariants.Brief}
use Rattle.dom_session.proofs.{RangeTableLemmas.step-set, RangeTableLemmas.step-refused, RangeFacts.node-covered, RangeAnswers.passed, RangeAnswers.told, RangeAnswers.answer-set_end, RangeAnswers.refusal-set_end}
use Rattle.dom_session.proofs.range_setters.set_end.Goals as goal

pub set_end-requires-clause-covered : goal.set_end-requires-clause-covered
set_end-requires-clause-covered c = node-covered c.args.world.now c.requires.shown.shows.whole c.args.node cc

pub returns-in-Ok : goal.returns-in-Ok
returns-in-Ok c =
    let old = c.args.world.now in
    let r = c.args.range in
    let n = c.args.node in
    let p : Point = record { node = n; offset = c.args.offset } in
    let live : is_some (range_in old.ranges r) ≡ true = cc in
    let there : is_some (entry_in old.tree.forest n) ≡ true = cc in
    let check = passed (check_point unit_count old.tree.forest p) c.in-Ok.field-0 (sym c.in-Ok.is ∙ c.set_end.ensures.refusal) in
    record {
      step = λ b. rw c.set_end.ensures.kept (step-set b (SetEnd r n c.args.offset) (Brief Nothing) old c.set_end.new.self r (range_in old.ranges r) (λ range. end_set old.tree.forest p range) refl c.requires.shown live c.in-Ok.ensures.set
          (λ range held w shown. answer-set_end old b w shown r n live there c.args.offset range held check));
    }

pub returns-in-Err : goal.returns-in-Err
returns-in-Err c =
    let old = c.args.world.now in
    let r = c.args.range in
    let n = c.args.node in
    let p : Point = record { node = n; offset = c.args.offset } in
    let live : is_some (range_in old.ranges r) ≡ true = cc in
    let there : is_some (entry_in old.tree.forest n) ≡ true = cc in
    let check = told (check_point unit_count old.tree.forest p) c.in-Err.error (sym c.in-Err.is ∙ c.set_end.ensures.refusal) in
    record {
      step = λ b. rw c.set_end.ensures.kept (step-refused b (SetEnd r n c.args.offset) (Brief (Dom c.in-Err.error)) old c.set_end.new.self c.in-Err.ensures.unchanged
          (λ w shown. refusal-set_end old b w shown r n live there c.args.offset c.in-Err.error check));
    }

pub set_end-requires-clause-stands : goal.set_end-requires-clause-stands
set_end-requires-clause-stands c = grind (arith, common_steps)
