use Rattle.std.proofs.Common.{◌≡◌, true, refl, ap, sym, ◌∙◌, subst, arith, is_some}
use Rattle.std.proofs.lemmas.Grind.{common_steps}
use Rattle.dom_model.specs.Definitions.{entry_in, unit_count, Point, Range, check_point, place_against, same_root, ComparePoint}
use Rattle.dom_ranges.specs.Tables.{range_in}
use Rattle.dom_commands.specs.{declared.reply.Answer.TheVariants.Order, declared.brief.Brief.TheVariants.Dom, declared.reply.Reply.TheVariants.Brief, declared.reply.Reply.TheVariants.Done}
use Rattle.dom_session.proofs.{GuardedLemmas.step-stays, RangeAnswers.passed, RangeAnswers.told, RangeAnswers.answer-compare_point, RangeAnswers.refusal-compare_point}
use Rattle.dom_session.proofs.range_queries.compare_point.Goals as goal

pub returns-in-Ok : goal.returns-in-Ok
returns-in-Ok c =
    let v = c.args.world.now in
    let f = v.tree.forest in
    let r = c.args.range in
    let n = c.args.node in
    let p : Point = record { node = n; offset = c.args.offset } in
    let range : Range = record { start = c.ends.result.0; end = c.ends.result.1 } in
    let live : is_some (range_in v.ranges r) ≡ true = cc in
    let there : is_some (entry_in f n) ≡ true = cc in
    let root : same_root f n range.start.node ≡ true = subst (λ (q : Point). same_root f n q.node ≡ true) c.start.view_is (sym c.same_root.ensures ∙ c.if-not-same_root.false) in
    let check = passed (check_point unit_count f p) c.in-Ok.field-0 (sym c.in-Ok.is ∙ c.checked_point.ensures) in
    let placed : c.place.result ≡ place_against f p range = c.place.ensures.place in
    let same = c.place.ensures.unchanged in
    record {
      step = λ b. rw (placed, same) (step-stays b (ComparePoint r n c.args.offset) (Done (Order (place_against f p range))) v
          (λ w shown. answer-compare_point v b w shown r n live there c.args.offset range c.ends.ensures.ends root check));
      unchanged = ap (λ t. record v { tree = t }) same;
    }

pub returns-in-Err : goal.returns-in-Err
returns-in-Err c =
    let v = c.args.world.now in
    let f = v.tree.forest in
    let r = c.args.range in
    let n = c.args.node in
    let p : Point = record { node = n; offset = c.args.offset } in
    let range : Range = record { start = c.ends.result.0; end = c.ends.result.1 } in
    let live : is_some (range_in v.ranges r) ≡ true = cc in
    let there : is_some (entry_in f n) ≡ true = cc in
    let root : same_root f n range.start.node ≡ true = subst (λ (q : Point). same_root f n q.node ≡ true) c.start.view_is (sym c.same_root.ensures ∙ c.if-not-same_root.false) in
    let check = told (check_point unit_count f p) c.in-Err.error (sym c.in-Err.is ∙ c.checked_point.ensures) in
    record {
      step = λ b. step-stays b (ComparePoint r n c.args.offset) (Brief (Dom c.in-Err.error)) v
          (λ w shown. refusal-compare_point v b w shown r n live there c.args.offset range c.ends.ensures.ends root c.in-Err.error check);
      unchanged = refl;
    }

pub same_root-requires-clause-b_held : goal.same_root-requires-clause-b_held
same_root-requires-clause-b_held c = grind (arith, common_steps)

pub place-requires-clause-stands : goal.place-requires-clause-stands
place-requires-clause-stands c = grind (arith, common_steps)
