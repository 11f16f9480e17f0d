use Rattle.std.proofs.Common.{◌≡◌, ◌+◌, nat_lt, true, false, length, [], ◌∷◌, ◌++◌, Option, Some, refl, arith, sym, ap, ◌∙◌, subst, is_some, IfSome}
use Rattle.std.proofs.lemmas.{Bool.Decides.nat_tests, List.Elements.All-push}
use Rattle.dom_model.specs.Definitions.{entry_in, Point, Range, check_static, CreateStaticRange}
use Rattle.dom_ranges.specs.Tables.{result_of_check}
use Rattle.dom_edit.specs.Whole.{AreHeld}
use Rattle.dom_commands.specs.{declared.brief.Brief.TheVariants.Number, declared.brief.Brief.TheVariants.Dom, declared.reply.Reply.TheVariants.Brief}
use Rattle.dom_session.specs.{AnswerBounds.numbered}
use Rattle.dom_session.proofs.{GuardedLemmas.step-stays, RangeTableLemmas.step-statics, RangeAnswers.passed, RangeAnswers.told, RangeAnswers.answer-create_static_range, RangeAnswers.refusal-create_static_range}
use Rattle.dom_session.proofs.static_ranges.create_static_range.Goals as goal

pub returns-in_ok-id-in-Ok : goal.returns-in_ok-id-in-Ok
returns-in_ok-id-in-Ok c =
    let old = c.args.world.now in
    let f = old.tree.forest in
    let start : Point = c.args.start in
    let end : Point = c.args.end in
    let range : Range = record { start = start; end = end } in
    let n = length old.statics in
    let first : is_some (entry_in f start.node) ≡ true = subst (λ (q : Point). is_some (entry_in f q.node) ≡ true) c.start.view_is (sym c.holds.ensures ∙ c.if-not-holds.false) in
    let last : is_some (entry_in f end.node) ≡ true = subst (λ (q : Point). is_some (entry_in f q.node) ≡ true) c.end.view_is (sym c.holds-else-not-holds.ensures ∙ c.if-not-holds-2.false) in
    let room : nat_lt c.args.numbers (n + 1) ≡ false = grind (arith, nat_tests) in
    let same = ap (λ (q : Point). result_of_check (check_static f q.node c.end.inside.node)) c.start.view_is ∙ ap (λ (q : Point). result_of_check (check_static f start.node q.node)) c.end.view_is in
    let check = passed (check_static f start.node end.node) c.in-Ok.field-0 (sym c.in-Ok.is ∙ c.check.ensures ∙ same) in
    let held = All-push (λ (o : Option Range). IfSome o (AreHeld f)) old.statics (Some range) c.requires.shown.shows.whole.statics (record { start = first; end = last }) in
    let number : c.number.result ≡ n = c.number.ensures ∙ c.in_ok-id-in-Ok.ensures.number in
    record {
      step = rw number (step-statics (numbered c.args.numbers) (CreateStaticRange start end) (Brief (Number n)) old c.make.new.self (old.statics ++ Some range ∷ []) refl c.requires.shown c.in_ok-id-in-Ok.ensures.made held
          (λ w shown. answer-create_static_range old (numbered c.args.numbers) w shown start end first last room check));
      left = tt;
      unchanged = tt;
    }

pub returns-in-Err : goal.returns-in-Err
returns-in-Err c =
    let old = c.args.world.now in
    let f = old.tree.forest in
    let start : Point = c.args.start in
    let end : Point = c.args.end in
    let first : is_some (entry_in f start.node) ≡ true = subst (λ (q : Point). is_some (entry_in f q.node) ≡ true) c.start.view_is (sym c.holds.ensures ∙ c.if-not-holds.false) in
    let last : is_some (entry_in f end.node) ≡ true = subst (λ (q : Point). is_some (entry_in f q.node) ≡ true) c.end.view_is (sym c.holds-else-not-holds.ensures ∙ c.if-not-holds-2.false) in
    let room : nat_lt c.args.numbers (length old.statics + 1) ≡ false = grind (arith, nat_tests) in
    let same = ap (λ (q : Point). result_of_check (check_static f q.node c.end.inside.node)) c.start.view_is ∙ ap (λ (q : Point). result_of_check (check_static f start.node q.node)) c.end.view_is in
    let check = told (check_static f start.node end.node) c.in-Err.error (sym c.in-Err.is ∙ c.check.ensures ∙ same) in
    record {
      step = step-stays (numbered c.args.numbers) (CreateStaticRange start end) (Brief (Dom c.in-Err.error)) old
          (λ w shown. refusal-create_static_range old (numbered c.args.numbers) w shown start end first last room c.in-Err.error check);
      left = tt;
      unchanged = tt;
    }
