use Rattle.std.proofs.Common.{◌≡◌, ◌+◌, nat_lt, false, length, [], ◌∷◌, ◌++◌, Some, refl, arith, ◌∙◌}
use Rattle.std.proofs.lemmas.{Grind.common_steps, Bool.Decides.nat_tests}
use Rattle.dom_model.specs.Definitions.{Range, CloneRange}
use Rattle.dom_commands.specs.{declared.brief.Brief.TheVariants.Number, declared.reply.Reply.TheVariants.Brief}
use Rattle.dom_session.specs.{AnswerBounds.numbered}
use Rattle.dom_session.proofs.{RangeTableLemmas.step-ranges, RangeAnswers.answer-clone_range}
use Rattle.dom_session.proofs.live_ranges.clone_range.Goals as goal

pub returns : goal.returns
returns c =
    let old = c.args.world.now in
    let n = length old.ranges.ranges in
    let range : Range = record { start = c.ends-start.result.0; end = c.ends-start.result.1 } in
    let room : nat_lt c.args.numbers (n + 1) ≡ false = grind (arith, nat_tests) in
    let number : c.number.result ≡ n = c.number.ensures ∙ c.in_ok-id.ensures.number in
    record {
      step = rw number (step-ranges (numbered c.args.numbers) (CloneRange c.args.range) (Brief (Number n)) old c.make.new.self (old.ranges.ranges ++ Some range ∷ []) refl c.requires.shown c.in_ok-id.ensures.made
          (λ w shown. answer-clone_range old (numbered c.args.numbers) w shown c.args.range range c.ends-start.ensures.ends room));
      left = tt;
      unchanged = tt;
    }

pub make-requires-clause-in_order : goal.make-requires-clause-in_order
make-requires-clause-in_order c = grind (arith, common_steps)
