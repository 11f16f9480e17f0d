use Rattle.std.proofs.Common.{◌≡◌, ◌+◌, nat_lt, true, false, length, [], ◌∷◌, ◌++◌, Some, refl, arith, ◌∙◌, rules, is_some}
use Rattle.std.proofs.lemmas.{Grind.common_steps, Bool.Decides.nat_tests}
use Rattle.dom_model.specs.declared.Kind.TheVariants.{Document}
use Rattle.dom_model.specs.Definitions.{entry_in, CreateRange, is_of_kind, collapsed_at}
use Rattle.dom_commands.specs.{declared.brief.Brief.TheVariants.Number, declared.reply.Reply.TheVariants.Brief}
use Rattle.dom_session.specs.{AnswerBounds.numbered}
use Rattle.dom_session.proofs.{RangeTableLemmas.step-ranges, RangeFacts.node-covered, RangeFacts.range-in, RangeFacts.range-of_document, RangeAnswers.answer-create_range}
use Rattle.dom_session.proofs.live_ranges.create_range.Goals as goal

pub make-requires-clause-start_covered : goal.make-requires-clause-start_covered
make-requires-clause-start_covered c = node-covered c.args.world.now c.requires.shown.shows.whole c.args.document cc

pub make-requires-clause-end_covered : goal.make-requires-clause-end_covered
make-requires-clause-end_covered c = node-covered c.args.world.now c.requires.shown.shows.whole c.args.document cc

pub make-requires-clause-in_order : goal.make-requires-clause-in_order
make-requires-clause-in_order c =
    let f = c.args.world.now.tree.forest in
    let d = c.args.document in
    let there : is_some (entry_in f d) ≡ true = cc in
    let kind : is_of_kind Document f d ≡ true = search rules in
    range-in f (collapsed_at (record { node = d; offset = 0 })) (range-of_document f d there kind)

pub returns : goal.returns
returns c =
    let old = c.args.world.now in
    let f = old.tree.forest in
    let d = c.args.document in
    let n = length old.ranges.ranges in
    let there : is_some (entry_in f d) ≡ true = cc in
    let kind : is_of_kind Document f d ≡ true = search rules in
    let room : nat_lt c.args.numbers (n + 1) ≡ false = grind (arith, nat_tests) in
    let number : c.number.result ≡ n = c.number.ensures ∙ c.in_ok-id.ensures.number in
    record {
      step = rw number (step-ranges (numbered c.args.numbers) (CreateRange d) (Brief (Number n)) old c.make.new.self (old.ranges.ranges ++ Some (collapsed_at (record { node = d; offset = 0 })) ∷ []) refl c.requires.shown c.in_ok-id.ensures.made
          (λ w shown. answer-create_range old (numbered c.args.numbers) w shown d there kind room));
      left = tt;
      unchanged = tt;
    }

pub returns-then-ne : goal.returns-then-ne
returns-then-ne c = grind (arith, common_steps)
