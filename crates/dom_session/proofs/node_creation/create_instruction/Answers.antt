use Rattle.std.proofs.Common.{◌≡◌, true, false, sym, ◌∙◌, string_bytes}
use Rattle.dom_model.specs.declared.Kind.TheVariants.{ProcessingInstruction}
use Rattle.dom_model.specs.Definitions.{is_element_name, named, with_text, closes_instruction, CreatePI}
use Rattle.dom_commands.specs.{Brief.reply_of, Views.reply_view}
use Rattle.dom_session.specs.{AnswerBounds.numbered}
use Rattle.dom_session.proofs.{GuardedLemmas.step-stays, NodeCreationLemmas.step-makes, NodeCreationLemmas.answer-create_instruction, NodeCreationLemmas.refused-create_instruction}
use Rattle.dom_session.proofs.node_creation.create_instruction.Goals as goal

pub returns : goal.returns
returns c =
    let target = string_bytes c.args.target in
    let valid : is_element_name target ≡ true = cc in
    let apart : closes_instruction c.args.text ≡ false = cc in
    record {
      step = step-makes c.args.world.now c.make.new.self (numbered c.args.numbers) (CreatePI c.args.document target c.args.text) c.args.document c.number.result (named ProcessingInstruction target) (with_text c.args.text)
          (λ w shown. answer-create_instruction c.args.world.now c.args.numbers c.args.document target c.args.text w shown (sym c.in_default.ensures) valid apart)
          (c.number.ensures ∙ c.in_ok-id.ensures.number)
          (rw (c.in_ok-label.ensures, c.as_str-2.ensures.value, c.in_ok-body.ensures) at c.in_ok-id.ensures.made) c.make.ensures.whole;
      left = tt;
      as_it_was = tt;
    }

pub returns-in-Some : goal.returns-in-Some
returns-in-Some c = record {
  step = step-stays (numbered c.args.numbers) (CreatePI c.args.document (string_bytes c.args.target) c.args.text) (reply_of c.in-Some.reply) c.args.world.now
      (λ w shown. refused-create_instruction c.args.world.now c.args.numbers c.args.document (string_bytes c.args.target) c.args.text w (reply_view (reply_of c.in-Some.reply)) shown (sym c.in-Some.ensures));
  left = tt;
  as_it_was = tt;
}
