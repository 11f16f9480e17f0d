use Rattle.std.proofs.Common.{sym, true, ◌≡◌, ◌∙◌}
use Rattle.dom_model.specs.declared.Kind.TheVariants.{Element}
use Rattle.dom_model.specs.Definitions.{is_element_name, no_content, named, CreateElement}
use Rattle.dom_commands.specs.{Brief.reply_of, Views.reply_view}
use Rattle.dom_session.specs.{AnswerBounds.numbered}
use Rattle.dom_session.proofs.{GuardedLemmas.step-stays, NodeCreationLemmas.step-makes, NodeCreationLemmas.answer-create_element, NodeCreationLemmas.refused-create_element}
use Rattle.dom_session.proofs.node_creation.create_element.Goals as goal

pub returns : goal.returns
returns c =
    let name = c.args.name.now in
    let valid : is_element_name name ≡ true = cc in
    record {
      step = step-makes c.args.world.now c.make.new.self (numbered c.args.numbers) (CreateElement c.args.document name) c.args.document c.number.result (named Element name) no_content
          (λ w shown. answer-create_element c.args.world.now c.args.numbers c.args.document name w shown (sym c.in_default.ensures) valid)
          (c.number.ensures ∙ c.in_ok-id.ensures.number)
          (rw (c.in_ok-label.ensures, c.nothing.ensures) at c.in_ok-id.ensures.made) c.make.ensures.whole;
      left = tt;
      as_it_was = tt;
    }

pub returns-in-Some : goal.returns-in-Some
returns-in-Some c = record {
  step = step-stays (numbered c.args.numbers) (CreateElement c.args.document c.args.name.now) (reply_of c.in-Some.reply) c.args.world.now
      (λ w shown. refused-create_element c.args.world.now c.args.numbers c.args.document c.args.name.now w (reply_view (reply_of c.in-Some.reply)) shown (sym c.in-Some.ensures));
  left = tt;
  as_it_was = tt;
}
