use Rattle.std.proofs.Common.{[], sym, ◌∙◌}
use Rattle.dom_model.specs.declared.Kind.TheVariants.{Text}
use Rattle.dom_model.specs.Definitions.{named, with_text, CreateText}
use Rattle.dom_commands.specs.{Brief.reply_of, Views.reply_view}
use Rattle.dom_session.specs.{AnswerBounds.numbered}
use Rattle.dom_session.proofs.{GuardedLemmas.step-stays, NodeCreationLemmas.step-makes, NodeCreationLemmas.answer-create_text, NodeCreationLemmas.refused-create_text}
use Rattle.dom_session.proofs.node_creation.create_text.Goals as goal

pub returns : goal.returns
returns c = record {
  step = step-makes c.args.world.now c.make.new.self (numbered c.args.numbers) (CreateText c.args.document c.args.text) c.args.document c.number.result (named Text []) (with_text c.args.text)
      (λ w shown. answer-create_text c.args.world.now c.args.numbers c.args.document c.args.text w shown (sym c.in_default.ensures))
      (c.number.ensures ∙ c.in_ok-id.ensures.number)
      (rw (c.nameless.ensures, c.in_ok-body.ensures) at c.in_ok-id.ensures.made) c.make.ensures.whole;
  left = tt;
  as_it_was = tt;
}

pub returns-in-Some : goal.returns-in-Some
returns-in-Some c = record {
  step = step-stays (numbered c.args.numbers) (CreateText c.args.document c.args.text) (reply_of c.in-Some.reply) c.args.world.now
      (λ w shown. refused-create_text c.args.world.now c.args.numbers c.args.document c.args.text w (reply_view (reply_of c.in-Some.reply)) shown (sym c.in-Some.ensures));
  left = tt;
  as_it_was = tt;
}
