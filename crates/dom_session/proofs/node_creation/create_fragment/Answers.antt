use Rattle.std.proofs.Common.{[], sym, ◌∙◌}
use Rattle.dom_model.specs.declared.Kind.TheVariants.{DocumentFragment}
use Rattle.dom_model.specs.Definitions.{no_content, named, CreateFragment}
use Rattle.dom_commands.specs.{Brief.reply_of, Views.reply_view}
use Rattle.dom_session.specs.{AnswerBounds.numbered}
use Rattle.dom_session.proofs.{GuardedLemmas.step-stays, NodeCreationLemmas.step-makes, NodeCreationLemmas.answer-create_fragment, NodeCreationLemmas.refused-create_fragment}
use Rattle.dom_session.proofs.node_creation.create_fragment.Goals as goal

pub returns : goal.returns
returns c = record {
  step = step-makes c.args.world.now c.make.new.self (numbered c.args.numbers) (CreateFragment c.args.document) c.args.document c.number.result (named DocumentFragment []) no_content
      (λ w shown. answer-create_fragment c.args.world.now c.args.numbers c.args.document w shown (sym c.in_default.ensures))
      (c.number.ensures ∙ c.in_ok-id.ensures.number)
      (rw (c.nameless-label.ensures, c.nothing.ensures) at c.in_ok-id.ensures.made) c.make.ensures.whole;
  left = tt;
  as_it_was = tt;
}

pub returns-in-Some : goal.returns-in-Some
returns-in-Some c = record {
  step = step-stays (numbered c.args.numbers) (CreateFragment c.args.document) (reply_of c.in-Some.reply) c.args.world.now
      (λ w shown. refused-create_fragment c.args.world.now c.args.numbers c.args.document w (reply_view (reply_of c.in-Some.reply)) shown (sym c.in-Some.ensures));
  left = tt;
  as_it_was = tt;
}
