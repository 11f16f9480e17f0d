use Rattle.std.proofs.Common.{◌≡◌, true, sym, ◌∙◌, string_bytes}
use Rattle.dom_model.specs.Definitions.{is_doctype_name, no_content, doctype_label, CreateDoctype}
use Rattle.dom_commands.specs.{Brief.reply_of, Views.reply_view}
use Rattle.dom_session.specs.{AnswerBounds.numbered}
use Rattle.dom_session.proofs.{GuardedLemmas.step-stays, NodeCreationLemmas.step-makes, NodeCreationLemmas.answer-create_doctype, NodeCreationLemmas.refused-create_doctype}
use Rattle.dom_session.proofs.node_creation.create_doctype.Goals as goal

pub returns : goal.returns
returns c =
    let name = string_bytes c.args.name in
    let public_id = string_bytes c.args.public_id in
    let system_id = string_bytes c.args.system_id in
    let valid : is_doctype_name name ≡ true = cc in
    record {
      step = step-makes c.args.world.now c.make.new.self (numbered c.args.numbers) (CreateDoctype c.args.document name public_id system_id) c.args.document c.number.result (doctype_label name public_id system_id) no_content
          (λ w shown. answer-create_doctype c.args.world.now c.args.numbers c.args.document name public_id system_id w shown (sym c.in_default.ensures) valid)
          (c.number.ensures ∙ c.in_ok-id.ensures.number)
          (rw (c.in_ok-label.ensures, c.nothing.ensures) at c.in_ok-id.ensures.made) c.make.ensures.whole;
      left = tt;
      as_it_was = tt;
    }

pub returns-in-Some : goal.returns-in-Some
returns-in-Some c = record {
  step = step-stays (numbered c.args.numbers) (CreateDoctype c.args.document (string_bytes c.args.name) (string_bytes c.args.public_id) (string_bytes c.args.system_id)) (reply_of c.in-Some.reply) c.args.world.now
      (λ w shown. refused-create_doctype c.args.world.now c.args.numbers c.args.document (string_bytes c.args.name) (string_bytes c.args.public_id) (string_bytes c.args.system_id) w (reply_view (reply_of c.in-Some.reply)) shown (sym c.in-Some.ensures));
  left = tt;
  as_it_was = tt;
}
