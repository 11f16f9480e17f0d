use Rattle.std.proofs.Common.{◌≡◌, ◌+◌, nat_lt, false, ◌∙◌, arith}
use Rattle.std.proofs.lemmas.Bool.Decides.{nat_tests}
use Rattle.dom_model.specs.Definitions.{no_content, document_label, NewDocument}
use Rattle.dom_session.specs.AnswerBounds.{numbered}
use Rattle.dom_session.proofs.NodeCreationLemmas.{step-makes, answer-new_document}
use Rattle.dom_session.proofs.node_creation.new_document.Goals as goal

pub returns : goal.returns
returns c =
    let old = c.args.world.now in
    let room : nat_lt c.args.numbers (old.tree.made + 1) ≡ false = grind (arith, nat_tests) in
    record {
      step = step-makes old c.make.new.self (numbered c.args.numbers) NewDocument old.tree.made c.number.result document_label no_content
          (λ w shown. answer-new_document old c.args.numbers w shown room)
          (c.number.ensures ∙ c.in_ok-id.ensures.number)
          (rw (c.document_label.ensures, c.nothing.ensures) at c.in_ok-id.ensures.made) c.make.ensures.whole;
      left = tt;
      as_it_was = tt;
    }
