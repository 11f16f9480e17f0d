use Rattle.std.proofs.Common.{◌∙◌, ap}
use Rattle.std.proofs.lemmas.Result.{IfOk-weaker}
use Rattle.dom_model.specs.Definitions.{first_world, NewDocument, answer}
use Rattle.uses.proofs.session.second_document.Goals as goal

pub returns : goal.returns
returns c =
    IfOk-weaker c.apply.result _ _
    (λ reply h. (h first_world c.in-Ok.ensures.first).reply_is ∙ ap (λ b. (answer b first_world NewDocument).reply) c.in-Ok.ensures.bounds)
    c.apply.ensures.answers
