-- Other data in the place where the tree keeps it.
use Rattle.std.proofs.Common.{ap, ◌∙◌}
use Rattle.std.proofs.lemmas.Result.{on_ok_weaker, on_err_weaker}
use Rattle.dom_model.specs.Definitions.{Content, with_node, spliced, with_data}
use Rattle.dom_data.proofs.ChangedBodies.{data-written, body-written, content-read}
use Rattle.dom_data.proofs.bodies.splice_data.Goals as goal

pub returns-clause-ok : goal.returns-clause-ok
returns-clause-ok c =
    let f = c.args.tree.now.forest in
    let n = c.args.node in
    let v = c.body_mut-content.result.now in
    let read = c.body_mut-content.ensures.value in
    let units = ap (λ (b : Content). b.text) (content-read f c.state_law.ensures.once n v c.requires.held read) in
    on_ok_weaker c.splice-outcome.result (λ ok.
    ap (λ g. record { forest = g; made = c.args.tree.now.made })
    (ap (λ (b : Content). with_node n (λ x. record x { body = b }) f) ok
    ∙ data-written f c.state_law.ensures.once n v read (spliced c.args.offset c.args.count c.args.added.now v.text)
    ∙ ap (λ text. with_node n (with_data text) f) (ap (spliced c.args.offset c.args.count c.args.added.now) units)))
    c.splice-outcome.ensures.ok

pub returns-clause-err : goal.returns-clause-err
returns-clause-err c =
    let f = c.args.tree.now.forest in
    let n = c.args.node in
    let v = c.body_mut-content.result.now in
    let read = c.body_mut-content.ensures.value in
    on_err_weaker c.splice-outcome.result (λ err.
    ap (λ g. record { forest = g; made = c.args.tree.now.made })
    (ap (λ (b : Content). with_node n (λ x. record x { body = b }) f) err ∙ body-written f c.state_law.ensures.once n v read))
    c.splice-outcome.ensures.err
