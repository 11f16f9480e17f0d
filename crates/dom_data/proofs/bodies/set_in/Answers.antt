-- An attribute set in the place where the tree keeps it.
use Rattle.std.proofs.Common.{ap, ◌∙◌, string_bytes}
use Rattle.dom_model.specs.Definitions.{with_attribute, with_node, Content, with_attributes}
use Rattle.dom_data.proofs.{ChangedBodies.attributes-written, ChangedBodies.body-written, ChangedBodies.content-read, ResultLemmas.on_err}
use Rattle.dom_data.proofs.bodies.set_in.Goals as goal

pub returns-in_err-set_attribute-clause-err : goal.returns-in_err-set_attribute-clause-err
returns-in_err-set_attribute-clause-err c =
    let f = c.args.tree.now.forest in
    let n = c.args.node in
    let v = c.body_mut-content.result.now in
    let read = c.body_mut-content.ensures.value in
    on_err c.from_residual.result
    (ap (λ g. record { forest = g; made = c.args.tree.now.made })
    (ap (λ (b : Content). with_node n (λ x. record x { body = b }) f) c.in_err-set_attribute.ensures.err ∙ body-written f c.state_law.ensures.once n v read))

pub returns-clause-ok : goal.returns-clause-ok
returns-clause-ok c =
    let f = c.args.tree.now.forest in
    let n = c.args.node in
    let v = c.body_mut-content.result.now in
    let read = c.body_mut-content.ensures.value in
    let set = with_attribute (string_bytes c.args.name) c.args.value in
    let before = ap (λ (b : Content). b.attributes) (content-read f c.state_law.ensures.once n v c.requires.held read) in
    ap (λ g. record { forest = g; made = c.args.tree.now.made })
    (ap (λ (b : Content). with_node n (λ x. record x { body = b }) f) c.in_ok-set_attribute.ensures.ok
    ∙ attributes-written f c.state_law.ensures.once n v read (set v.attributes)
    ∙ ap (λ attributes. with_node n (with_attributes attributes) f) (ap set before))
