-- An attribute taken out of the place where the tree keeps it.
use Rattle.std.proofs.Common.{ap, ◌∙◌}
use Rattle.dom_model.specs.Definitions.{without_attribute, with_node, Content, with_attributes}
use Rattle.dom_data.proofs.ChangedBodies.{attributes-written, content-read}
use Rattle.dom_data.proofs.bodies.remove_in.Goals as goal

pub returns : goal.returns
returns c =
    let f = c.args.tree.now.forest in
    let n = c.args.node in
    let v = c.body_mut-content.result.now in
    let read = c.body_mut-content.ensures.value in
    let rest = without_attribute c.args.name.now in
    let before = ap (λ (b : Content). b.attributes) (content-read f c.state_law.ensures.once n v c.requires.held read) in
    ap (λ g. record { forest = g; made = c.args.tree.now.made })
    (ap (λ (b : Content). with_node n (λ x. record x { body = b }) f) c.remove_attribute.ensures.rest
    ∙ attributes-written f c.state_law.ensures.once n v read (rest v.attributes)
    ∙ ap (λ attributes. with_node n (with_attributes attributes) f) (ap rest before))
