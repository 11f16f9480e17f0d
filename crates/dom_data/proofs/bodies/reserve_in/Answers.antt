-- The same data, with more room, in the place where the tree keeps it.
use Rattle.std.proofs.Common.{ap, ◌∙◌}
use Rattle.dom_model.specs.Definitions.{Content, with_node}
use Rattle.dom_data.proofs.ChangedBodies.{body-written}
use Rattle.dom_data.proofs.bodies.reserve_in.Goals as goal

pub returns : goal.returns
returns c =
    let f = c.args.tree.now.forest in
    let n = c.args.node in
    let v = c.body_mut-content.result.now in
    let read = c.body_mut-content.ensures.value in
    ap (λ g. record { forest = g; made = c.args.tree.now.made })
    (ap (λ (b : Content). with_node n (λ x. record x { body = b }) f) c.reserve.ensures ∙ body-written f c.state_law.ensures.once n v read)
