-- What is beyond the offset, in the place where the tree keeps the other node's contents.
use Rattle.std.proofs.Common.{refl, ap, ◌∙◌}
use Rattle.dom_model.specs.Definitions.{Content, with_node}
use Rattle.dom_model.proofs.Worlds.SameShape.{with_node-alike}
use Rattle.dom_model.proofs.RangesAndContents.RangesSpliced.{there-alike}
use Rattle.dom_data.proofs.{ChangedBodies.body-written, MovedTail.tail-moved, ResultLemmas.on_err}
use Rattle.dom_data.proofs.bodies.move_tail.Goals as goal

pub returns-in_err-tail-clause-err : goal.returns-in_err-tail-clause-err
returns-in_err-tail-clause-err c =
    let f = c.args.tree.now.forest in
    let n = c.args.node in
    let v = c.body_mut-content.result.now in
    let read = c.body_mut-content.ensures.value in
    on_err c.from_residual.result
    (ap (λ g. record { forest = g; made = c.args.tree.now.made })
    (ap (λ (b : Content). with_node n (λ x. record x { body = b }) f) c.in_err-tail.ensures.err ∙ body-written f c.state_law.ensures.once n v read))

pub body_mut-place-requires : goal.body_mut-place-requires
body_mut-place-requires c =
    there-alike (with_node-alike (λ x. record x { body = c.split_off.new.self }) (λ x. refl) c.args.node c.args.tree.now.forest) c.args.new c.requires.new_held

pub returns-clause-ok : goal.returns-clause-ok
returns-clause-ok c =
    ap (λ g. record { forest = g; made = c.args.tree.now.made })
    (tail-moved c.args.tree.now.forest c.state_law.ensures.once c.args.node c.args.offset c.args.new c.body_mut-content.result.now c.requires.held c.requires.within c.requires.bare c.body_mut-content.ensures.value
    c.split_off.new.self c.in_ok-tail.tail c.in_ok-tail.ensures.head c.in_ok-tail.ensures.tail)
