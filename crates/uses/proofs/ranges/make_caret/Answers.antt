use Rattle.std.proofs.Common.{◌∙◌, sym, refl}
use Rattle.dom_model.proofs.BoundaryPoints.PointOrder.{nat_cmp-same, order-one_node}
use Rattle.uses.proofs.ranges.make_caret.Goals as goal

pub make-requires-clause-in_order : goal.make-requires-clause-in_order
make-requires-clause-in_order g c =
    let f = c.args.tree.now.forest in
    let at = c.args.at in
    let level = order-one_node f at.node at.offset at.offset ∙ nat_cmp-same at.offset in
    record { starts = c.requires.stands; ends = c.requires.stands; one_root = refl; in_order = λ e. let h = sym level ∙ e in absurd (cc h) }
