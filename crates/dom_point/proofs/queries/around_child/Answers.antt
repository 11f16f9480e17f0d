use Rattle.std.proofs.Common.{arith}
use Rattle.dom_model.specs.Definitions.{children_of}
use Rattle.dom_model.proofs.Forests.{Entries.occurs-HasNode, Indices.child-listed, Indices.index-child, Above.above}
use Rattle.dom_model.proofs.PlainLists.Places.{place-there}
use Rattle.dom_point.proofs.queries.around_child.Goals as goal

pub count-requires : goal.count-requires
count-requires g c = (above c.state_law.ensures c.args.child c.args.parent c.requires.held c.requires.child).there

pub overflow_add-after : goal.overflow_add-after
overflow_add-after g c =
    let f = c.args.tree.now.forest in
    let e = c.requires.child in
    let listed = child-listed f c.state_law.ensures.once c.args.child c.args.parent (occurs-HasNode f c.args.child c.requires.held) e in
    omega (arith, place-there c.args.child (children_of f c.args.parent) listed, index-child f c.args.child c.args.parent e, c.requires.index, c.count.ensures, c.count.type_inv)
