use Rattle.std.proofs.Common.{arith}
use Rattle.dom_model.specs.Definitions.{children_of}
use Rattle.dom_edit.proofs.IsAmongLemmas.{first-among, HasNode-child, count_kind-cons, count_kind_le-length}
use Rattle.dom_edit.proofs.insertion_point.count_children.Goals as goal

pub loop-child-init : goal.loop-child-init
loop-child-init c = rw (c.into_iter-child-iterator.ensures.into_iter_gives, c.children-child-items.ensures) (record { counted = omega arith; within = λ m h. h })

pub is_of_kind-requires : goal.is_of_kind-requires
is_of_kind-requires c =
    let within = rw c.in-Some.ensures.steps at c.loop-child.invariant.within in
    HasNode-child c.args.tree.now c.state_law.ensures c.args.parent c.in-Some.child (first-among c.in-Some.child c.next.new.self (children_of c.args.tree.now.forest c.args.parent) within)

pub overflow_add-count : goal.overflow_add-count
overflow_add-count c =
    let f = c.args.tree.now.forest in
    let counted = rw (c.in-Some.ensures.steps, count_kind-cons c.args.kind f c.in-Some.child c.next.new.self, ← c.is_of_kind.ensures, c.if-is_of_kind.true) at c.loop-child.invariant.counted in
    let most = count_kind_le-length c.args.kind f (children_of f c.args.parent) in
    omega (arith, counted, most, c.count-most.ensures, c.count-most.type_inv)

pub returns : goal.returns
returns c =
    let counted = rw c.in-None.ensures.steps.0 at c.loop-child.invariant.counted in
    omega (arith, counted)
