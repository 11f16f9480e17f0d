use Rattle.std.proofs.Common.{sym, ◌∙◌, is_some}
use Rattle.dom_clone.proofs.EqualWalkLemmas.{other_way, walk-starts, walked-held, walked-under, nodes_differ, walk-goes_on, walk-ends, walk-differs, walk-shorter}
use Rattle.dom_clone.proofs.equality.is_equal.Goals as goal

pub loop-node-init : goal.loop-node-init
loop-node-init c = walk-starts c.args.tree.now c.state_law.ensures c.args.node c.args.other c.requires.node_held c.requires.other_held

pub are_alike-requires-clause-left_held : goal.are_alike-requires-clause-left_held
are_alike-requires-clause-left_held c = walked-held c.args.tree.now c.state_law.ensures c.args.node c.loop-node.left c.loop-node.invariant.left_inside

pub are_alike-requires-clause-right_held : goal.are_alike-requires-clause-right_held
are_alike-requires-clause-right_held c = walked-held c.args.tree.now c.state_law.ensures c.args.other c.loop-node.right c.loop-node.invariant.right_inside

pub next_inside-after_right-requires-clause-under : goal.next_inside-after_right-requires-clause-under
next_inside-after_right-requires-clause-under c = walked-under c.args.tree.now c.state_law.ensures c.args.other c.loop-node.right c.loop-node.invariant.right_inside

pub next_inside-requires-clause-under : goal.next_inside-requires-clause-under
next_inside-requires-clause-under c = walked-under c.args.tree.now c.state_law.ensures c.args.node c.loop-node.left c.loop-node.invariant.left_inside

pub returns-in_default : goal.returns-in_default
returns-in_default c =
    other_way c.is_none.result (is_some c.next_inside-after_right.result) c.is_none.ensures ∙ walk-ends c.args.tree.now c.state_law.ensures c.args.node c.args.other c.loop-node.left c.loop-node.right c.loop-node.invariant (sym c.are_alike.ensures ∙ c.loop-node-test.true) c.next_inside-after_right.result (sym c.in_default.ensures) (sym c.next_inside-after_right.ensures)

pub returns-in_default-after_right : goal.returns-in_default-after_right
returns-in_default-after_right c =
    walk-differs c.args.tree.now c.state_law.ensures c.args.node c.args.other c.loop-node.left c.loop-node.right c.loop-node.invariant (sym c.are_alike.ensures ∙ c.loop-node-test.true) c.in-Some.next_left (sym c.in-Some.ensures) (sym c.in_default-after_right.ensures)

pub loop-node-smaller : goal.loop-node-smaller
loop-node-smaller c =
    walk-shorter c.args.tree.now c.state_law.ensures c.args.node c.args.other c.loop-node.left c.loop-node.right c.loop-node.invariant c.in-Some.next_left (sym c.in-Some.ensures)

pub loop-node-preserved : goal.loop-node-preserved
loop-node-preserved c =
    walk-goes_on c.args.tree.now c.state_law.ensures c.args.node c.args.other c.loop-node.left c.loop-node.right c.loop-node.invariant (sym c.are_alike.ensures ∙ c.loop-node-test.true) c.in-Some.next_left c.in-Some-after_right.next_right (sym c.in-Some.ensures) (sym c.in-Some-after_right.ensures)

pub returns : goal.returns
returns c = nodes_differ c.args.tree.now c.state_law.ensures c.args.node c.args.other c.loop-node.left c.loop-node.right c.loop-node.invariant (sym c.are_alike.ensures ∙ c.loop-node-test.false)
