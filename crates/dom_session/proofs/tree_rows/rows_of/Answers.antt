use Rattle.std.proofs.Common.{arith}
use Rattle.dom_model.specs.Definitions.{tree_rows}
use Rattle.dom_session.proofs.PrintingLemmas.{IsPrinting-start, IsPrinting-step, HasNode-waiting, shallow_waiting, more_to_come}
use Rattle.dom_session.proofs.tree_rows.rows_of.Goals as goal

pub loop-next-init : goal.loop-next-init
loop-next-init c =
    let start = IsPrinting-start c.args.tree.now c.state_law.ensures c.args.top c.requires c.in_ok-row_of.field-0 c.in_ok-row_of.ensures in
    rw (c.in_ok-push.ensures.items, c.new-rows.ensures.items, c.in_ok-wait_for.ensures, c.new-waiting.ensures.items, c.first.ensures) start

pub row_of-requires-in-Some : goal.row_of-requires-in-Some
row_of-requires-in-Some c =
    let f = c.args.tree.now.forest in
    HasNode-waiting f (tree_rows f c.args.top) c.loop-next.rows.items c.pop.new.self.items c.in-Some.next (rw c.in-Some.ensures.items at c.loop-next.invariant)

pub next-requires : goal.next-requires
next-requires c =
    let f = c.args.tree.now.forest in
    HasNode-waiting f (tree_rows f c.args.top) c.loop-next.rows.items c.pop.new.self.items c.in-Some.next (rw c.in-Some.ensures.items at c.loop-next.invariant)

pub first-requires-in-Some : goal.first-requires-in-Some
first-requires-in-Some c =
    let f = c.args.tree.now.forest in
    HasNode-waiting f (tree_rows f c.args.top) c.loop-next.rows.items c.pop.new.self.items c.in-Some.next (rw c.in-Some.ensures.items at c.loop-next.invariant)

pub overflow_add-next : goal.overflow_add-next
overflow_add-next c =
    let f = c.args.tree.now.forest in
    let shallow = shallow_waiting f (tree_rows f c.args.top) c.loop-next.rows.items c.pop.new.self.items c.in-Some.next (rw c.in-Some.ensures.items at c.loop-next.invariant) in
    omega (arith, shallow, c.loop-next.rows.small, c.loop-next.rows.ok)

pub loop-next-smaller : goal.loop-next-smaller
loop-next-smaller c =
    let f = c.args.tree.now.forest in
    let more = more_to_come f (tree_rows f c.args.top) c.loop-next.rows.items c.pop.new.self.items c.in-Some.next (rw c.in-Some.ensures.items at c.loop-next.invariant) in
    omega (arith, more, c.in_ok-push-2.ensures.len, c.loop-next.rows.ok)

pub loop-next-preserved : goal.loop-next-preserved
loop-next-preserved c =
    let f = c.args.tree.now.forest in
    let i = rw c.in-Some.ensures.items at c.loop-next.invariant in
    let step = IsPrinting-step c.args.tree.now c.state_law.ensures (tree_rows f c.args.top) c.loop-next.rows.items c.pop.new.self.items c.in-Some.next c.in_ok-row_of-2.field-0 i c.in_ok-row_of-2.ensures in
    rw (c.in_ok-push-2.ensures.items, c.in_ok-wait_for-3.ensures, c.in_ok-wait_for-2.ensures, c.next.ensures, c.first-in-Some.ensures) step
