-- Each step takes the counts of one node.
use Rattle.std.proofs.Common.{◌≡◌, sym, ◌∙◌, arith}
use Rattle.dom_tree.proofs.RefersByCountLemmas.{one_if, bool-one, one-few, counting-start, counting-under, counting-owned, counting-inside, counting-smaller, counting-next, counting-end}
use Rattle.dom_tree.proofs.tree.Tree.refers_by_count.Goals as goal

pub loop-owned-init : goal.loop-owned-init
loop-owned-init g c = counting-start c.state_law.ensures c.args.top c.requires.held

pub overflow_add-owned : goal.overflow_add-owned
overflow_add-owned g c = omega (arith, c.state_size_law.ensures, counting-owned c.state_law.ensures c.args.top c.loop-owned.invariant c.in_ok-owned.field-0 c.in_ok-owned.ensures)

pub overflow_add-inside : goal.overflow_add-inside
overflow_add-inside g c = omega (arith, c.state_size_law.ensures, c.from.ensures, bool-one c.is_inside.result, one-few c.is_inside.result, counting-inside c.state_law.ensures c.args.top c.loop-owned.invariant)

pub next_inside-requires-clause-under : goal.next_inside-requires-clause-under
next_inside-requires-clause-under g c = counting-under c.state_law.ensures c.args.top c.loop-owned.invariant

pub loop-owned-smaller : goal.loop-owned-smaller
loop-owned-smaller g c =
    counting-smaller c.state_law.ensures c.args.top c.loop-owned.invariant c.in-Some.next (sym c.next_inside.ensures ∙ c.in-Some.is)

pub loop-owned-preserved : goal.loop-owned-preserved
loop-owned-preserved g c =
    let inside_is : c.from.result ≡ one_if c.is_inside.result = c.from.ensures ∙ bool-one c.is_inside.result in
    rw inside_is (counting-next c.state_law.ensures c.args.top c.loop-owned.invariant c.in_ok-owned.field-0 c.document_of.result c.is_inside.result c.in_ok-owned.ensures c.document_of.ensures c.is_inside.ensures c.in-Some.next (sym c.next_inside.ensures ∙ c.in-Some.is))

pub returns-in-None : goal.returns-in-None
returns-in-None g c =
    let inside_is : c.from.result ≡ one_if c.is_inside.result = c.from.ensures ∙ bool-one c.is_inside.result in
    rw inside_is (counting-end c.state_law.ensures c.args.top c.loop-owned.invariant c.in_ok-owned.field-0 c.document_of.result c.is_inside.result c.in_ok-owned.ensures c.document_of.ensures c.is_inside.ensures c.requires.no_parent (sym c.next_inside.ensures ∙ c.in-None.is))
