-- Each step sets one document, of the node that is next in tree order.
use Rattle.std.proofs.Common.{sym, ◌∙◌}
use Rattle.dom_tree.proofs.SetDocumentLemmas.{Adopts-start, Adopts-there, Adopts-under, Adopts-smaller, Adopts-next, Adopts-end}
use Rattle.dom_tree.proofs.tree.Tree.set_document.Goals as goal

pub loop-next-init : goal.loop-next-init
loop-next-init g c = Adopts-start c.args.self.now c.args.top c.args.document c.state_law.ensures c.requires

pub move_to-requires : goal.move_to-requires
move_to-requires g c = c.loop-next.invariant.there

pub next_inside-requires : goal.next_inside-requires
next_inside-requires g c = record { held = Adopts-there c.loop-next.invariant c.move_to.ensures c.state_law-in-loop-next.ensures; under = Adopts-under c.loop-next.invariant c.move_to.ensures c.state_law-in-loop-next.ensures }

pub loop-next-smaller : goal.loop-next-smaller
loop-next-smaller g c = Adopts-smaller c.loop-next.invariant c.move_to.ensures c.state_law-in-loop-next.ensures c.in-Some.next (sym c.next_inside.ensures ∙ c.in-Some.is)

pub loop-next-preserved : goal.loop-next-preserved
loop-next-preserved g c = Adopts-next c.loop-next.invariant c.move_to.ensures c.state_law-in-loop-next.ensures c.in-Some.next (sym c.next_inside.ensures ∙ c.in-Some.is)

pub returns-in-None : goal.returns-in-None
returns-in-None g c = Adopts-end c.loop-next.invariant c.move_to.ensures c.state_law-in-loop-next.ensures (sym c.next_inside.ensures ∙ c.in-None.is)
