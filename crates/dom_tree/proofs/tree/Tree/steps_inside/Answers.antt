-- Each step passes one node.
use Rattle.std.proofs.Common.{sym, ◌∙◌}
use Rattle.dom_model.proofs.Forests.TreeOrder.InsideWalks.{at-top, at-next}
use Rattle.dom_tree.proofs.tree.Tree.steps_inside.Goals as goal

pub loop-passed-init : goal.loop-passed-init
loop-passed-init g c = at-top c.args.self.now c.state_law.ensures c.args.top c.requires.held

pub next_inside-requires-clause-held : goal.next_inside-requires-clause-held
next_inside-requires-clause-held g c = c.loop-passed.invariant.there

pub next_inside-requires-clause-under : goal.next_inside-requires-clause-under
next_inside-requires-clause-under g c = c.loop-passed.invariant.under

pub loop-passed-preserved : goal.loop-passed-preserved
loop-passed-preserved g c =
    at-next c.args.self.now c.state_law.ensures c.args.top c.loop-passed.here c.in-Some-next_inside.next (sym c.next_inside.ensures ∙ c.in-Some-next_inside.is)
