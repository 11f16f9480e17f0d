-- Each step gathers the data of one node.
use Rattle.std.proofs.Common.{sym, ◌∙◌}
use Rattle.dom_model.proofs.Forests.TreeOrder.InsideWalks.{at-next, smaller}
use Rattle.dom_data.proofs.GatheredLemmas.{gathering-top, gathering-next, gathering-end}
use Rattle.dom_data.proofs.text_contents.descendant_text.Goals as goal

pub loop-next-init : goal.loop-next-init
loop-next-init c = gathering-top c.args.tree.now c.state_law.ensures c.args.top c.requires.held c.new-text.result c.new-text.ensures

pub next_inside-requires-clause-held : goal.next_inside-requires-clause-held
next_inside-requires-clause-held c = c.loop-next.invariant.at.there

pub next_inside-requires-clause-under : goal.next_inside-requires-clause-under
next_inside-requires-clause-under c = c.loop-next.invariant.at.under

pub append_data-requires : goal.append_data-requires
append_data-requires c = record { held = (at-next c.args.tree.now c.state_law.ensures c.args.top c.loop-next.here c.in-Some.next (sym c.next_inside.ensures ∙ c.in-Some.is)).there }

pub loop-next-smaller : goal.loop-next-smaller
loop-next-smaller c = smaller c.args.tree.now c.state_law.ensures c.args.top c.loop-next.here c.in-Some.next (sym c.next_inside.ensures ∙ c.in-Some.is)

pub loop-next-preserved : goal.loop-next-preserved
loop-next-preserved c =
    gathering-next c.args.tree.now c.state_law.ensures c.args.top c.loop-next.here c.in-Some.next c.loop-next.text c.append_data.new.text c.loop-next.invariant (sym c.next_inside.ensures ∙ c.in-Some.is) c.in_ok-append_data.ensures

pub returns : goal.returns
returns c = gathering-end c.args.tree.now c.state_law.ensures c.args.top c.loop-next.here c.loop-next.text c.loop-next.invariant (sym c.next_inside.ensures ∙ c.in_default.is)
