-- Each step gathers one node.
use Rattle.std.proofs.Common.{sym, ◌∙◌}
use Rattle.dom_model.proofs.Forests.TreeOrder.InsideWalks.{at-next, smaller}
use Rattle.dom_data.proofs.TextsBelow.{collecting-top, collecting-next, collecting-end}
use Rattle.dom_data.proofs.normalization.texts_below.Goals as goal

pub loop-next-init : goal.loop-next-init
loop-next-init c = collecting-top c.args.tree.now c.state_law.ensures c.args.top c.requires.held _ c.new-texts.ensures.items

pub next_inside-requires-clause-held : goal.next_inside-requires-clause-held
next_inside-requires-clause-held c = c.loop-next.invariant.at.there

pub next_inside-requires-clause-under : goal.next_inside-requires-clause-under
next_inside-requires-clause-under c = c.loop-next.invariant.at.under

pub append_text-requires : goal.append_text-requires
append_text-requires c = record { held = (at-next c.args.tree.now c.state_law.ensures c.args.top c.loop-next.here c.in-Some.next (sym c.next_inside.ensures ∙ c.in-Some.is)).there }

pub loop-next-smaller : goal.loop-next-smaller
loop-next-smaller c = smaller c.args.tree.now c.state_law.ensures c.args.top c.loop-next.here c.in-Some.next (sym c.next_inside.ensures ∙ c.in-Some.is)

pub loop-next-preserved : goal.loop-next-preserved
loop-next-preserved c =
    collecting-next c.args.tree.now c.state_law.ensures c.args.top c.loop-next.here c.in-Some.next c.loop-next.texts.items c.append_text.new.texts.items c.loop-next.invariant (sym c.next_inside.ensures ∙ c.in-Some.is) c.in_ok-append_text.ensures

pub returns : goal.returns
returns c = collecting-end c.args.tree.now c.state_law.ensures c.args.top c.loop-next.here c.loop-next.texts.items c.loop-next.invariant (sym c.next_inside.ensures ∙ c.in_default.is)
