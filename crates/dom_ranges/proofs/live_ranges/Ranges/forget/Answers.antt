-- Each step passes one node.
use Rattle.std.proofs.Common.{sym, ◌∙◌}
use Rattle.dom_model.proofs.Forests.TreeOrder.InsideWalks.{smaller}
use Rattle.dom_ranges.proofs.ForgetInsideLemmas.{forgetting-top, forgetting-next, forgetting-end, forgetting-empty}
use Rattle.dom_ranges.proofs.live_ranges.Ranges.forget.Goals as goal

pub loop-next-init : goal.loop-next-init
loop-next-init g c s = forgetting-top c.args.tree.now s c.args.top c.args.self.now c.requires.held

pub forget_one-requires : goal.forget_one-requires
forget_one-requires g c = forgetting-empty c.args.tree.now c.state_law.ensures c.args.top c.args.self.now c.loop-next.self c.loop-next.here (c.loop-next.invariant c.state_law.ensures) c.requires.empty

pub next_inside-requires : goal.next_inside-requires
next_inside-requires g c = record { held = (c.loop-next.invariant c.state_law.ensures).at.there; under = (c.loop-next.invariant c.state_law.ensures).at.under }

pub loop-next-smaller : goal.loop-next-smaller
loop-next-smaller g c = smaller c.args.tree.now c.state_law.ensures c.args.top c.loop-next.here c.in-Some.next (sym c.next_inside.ensures ∙ c.in-Some.is)

pub loop-next-preserved : goal.loop-next-preserved
loop-next-preserved g c s =
    forgetting-next c.args.tree.now s c.args.top c.args.self.now c.loop-next.self c.forget_one.new.self c.loop-next.here c.in-Some.next (c.loop-next.invariant s) (sym c.next_inside.ensures ∙ c.in-Some.is) c.forget_one.ensures

pub returns-in_default : goal.returns-in_default
returns-in_default g c =
    forgetting-end c.args.tree.now c.state_law.ensures c.args.top c.args.self.now c.loop-next.self c.forget_one.new.self c.loop-next.here (c.loop-next.invariant c.state_law.ensures) (sym c.next_inside.ensures ∙ c.in_default.is) c.forget_one.ensures
