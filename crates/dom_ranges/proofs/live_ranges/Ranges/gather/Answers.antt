-- Each step gathers the ends of one node.
use Rattle.std.proofs.Common.{sym, ap, ◌∙◌}
use Rattle.dom_ranges.specs.Tables.{RangeTable, covers}
use Rattle.dom_ranges.proofs.ForgetInsideLemmas.{gathered-top, gathered-next, gathered-end, gathered-rest}
use Rattle.dom_ranges.proofs.live_ranges.Ranges.gather.Goals as goal

pub loop-step-init : goal.loop-step-init
loop-step-init g c s = gathered-top c.args.tree.now s c.args.top c.args.self.now c.args.to c.requires.held

pub gather_at-requires-clause-covered : goal.gather_at-requires-clause-covered
gather_at-requires-clause-covered g c =
    ap (λ (v : RangeTable). covers v.covered c.args.to.node) (c.loop-step.invariant c.state_law.ensures).moved ∙ c.requires.covered

pub gather_ends-requires : goal.gather_ends-requires
gather_ends-requires g c = record { covered = ap (λ (v : RangeTable). covers v.covered c.args.to.node) (c.loop-step.invariant c.state_law.ensures).moved ∙ c.requires.covered }

pub next_inside-requires-clause-held : goal.next_inside-requires-clause-held
next_inside-requires-clause-held g c = (c.loop-step.invariant c.state_law.ensures).at.there

pub next_inside-requires-clause-under : goal.next_inside-requires-clause-under
next_inside-requires-clause-under g c = (c.loop-step.invariant c.state_law.ensures).at.under

pub loop-step-preserved : goal.loop-step-preserved
loop-step-preserved g c s =
    gathered-next c.args.tree.now s c.args.top c.args.self.now c.loop-step.self c.gather_at.new.self c.args.to c.loop-step.here c.in-Some.next (c.loop-step.invariant s) (sym c.next_inside.ensures ∙ c.in-Some.is) c.gather_at.ensures

pub returns-in-None : goal.returns-in-None
returns-in-None g c =
    gathered-end c.args.tree.now c.state_law.ensures c.args.top c.args.self.now c.loop-step.self c.gather_at.new.self c.args.to c.loop-step.here (c.loop-step.invariant c.state_law.ensures) (sym c.next_inside.ensures ∙ c.in-None.is) c.gather_at.ensures

pub returns : goal.returns
returns g c =
    gathered-rest c.args.tree.now c.state_law.ensures c.args.top c.args.self.now c.loop-step.self c.gather_ends.new.self c.args.to c.loop-step.here (c.loop-step.invariant c.state_law.ensures) c.gather_ends.ensures
