-- Each step finds one Text.
use Rattle.std.proofs.Common.{sym, ◌∙◌}
use Rattle.dom_data.proofs.FollowingTexts.{following-first, following-next, following-smaller, following-end}
use Rattle.dom_data.proofs.normalization.texts_behind.Goals as goal

pub loop-next-init : goal.loop-next-init
loop-next-init c = following-first c.args.tree.now c.state_law.ensures c.args.node c.requires.held _ c.new-texts.ensures.items

pub next_text-requires : goal.next_text-requires
next_text-requires c = record { held = c.loop-next.invariant.there }

pub loop-next-smaller : goal.loop-next-smaller
loop-next-smaller c = following-smaller c.args.tree.now c.state_law.ensures c.args.node c.loop-next.here c.loop-next.texts.items c.loop-next.invariant c.in-Some.next (sym c.next_text.ensures ∙ c.in-Some.is)

pub loop-next-preserved : goal.loop-next-preserved
loop-next-preserved c =
    following-next c.args.tree.now c.state_law.ensures c.args.node c.loop-next.here c.loop-next.texts.items c.loop-next.invariant c.in-Some.next (sym c.next_text.ensures ∙ c.in-Some.is) c.push.new.self.items c.in_ok-push.ensures.items

pub returns : goal.returns
returns c = following-end c.args.tree.now c.state_law.ensures c.args.node c.loop-next.here c.loop-next.texts.items c.loop-next.invariant (sym c.next_text.ensures ∙ c.in_default.is)
