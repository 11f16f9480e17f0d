use Rattle.std.proofs.Common.{sym, ◌∙◌}
use Rattle.dom_ranges.proofs.RangeTableLemmas.{live-counted}
use Rattle.dom_ranges.proofs.live_ranges.Ranges.count.Goals as goal

pub returns : goal.returns
returns c = c.count.ensures ∙ sym (live-counted c.state_law.ensures.fit c.self.inside.chains c.self.invariant _ c.self.view_is)
