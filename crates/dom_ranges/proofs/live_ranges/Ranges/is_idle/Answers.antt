use Rattle.std.proofs.Common.{sym, ◌∙◌}
use Rattle.std.proofs.lemmas.Bool.{eqb-true}
use Rattle.dom_ranges.proofs.RangeTableLemmas.{idle-none}
use Rattle.dom_ranges.proofs.live_ranges.Ranges.is_idle.Goals as goal

pub returns : goal.returns
returns c idle = idle-none c.args.self.now.ranges (sym c.count.ensures ∙ eqb-true c.count.result 0 idle)
