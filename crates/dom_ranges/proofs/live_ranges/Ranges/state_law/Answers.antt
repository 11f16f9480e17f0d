use Rattle.std.proofs.Common.{ap, sym, ◌∙◌}
use Rattle.dom_ranges.specs.Tables.{RangeTable, covers}
use Rattle.dom_ranges.proofs.RangeTableLemmas.{among-told}
use Rattle.dom_ranges.proofs.live_ranges.Ranges.state_law.Goals as goal

pub returns-clause-covered : goal.returns-clause-covered
returns-clause-covered c n named =
    ap (λ (v : RangeTable). covers v.covered n) (sym c.self.view_is)
    ∙ c.state_law-2.ensures.covered n (among-told c.state_law.ensures.fit c.self.inside.chains c.self.invariant _ c.self.view_is n ∙ named)
