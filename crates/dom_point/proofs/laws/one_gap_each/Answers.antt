use Rattle.dom_model.proofs.TokenText.PointGaps.GapsInOrder.{gap-only}
use Rattle.dom_point.proofs.laws.one_gap_each.Goals as goal

pub returns : goal.returns
returns c = λ g s root p b. gap-only g.forest s.once s.kinds root p b.under b.within
