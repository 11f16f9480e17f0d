use Rattle.dom_model.proofs.TokenText.PointGaps.GapsInOrder.{gaps-in_order}
use Rattle.dom_point.proofs.laws.points_as_gaps.Goals as goal

pub returns : goal.returns
returns c = λ g s root p q b d. gaps-in_order g.forest s.once s.kinds root p q b.under d.under b.within d.within
