use Rattle.dom_model.proofs.Counting.NumbersStay.{counts-rise}
use Rattle.dom_session.proofs.laws.numbers_only_rise.Goals as goal

pub returns : goal.returns
returns c = λ b w cs. counts-rise b w cs
