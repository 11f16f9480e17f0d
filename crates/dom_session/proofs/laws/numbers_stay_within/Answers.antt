use Rattle.dom_model.proofs.Counting.NumbersKept.{asked-reached, within-limit}
use Rattle.dom_session.proofs.laws.numbers_stay_within.Goals as goal

pub returns : goal.returns
returns c = record { as_asked = λ b cs d. asked-reached b cs d; limited = λ b cs h. within-limit b cs h }
