use Rattle.dom_model.proofs.Soundness.SoundAnswers.{sound-reached}
use Rattle.dom_session.proofs.laws.worlds_stay_sound.Goals as goal

pub returns : goal.returns
returns c = λ b cs. sound-reached b cs
