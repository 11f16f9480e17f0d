use Rattle.dom_model.proofs.Soundness.SoundAnswers.{sound-reached}
use Rattle.dom_model.proofs.TokenText.Contents.RangeText.{range_text-between, range_text-answered}
use Rattle.dom_session.proofs.laws.range_text_is_what_lies_between.Goals as goal

pub returns : goal.returns
returns c = record {
  text = λ w r root range sound there rooted. range_text-between w r root range sound there rooted;
  answered = λ b cs r root range there rooted. range_text-answered b _ r root range (sound-reached b cs) there rooted;
}
