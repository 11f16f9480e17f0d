use Rattle.dom_model.proofs.TokenText.EditsMade.MarkersKept.{ends-stay_reached, tokens-stay_reached, marks-follow_reached}
use Rattle.dom_session.proofs.laws.ends_stay_with_their_markers.Goals as goal

pub returns : goal.returns
returns c = record {
  gaps = λ b before cs r side. ends-stay_reached b before cs r side;
  tokens = λ b before cs n. tokens-stay_reached b before cs n;
  along = λ b before cs. marks-follow_reached b before cs;
}
