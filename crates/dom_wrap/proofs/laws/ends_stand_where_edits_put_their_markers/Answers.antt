use Rattle.dom_model.specs.Definitions.{texts_of, all_on_texts, all_on_world}
use Rattle.dom_model.proofs.TokenText.{Marked.MarkedFirst.marked-first, Marked.MarkedEdits.marked-edits, Marked.MarkedEdits.end-found, Marked.MarkedEdits.markers-follow}
use Rattle.dom_wrap.proofs.laws.ends_stand_where_edits_put_their_markers.Goals as goal

pub returns : goal.returns
returns c = record {
  gaps = λ w es childless fit ready r side. end-found (all_on_texts es (texts_of w)) (all_on_world es w) (marked-edits es (texts_of w) w (marked-first w childless) fit) ready r side;
  ranges = λ w es childless fit ready. markers-follow w es childless fit ready;
}
