use Rattle.dom_ranges.proofs.JoinMarkerLemmas.{moves-joined}
use Rattle.dom_ranges.proofs.laws.ends_move_as_markers_where_texts_are_joined.Goals as goal

pub returns : goal.returns
returns c = moves-joined
