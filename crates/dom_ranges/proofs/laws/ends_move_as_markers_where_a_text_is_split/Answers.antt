use Rattle.dom_ranges.proofs.MoveAsMarkersLemmas.{moves-parting}
use Rattle.dom_ranges.proofs.laws.ends_move_as_markers_where_a_text_is_split.Goals as goal

pub returns : goal.returns
returns c = moves-parting
