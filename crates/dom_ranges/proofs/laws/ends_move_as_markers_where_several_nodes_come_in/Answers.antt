use Rattle.dom_ranges.proofs.InsertionMarkerLemmas.{moves-insertions}
use Rattle.dom_ranges.proofs.laws.ends_move_as_markers_where_several_nodes_come_in.Goals as goal

pub returns : goal.returns
returns c = moves-insertions
