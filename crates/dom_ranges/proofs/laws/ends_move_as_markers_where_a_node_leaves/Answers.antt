use Rattle.dom_ranges.proofs.MoveAsMarkersLemmas.{moves-removal}
use Rattle.dom_ranges.proofs.laws.ends_move_as_markers_where_a_node_leaves.Goals as goal

pub returns : goal.returns
returns c = moves-removal
