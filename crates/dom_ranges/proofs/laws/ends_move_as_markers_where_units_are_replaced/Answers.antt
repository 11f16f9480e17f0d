use Rattle.dom_ranges.proofs.MoveAsMarkersLemmas.{moves-splice}
use Rattle.dom_ranges.proofs.laws.ends_move_as_markers_where_units_are_replaced.Goals as goal

pub returns : goal.returns
returns c = moves-splice
