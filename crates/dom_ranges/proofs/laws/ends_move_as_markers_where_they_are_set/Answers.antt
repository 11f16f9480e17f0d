use Rattle.dom_ranges.proofs.SetMarkerLemmas.{moves-set}
use Rattle.dom_ranges.proofs.laws.ends_move_as_markers_where_they_are_set.Goals as goal

pub returns : goal.returns
returns c = moves-set
