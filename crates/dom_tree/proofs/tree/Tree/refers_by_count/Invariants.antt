-- How far the counts have been taken, and where the walk stands.
use Rattle.std.proofs.Common.{length}
use Rattle.dom_model.specs.Definitions.{from_first, inclusive_descendants}
use Rattle.dom_tree.proofs.RefersByCountLemmas.{IsCounting}
use Rattle.dom_tree.proofs.tree.Tree.refers_by_count.Given as goal

abbrev pub invariant-loop-owned : goal.invariant-loop-owned
invariant-loop-owned g l = IsCounting l.self l.top l.here l.owned l.inside

abbrev pub decreases-loop-owned : goal.decreases-loop-owned
decreases-loop-owned g l = length (from_first l.here (inclusive_descendants l.self.forest l.top))
