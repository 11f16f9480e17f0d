-- Fewer and fewer wait.
use Rattle.dom_traverse.specs.PositionsByNode.{StandOrWait}
use Rattle.dom_traverse.proofs.GaveWayLemmas.{waiting}
use Rattle.dom_traverse.proofs.located.flush_pending.Given as goal

abbrev pub invariant-loop-slot : goal.invariant-loop-slot
invariant-loop-slot g l = StandOrWait g.T.Positioned.node_of l.items l.whereabouts

abbrev pub decreases-loop-slot : goal.decreases-loop-slot
decreases-loop-slot g l = waiting l.whereabouts
