use Rattle.dom_traverse.proofs.{GaveWayLemmas.fewer-wait, FlushLemmas.caught_up-end}
use Rattle.dom_traverse.proofs.located.flush_pending.Goals as goal

pub loop-slot-smaller : goal.loop-slot-smaller
loop-slot-smaller g c = rw c.set.ensures (fewer-wait c.loop-slot.whereabouts c.in-Some.slot _ c.in-Some.ensures.within c.in-Some.ensures.some)

pub returns : goal.returns
returns g c = caught_up-end g.T.Positioned.node_of c.args.items.now c.loop-slot.whereabouts c.loop-slot.invariant c.in_default.ensures.none
