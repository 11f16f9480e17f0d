-- The link leads where its pointer does.
use Rattle.std.proofs.Common.{sym}
use Rattle.dom_tree.proofs.PlaceWalkLemmas.{led}
use Rattle.dom_tree.proofs.neighbours.next.Goals as goal

pub returns : goal.returns
returns g c = led (sym c.get.ensures) (record { slot = c.next.ensures.slot; placed = c.next.ensures.placed })
