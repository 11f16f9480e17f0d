-- The link leads where its pointer does.
use Rattle.std.proofs.Common.{sym}
use Rattle.dom_tree.proofs.PlaceWalkLemmas.{led}
use Rattle.dom_tree.proofs.neighbours.parent.Goals as goal

pub returns : goal.returns
returns g c = led (sym c.get.ensures) (record { slot = c.parent.ensures.slot; placed = c.parent.ensures.placed })
