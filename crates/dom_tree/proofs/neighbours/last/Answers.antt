-- The link leads where its pointer does.
use Rattle.std.proofs.Common.{sym}
use Rattle.dom_tree.proofs.PlaceWalkLemmas.{led}
use Rattle.dom_tree.proofs.neighbours.last.Goals as goal

pub returns : goal.returns
returns g c = led (sym c.get.ensures) (record { slot = c.last.ensures.slot; placed = c.last.ensures.placed })
