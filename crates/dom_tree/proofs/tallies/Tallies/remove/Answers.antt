-- A parent that is taken out of the map has no counts.
use Rattle.std.proofs.Common.{None, refl}
use Rattle.dom_tree.proofs.MapTable.{tallies, but-changed}
use Rattle.dom_tree.proofs.tallies.Tallies.remove.Goals as goal

pub returns : goal.returns
returns c = but-changed tallies c.self.inside.by_slot.entries c.self.view_is c.number.ensures c.swap_remove.new.self.entries None c.swap_remove.ensures.updates.0 _ refl
