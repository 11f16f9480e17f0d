-- A parent that is taken out of the map has no blocks.
use Rattle.std.proofs.Common.{None, [], refl}
use Rattle.dom_tree.proofs.MapTable.{blocks, but-changed}
use Rattle.dom_tree.proofs.blocks.remove.Goals as goal

pub returns-clause-counts : goal.returns-clause-counts
returns-clause-counts c = but-changed blocks c.args.by_slot.now.entries refl refl c.swap_remove.new.self.entries None c.swap_remove.ensures.updates.0 [] refl
