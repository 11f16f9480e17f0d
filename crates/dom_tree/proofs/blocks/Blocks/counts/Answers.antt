-- What the map has for the parent.
use Rattle.std.proofs.Common.{sym}
use Rattle.dom_tree.proofs.MapTable.{blocks, held-at}
use Rattle.dom_tree.proofs.blocks.Blocks.counts.Goals as goal

pub returns : goal.returns
returns c = sym (held-at blocks c.self.inside.by_slot.entries c.self.view_is c.number.ensures _ (c.get.ensures.value))
