-- The nodes and the blocks are the same.
use Rattle.dom_tree.proofs.PlaceTableLemmas.{place-held}
use Rattle.dom_tree.proofs.tree.Tree.reserve_blocks.Goals as goal

pub place_of-place-requires : goal.place_of-place-requires
place_of-place-requires g c = place-held c.self.invariant c.self.view_is c.args.parent c.requires
