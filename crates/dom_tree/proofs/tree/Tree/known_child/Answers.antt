-- The place is one of the store's.
use Rattle.dom_tree.proofs.PlaceTableLemmas.{place-held}
use Rattle.dom_tree.proofs.tree.Tree.known_child.Goals as goal

pub place_of-place-requires : goal.place_of-place-requires
place_of-place-requires g c = place-held c.self.invariant c.self.view_is c.args.parent c.requires
