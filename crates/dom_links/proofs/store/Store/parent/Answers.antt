use Rattle.dom_links.proofs.PlacedLemmas.{placed_node, told}
use Rattle.dom_links.proofs.store.Store.parent.Goals as goal

pub get-requires : goal.get-requires
get-requires g c = placed_node c.self.invariant.stands c.self.view_is c.requires c.node.ensures

pub returns-clause-slot : goal.returns-clause-slot
returns-clause-slot g c = (told c.self.invariant.stands c.self.view_is c.requires c.node.ensures c.get.ensures).parent.slot

pub returns-clause-placed : goal.returns-clause-placed
returns-clause-placed g c = (told c.self.invariant.stands c.self.view_is c.requires c.node.ensures c.get.ensures).parent.placed
