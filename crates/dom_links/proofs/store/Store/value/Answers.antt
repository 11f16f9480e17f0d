use Rattle.dom_links.proofs.PlacedLemmas.{placed_node, told}
use Rattle.dom_links.proofs.store.Store.value.Goals as goal

pub get-requires : goal.get-requires
get-requires g c = placed_node c.self.invariant.stands c.self.view_is c.requires c.node.ensures

pub returns : goal.returns
returns g c = (told c.self.invariant.stands c.self.view_is c.requires c.node.ensures c.get.ensures).value
