-- The item that was there names its nodes no more, and the last lies in its slot.
use Rattle.dom_traverse.proofs.LocatedLemmas.{root-counted, found-fewer}
use Rattle.dom_traverse.proofs.located.Located.release.Goals as goal

pub unname-requires : goal.unname-requires
unname-requires g c =
    root-counted g.T.Positioned.root_of g.T.Positioned.node_of c.self.inside.items.items c.self.inside.roots c.self.inside.whereabouts c.self.invariant c.release-slot.result.0 c.release-slot.result.1
    c.release-slot.ensures.item c.root.result c.root.ensures

pub invariant_of-self : goal.invariant_of-self
invariant_of-self g c =
    found-fewer g.T.Positioned.root_of g.T.Positioned.node_of c.self.inside.items.items c.self.inside.roots c.self.inside.whereabouts c.self.invariant c.release-slot.result.0 c.release-slot.result.1
    c.release-slot.ensures.item c.root.result c.root.ensures
    c.release-slot.new.self.items c.unname.new.roots c.swap_remove.new.self c.unname.ensures c.swap_remove.ensures c.release-slot.ensures.items
