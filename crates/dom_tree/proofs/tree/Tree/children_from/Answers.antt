-- From where the child lies on stand the children from it on.
use Rattle.std.proofs.Common.{sym}
use Rattle.dom_links.specs.Placed.{slots_of}
use Rattle.dom_tree.proofs.{ChildrenFromLemmas.given-child, ChildrenFromLemmas.given-numbers, PlaceTableLemmas.places-held}
use Rattle.dom_tree.proofs.tree.Tree.children_from.Goals as goal

pub link_to-from-requires : goal.link_to-from-requires
link_to-from-requires g c = places-held c.self.invariant c.self.view_is c.args.child c.args.parent c.requires

pub invariant_of-result : goal.invariant_of-result
invariant_of-result g c = record {
  placed = c.link_to-from.ensures.placed;
  child = given-child c.self.invariant.tree c.self.view_is c.state_law.ensures c.args.child (slots_of c.self.inside.links c.link_to-from.result) c.args.parent (sym c.link_to-from.ensures.slot) c.requires;
}

pub returns : goal.returns
returns g c =
    given-numbers c.self.invariant.tree c.self.view_is c.state_law.ensures c.args.child (slots_of c.self.inside.links c.link_to-from.result) c.args.parent (sym c.link_to-from.ensures.slot) c.requires
