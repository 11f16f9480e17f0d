-- The nodes are the same, and the indices right.
use Rattle.std.proofs.Common.{refl, ap, sym, ◌∙◌, subst}
use Rattle.dom_model.specs.Definitions.{place_in, Arena, entry_at, list_under, Node}
use Rattle.dom_tree.specs.Tallies.{AreTallied}
use Rattle.dom_links.specs.Placed.{slot_of}
use Rattle.dom_tree.proofs.{SlotStepLemmas.index-slots, SlotStepLemmas.numbered-shown, OwnedTrees.numbered-tree, PlaceWalkLemmas.led, PlaceTableLemmas.place-held, PlaceTableLemmas.slot-led, PlaceTableLemmas.seated, PlaceTableLemmas.same-places}
use Rattle.dom_tree.proofs.tree.Tree.cache_index.Goals as goal

pub place_of-place-requires : goal.place_of-place-requires
place_of-place-requires g c = place-held c.self.invariant c.self.view_is c.args.id c.requires.held

pub parent-requires : goal.parent-requires
parent-requires g c = c.place_of-place.ensures.placed c.place_of-place.result refl

pub number_around-requires : goal.number_around-requires
number_around-requires g c =
    let up = led c.in-Some.is c.parent.ensures in
    let s = slot_of c.self.inside.links c.place_of-place.result in
    record {
      parent_placed = up.placed c.in-Some.above refl;
      child_placed = c.place_of-place.ensures.placed c.place_of-place.result refl;
      sound = c.state_law.ensures;
      counted = c.self.invariant.tree.stored.counted;
      blocked = c.self.invariant.blocked;
      child = slot-led up;
      index = c.requires.index ∙ index-slots c.self.invariant.tree c.self.view_is c.state_law.ensures c.args.id s (slot-led c.place_of-place.ensures) ∙ ap (λ o. place_in s (list_under (entry_at c.self.inside.links.arena) o)) (slot-led up);
    }

pub invariant_of-self : goal.invariant_of-self
invariant_of-self g c =
    let links = c.number_around.new.links in
    let n = c.number_around.ensures.renumbered in
    seated c.self.invariant links c.number_around.ensures.places (numbered-tree c.self.invariant.tree links.arena c.number_around.new.blocks n) n.blocked
    (subst (λ (a : Arena (Node g.row.X.Denot)). AreTallied (entry_at a) c.self.inside.tallies) (sym n.nodes) c.self.invariant.tallied)

pub returns-in-Some : goal.returns-in-Some
returns-in-Some g c =
    let links = c.number_around.new.links in
    same-places c.self.inside.links links c.self.inside.table.items c.number_around.ensures.places
    (numbered-shown c.self.invariant.tree c.self.view_is links.arena c.number_around.new.blocks c.number_around.ensures.renumbered)
