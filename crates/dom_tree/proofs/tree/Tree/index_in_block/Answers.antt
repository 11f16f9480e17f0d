-- The place by slot is the index by number.
use Rattle.std.proofs.Common.{◌≡◌, IfSome, ap, sym, ◌∙◌, subst}
use Rattle.dom_model.specs.Definitions.{place_in, entry_at, list_under}
use Rattle.dom_links.specs.Placed.{slot_of}
use Rattle.dom_tree.proofs.{SlotStepLemmas.index-slots, PlaceWalkLemmas.led, PlaceTableLemmas.place-held, PlaceTableLemmas.slot-led}
use Rattle.dom_tree.proofs.tree.Tree.index_in_block.Goals as goal

pub place_of-place-requires : goal.place_of-place-requires
place_of-place-requires g c = place-held c.self.invariant c.self.view_is c.args.id c.requires

pub returns : goal.returns
returns g c =
    let up = led c.in_ok-above.was c.parent.ensures in
    let s = slot_of c.self.inside.links c.place_of-place.result in
    let place = index-slots c.self.invariant.tree c.self.view_is c.state_law.ensures c.args.id s (slot-led c.place_of-place.ensures) ∙ ap (λ o. place_in s (list_under (entry_at c.self.inside.links.arena) o)) (slot-led up) in
    subst (λ n. IfSome c.index_in_block.result (λ i. i ≡ n)) (sym place) c.index_in_block.ensures
