-- A number that is given leads to its place.
use Rattle.std.proofs.Common.{◌≡◌, Some, None, refl, sym, subst}
use Rattle.dom_tree.specs.{Places.slots_in, Places.Leads, SpelledForest.slot_for}
use Rattle.dom_tree.proofs.PlaceWalkLemmas.{led}
use Rattle.dom_tree.proofs.neighbours.link_to.Goals as goal

pub place_of-requires : goal.place_of-requires
place_of-requires g c = c.requires c.in-Some.id c.in-Some.is

pub returns-in-Some : goal.returns-in-Some
returns-in-Some g c =
    let links = c.args.links.now in
    let table = slots_in links c.args.table.now.items in
    led (sym c.to.ensures) (subst (λ o. Leads links (Some c.place_of.result) (slot_for table o)) (sym c.in-Some.is) c.place_of.ensures)

pub returns-in-None : goal.returns-in-None
returns-in-None g c =
    let links = c.args.links.now in
    let table = slots_in links c.args.table.now.items in
    led (sym c.none.ensures) (subst (λ o. Leads links None (slot_for table o)) (sym c.in-None.is) (record { slot = refl; placed = λ p e. absurd (let z : None ≡ Some p = e in cc z) }))
